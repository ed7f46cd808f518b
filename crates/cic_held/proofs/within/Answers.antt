-- That `within` of src/lib.rt keeps its contract.
use mathlib.Core.Path.{◌∙◌}
use borrow.Author.Tests.{eq-eqb, ne_eqb}
use Rattle.words.proofs.ChoiceLaws.{pick_true, pick-false}
use Rattle.cic_held.specs.Held.{within}
use Rattle.cic_held.proofs.within.Goals as goal

pub returns-then-nth-eq4 : goal.returns-then-nth-eq4
unfolding within
returns-then-nth-eq4 c = pick_true _ (eq-eqb c.args.nth 4 c.if-nth-eq4.true)

pub returns : goal.returns
unfolding within
returns c = c.within.ensures ∙ pick-false _ (ne_eqb c.args.nth 4 c.if-nth-eq4.false)
