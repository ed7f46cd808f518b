-- That `put_change` of src/lib.rt keeps its contract.
use mathlib.Core.Path.{ap, ◌∙◌}
use borrow.Author.Tests.{eq-eqb, ne_eqb}
use Rattle.words.proofs.ChoiceLaws.{pick_true, pick-false}
use Rattle.text.specs.Text.{write}
use Rattle.vcd.specs.Dump.{change}
use Rattle.vcd.proofs.put_change.Goals as goal

pub returns-then-width-eq1 : goal.returns-then-width-eq1
unfolding change
returns-then-width-eq1 c = c.put_identifier.ensures ∙ ap (write _) (pick_true _ (eq-eqb _ _ c.if-width-eq1.true))

pub returns : goal.returns
unfolding change
returns c = c.put_bits.ensures ∙ ap (write _) (pick-false _ (ne_eqb _ _ c.if-width-eq1.false))
