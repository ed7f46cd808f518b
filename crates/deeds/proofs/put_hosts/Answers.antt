-- That `put_hosts` of src/lib.rt keeps its contract.
use mathlib.Core.Path.{ap, ◌∙◌}
use Rattle.text.specs.Text.{write}
use Rattle.text.proofs.WriteLaws.{and_then, nothing}
use borrow.Author.Tests.{eq-eqb, ne_eqb}
use Rattle.words.proofs.ChoiceLaws.{pick_true, pick-false}
use Rattle.deeds.specs.Deeds.{host_words}
use borrow.Author.Rules.{rules}
use Rattle.deeds.proofs.put_hosts.Goals as goal

pub returns-then-count-eq0 : goal.returns-then-count-eq0
unfolding host_words
returns-then-count-eq0 c = nothing _ ∙ ap (write _) (pick_true _ (eq-eqb _ _ c.if-count-eq0.true))

pub put_further-requires : goal.put_further-requires
put_further-requires c = search rules

pub returns : goal.returns
unfolding host_words
returns c =
    and_then _ _ _ c.put_counted-a.ensures c.put_further.ensures ∙ ap (write _) (pick-false _ (ne_eqb _ _ c.if-count-eq0.false))
