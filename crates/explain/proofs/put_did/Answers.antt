-- That `put_did` of src/lib.rt keeps its contract.
use mathlib.Core.Path.{ap, ◌∙◌}
use Rattle.text.specs.Text.{write}
use Rattle.text.proofs.WriteLaws.{and_then}
use Rattle.words.proofs.ChoiceLaws.{pick_true, pick-false}
use borrow.Author.Tests.{eq-eqb, ne_eqb}
use Rattle.explain.specs.Explain.{did_words}
use Rattle.explain.proofs.put_did.Goals as goal

pub returns-then-a-ne-CARRIED_OUT : goal.returns-then-a-ne-CARRIED_OUT
unfolding did_words
returns-then-a-ne-CARRIED_OUT c = c.put_refused.ensures ∙ ap (write _) (pick-false _ (ne_eqb _ _ c.if-a-ne-CARRIED_OUT.true))

pub returns : goal.returns
unfolding did_words
returns c =
    and_then _ _ _ (and_then _ _ _ c.put_access-b.ensures c.put_deeds-c.ensures) c.put_outputs.ensures
    ∙ ap (write _) (pick_true _ (eq-eqb _ _ c.if-a-ne-CARRIED_OUT.false))
