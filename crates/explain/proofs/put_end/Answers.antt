-- That `put_end` of src/lib.rt keeps its contract.
use mathlib.Core.Path.{ap, ◌∙◌}
use mathlib.Core.Bool.{not}
use borrow.Author.Tests.{eq-eqb, ne_eqb}
use Rattle.text.specs.Text.{write}
use Rattle.text.proofs.WriteLaws.{nothing}
use Rattle.words.specs.Choice.{pick}
use Rattle.words.proofs.ChoiceLaws.{pick_true, pick-false}
use Rattle.explain.specs.Explain.{end_of}
use Rattle.explain.proofs.put_end.Goals as goal

pub returns-then-refusal-eq-CARRIED_OUT : goal.returns-then-refusal-eq-CARRIED_OUT
unfolding end_of
returns-then-refusal-eq-CARRIED_OUT c =
    rw c.in-Whole.is (nothing _ ∙ ap (write _) (pick-false _ (ap not (eq-eqb _ 0 c.if-refusal-eq-CARRIED_OUT.true))))

pub returns-else-refusal-eq-CARRIED_OUT : goal.returns-else-refusal-eq-CARRIED_OUT
unfolding end_of
returns-else-refusal-eq-CARRIED_OUT c =
    rw c.in-Whole.is (c.put_end_line.ensures ∙ ap (write _) (pick_true _ (ap not (ne_eqb _ 0 c.if-refusal-eq-CARRIED_OUT.false))))

pub returns-in-Part : goal.returns-in-Part
unfolding end_of pick
returns-in-Part c = rw c.in-Part.is (nothing _)
