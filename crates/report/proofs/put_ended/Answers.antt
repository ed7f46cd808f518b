-- That `put_ended` of src/lib.rt keeps its contract.
use mathlib.Core.Path.{ap, ◌∙◌}
use borrow.Author.Tests.{eq-eqb, ne_eqb}
use Rattle.words.proofs.ChoiceLaws.{pick_true, pick-false}
use Rattle.text.specs.Text.{write}
use Rattle.text.proofs.WriteLaws.{and_then, nothing}
use Rattle.text.specs.Phrases.{bytes}
use Rattle.report.specs.Printed.{ended_at}
use Rattle.report.proofs.put_ended.Goals as goal

pub returns-then-refusal-eq-CARRIED_OUT : goal.returns-then-refusal-eq-CARRIED_OUT
unfolding ended_at
returns-then-refusal-eq-CARRIED_OUT c = nothing _ ∙ ap (write _) (pick_true _ (eq-eqb _ _ c.if-refusal-eq-CARRIED_OUT.true))

pub returns : goal.returns
unfolding ended_at bytes
returns c =
    and_then _ _ _ (and_then _ _ _ c.put_all-a.ensures c.put_field-b.ensures) c.put_field.ensures
    ∙ ap (write _) (pick-false _ (ne_eqb _ _ c.if-refusal-eq-CARRIED_OUT.false))
