-- That `put_row` of src/traces.rt keeps its contract.
use mathlib.Core.Path.{ap, ◌∙◌}
use borrow.Author.Tests.{eq-eqb, ne_eqb}
use Rattle.words.proofs.ChoiceLaws.{pick_true, pick-false}
use Rattle.text.specs.Text.{laid}
use Rattle.sheet_run.proofs.traces.put_row.Goals as goal

pub returns-then-refusal-eq-CARRIED_OUT : goal.returns-then-refusal-eq-CARRIED_OUT
returns-then-refusal-eq-CARRIED_OUT c =
    c.put_trace.ensures ∙ ap (laid _) (pick_true _ (eq-eqb _ _ c.if-refusal-eq-CARRIED_OUT.true))

pub returns : goal.returns
returns c =
    c.put_left_out.ensures ∙ ap (laid _) (pick-false _ (ne_eqb _ _ c.if-refusal-eq-CARRIED_OUT.false))
