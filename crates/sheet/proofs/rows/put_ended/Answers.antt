-- That `put_ended` of src/rows.rt keeps its contract.
use Rattle.text.specs.Phrases.{bytes}
use Rattle.sheet.specs.Rows.{ended}
use Rattle.text.proofs.WriteLaws.{and_then}
use Rattle.text.specs.Text.{write}
use Rattle.words.proofs.ChoiceLaws.{pick-false, pick_true}
use borrow.Author.Tests.{eq-eqb, ne_eqb}
use mathlib.Core.Path.{◌∙◌, ap}
use Rattle.sheet.proofs.rows.put_ended.Goals as goal

pub returns-then-refusal-eq-CARRIED_OUT : goal.returns-then-refusal-eq-CARRIED_OUT
unfolding ended bytes
returns-then-refusal-eq-CARRIED_OUT c =
    c.put_all.ensures ∙ ap (write _) (pick_true _ (eq-eqb _ _ c.if-refusal-eq-CARRIED_OUT.true))

pub returns : goal.returns
unfolding ended bytes
returns c =
    and_then _ _ _ (and_then _ _ _ c.put_all-a.ensures c.put_field-b.ensures) c.put_field.ensures ∙ ap (write _) (pick-false _ (ne_eqb _ _ c.if-refusal-eq-CARRIED_OUT.false))
