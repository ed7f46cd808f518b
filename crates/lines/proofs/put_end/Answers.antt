-- That `put_end` of src/lib.rt keeps its contract.
use mathlib.Core.Path.{ap, ◌∙◌}
use borrow.Author.Tests.{eq-eqb, ne_eqb}
use Rattle.words.proofs.ChoiceLaws.{pick_true, pick-false}
use Rattle.text.proofs.WriteLaws.{nothing}
use Rattle.text.specs.Text.{write}
use Rattle.lines.specs.Listing.{end_of}
use Rattle.lines.proofs.put_end.Goals as goal

pub returns-then-refusal-eq-CARRIED_OUT : goal.returns-then-refusal-eq-CARRIED_OUT
unfolding end_of
returns-then-refusal-eq-CARRIED_OUT c = nothing _ ∙ ap (write _) (pick_true _ (eq-eqb _ _ c.if-refusal-eq-CARRIED_OUT.true))

pub returns : goal.returns
unfolding end_of
returns c = c.put_refusal.ensures ∙ ap (write _) (pick-false _ (ne_eqb _ _ c.if-refusal-eq-CARRIED_OUT.false))
