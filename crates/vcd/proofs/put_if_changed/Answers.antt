-- That `put_if_changed` of src/lib.rt keeps its contract.
use mathlib.Core.Path.{ap, ◌∙◌}
use borrow.Author.Tests.{eq-eqb, ne_eqb}
use Rattle.words.proofs.ChoiceLaws.{pick_true, pick-false}
use Rattle.text.specs.Text.{write}
use Rattle.text.proofs.WriteLaws.{nothing}
use Rattle.vcd.proofs.put_if_changed.Goals as goal

pub returns-then-u-v : goal.returns-then-u-v
returns-then-u-v c = nothing _ ∙ ap (write _) (pick_true _ (eq-eqb _ _ c.if-u-v.true))

pub returns : goal.returns
returns c = c.put_change.ensures ∙ ap (write _) (pick-false _ (ne_eqb _ _ c.if-u-v.false))
