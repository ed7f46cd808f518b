use mathlib.Core.Path.{ap, ◌∙◌}
use Rattle.text.specs.Text.{write}
use Rattle.text.proofs.WriteLaws.{nothing}
use Rattle.words.proofs.ChoiceLaws.{pick_true, pick-false}
use Rattle.explain.specs.Stated.{privilege_field}
use Rattle.explain.proofs.put_privilege.Goals as goal

-- src/lib.rt:340:9
pub returns-then-told : goal.returns-then-told
unfolding privilege_field
returns-then-told c = c.put_field.ensures ∙ ap (write _) (pick_true _ c.if-told.true)

-- src/lib.rt:336:1
pub returns : goal.returns
unfolding privilege_field
returns c = nothing _ ∙ ap (write _) (pick-false _ c.if-told.false)
