-- That `wire_kept` of src/record.rt keeps its contract.
use Rattle.board.specs.Sound.{wire_rule, lower}
use Rattle.words.proofs.ChoiceLaws.{pick_true, pick-false}
use borrow.Author.Tests.{lt-ltb, le-ltb}
use mathlib.Core.Path.{ap, ◌∙◌}
use mathlib.Core.Bool.{Bool, ◌&&◌}
use lib.Dec.{ltb}
use Rattle.board.proofs.record.wire_kept.Goals as goal

pub returns-then-c-n : goal.returns-then-c-n
unfolding wire_rule
returns-then-c-n c = let a = c.args in ap (λ (t : Bool). ltb a.w 337 && t) (c.is_lower.ensures ∙ ap (lower a.c) c.wire_of.ensures) ∙ pick_true _ (lt-ltb _ _ c.if-c-n.true)

pub returns : goal.returns
unfolding wire_rule
returns c = pick-false _ (le-ltb _ _ c.if-c-n.false)
