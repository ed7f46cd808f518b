-- That `core_kept` of src/record.rt keeps its contract.
use Rattle.board.specs.Sound.{core_rule}
use Rattle.words.proofs.ChoiceLaws.{pick_true, pick-false}
use Rattle.words.proofs.TruthLaws.{and_parts}
use borrow.Author.Tests.{lt-ltb, le-ltb}
use mathlib.Core.Path.{◌∙◌}
use Rattle.board.proofs.record.core_kept.Goals as goal

pub returns-then-c-n : goal.returns-then-c-n
unfolding core_rule
returns-then-c-n c = and_parts c.is_sound.ensures c.is_low.ensures ∙ pick_true _ (lt-ltb _ _ c.if-c-n.true)

pub returns : goal.returns
unfolding core_rule
returns c = c.is_zero.ensures ∙ pick-false _ (le-ltb _ _ c.if-c-n.false)
