-- That `upward_refusal` of src/lib.rt keeps its contract.
use Rattle.board.specs.Model.{upward_refusal}
use Rattle.words.proofs.ChoiceLaws.{by-true, by-false}
use Rattle.board.proofs.upward_refusal.Goals as goal

pub returns-then-is_lower : goal.returns-then-is_lower
unfolding upward_refusal
returns-then-is_lower c = by-true _ c.is_lower.ensures c.if-is_lower.true

pub returns : goal.returns
unfolding upward_refusal
returns c = by-false _ c.is_lower.ensures c.if-is_lower.false
