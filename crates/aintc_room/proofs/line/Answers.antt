-- That `line` of src/lib.rt keeps its contract.
use borrow.Author.Tests.{ltb-true}
use Rattle.words.proofs.TruthLaws.{and_left}
use Rattle.aintc_room.proofs.ReplyLaws.{done_as, line-done, line_stopped}
use Rattle.aintc_room.proofs.line.Goals as goal

pub move_line-requires : goal.move_line-requires
move_line-requires c = ltb-true _ _ (and_left _ _ c.if-k-level.true)

pub returns-then-k-level : goal.returns-then-k-level
returns-then-k-level c = λ a ok h. done_as (line-done a _ _ ok c.if-k-level.true) (c.move_line.ensures a ok h, c.answer.ensures)

pub returns : goal.returns
returns c = λ a ok h. done_as (line_stopped a _ _ ok c.if-k-level.false) (h, c.refuse.ensures)
