-- That `empty` of src/lib.rt keeps its contract.
use Rattle.board.specs.Record.{empty}
use Rattle.board.proofs.empty.Goals as goal

pub returns : goal.returns
unfolding empty
returns c = rw (c.idle-2.ensures, c.idle.ensures)
