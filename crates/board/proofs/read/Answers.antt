-- That `read` of src/lib.rt keeps its contract.
use Rattle.board.specs.Model.{read}
use Rattle.board.proofs.read.Goals as goal

pub returns : goal.returns
unfolding read
returns c = rw (c.unless_refused.ensures, c.answer_of.ensures, c.checked-n.ensures, c.is_there.ensures, c.read-a.ensures, c.wired_core.ensures)
