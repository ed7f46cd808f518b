-- That `connect` of src/lib.rt keeps its contract.
use Rattle.board.specs.Model.{connect}
use Rattle.board.proofs.connect.Goals as goal

pub returns : goal.returns
unfolding connect
returns c = rw (c.unless_refused.ensures, c.answer_of.ensures, c.with_wire-wired.ensures, c.checked-n.ensures, c.upward_refusal.ensures, c.is_named.ensures, c.is_there.ensures)
