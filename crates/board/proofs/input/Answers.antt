-- That `input` of src/lib.rt keeps its contract.
use Rattle.board.specs.Model.{input}
use Rattle.board.proofs.input.Goals as goal

pub returns : goal.returns
unfolding input
returns c = rw (c.reply_of.ensures, c.one_if.ensures, c.input_value.ensures, c.checked-n.ensures, c.is_there.ensures)
