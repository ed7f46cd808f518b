-- That `chain` of src/lib.rt keeps its contract.
use Rattle.board.specs.Model.{chain}
use Rattle.board.proofs.chain.Goals as goal

pub returns : goal.returns
unfolding chain
returns c = rw (c.reply_of.ensures, c.chain.ensures, c.checked-n.ensures, c.is_there.ensures)
