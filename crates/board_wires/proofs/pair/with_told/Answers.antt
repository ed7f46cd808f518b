-- That `with_told` of src/pair.rt keeps its contract.
use Rattle.board_wires.proofs.pair.with_told.Goals as goal

pub returns : goal.returns
returns c = rw (c.with_bit.ensures, c.with_bit-2.ensures)
