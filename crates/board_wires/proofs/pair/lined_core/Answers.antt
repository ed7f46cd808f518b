-- That `lined_core` of src/pair.rt keeps its contract.
use Rattle.board_wires.proofs.pair.lined_core.Goals as goal

pub returns : goal.returns
returns c = rw (c.lined.ensures, c.lined-2.ensures)
