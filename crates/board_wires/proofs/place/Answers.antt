-- That `place` of src/lib.rt keeps its contract.
use Rattle.words.proofs.ChoiceLaws.{pick_true, pick-false}
use Rattle.board_wires.proofs.place.Goals as goal

pub returns-then-fast : goal.returns-then-fast
returns-then-fast c = pick_true _ c.if-fast.true

pub returns : goal.returns
returns c = pick-false _ c.if-fast.false
