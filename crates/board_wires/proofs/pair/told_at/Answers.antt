-- That `told_at` of src/pair.rt keeps its contract.
use Rattle.board_wires.proofs.PairLaws.{tells-fiq, tells-irq}
use Rattle.board_wires.proofs.pair.told_at.Goals as goal

pub returns-then-fast : goal.returns-then-fast
returns-then-fast c = tells-fiq _ _ _ _ c.if-fast.true c.has.ensures

pub returns : goal.returns
returns c = tells-irq _ _ _ _ c.if-fast.false c.has-2.ensures
