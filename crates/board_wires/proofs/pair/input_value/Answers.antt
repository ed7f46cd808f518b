-- That `input_value` of src/pair.rt keeps its contract.
use Rattle.board_wires.proofs.PairLaws.{irq-input, fiq-input}
use Rattle.board_wires.proofs.pair.input_value.Goals as goal

pub returns-then-i-lt-IRQ_LIMIT : goal.returns-then-i-lt-IRQ_LIMIT
returns-then-i-lt-IRQ_LIMIT c = irq-input _ _ _ _ _ c.if-i-lt-IRQ_LIMIT.true c.values-v.ensures c.has.ensures

pub returns : goal.returns
returns c = fiq-input _ _ _ _ _ c.if-i-lt-IRQ_LIMIT.false c.values-v.ensures c.has-2.ensures
