-- That `input` of src/lib.rt keeps its contract.
use Rattle.coreinterrupt.specs.Model.{input, fiq_line}
use Rattle.words.proofs.ChoiceLaws.{pick_true, pick-false}
use borrow.Author.Tests.{le-leb, lt-leb}
use Rattle.coreinterrupt.proofs.input.Goals as goal

pub returns-then-k-ge-IRQ_LIMIT : goal.returns-then-k-ge-IRQ_LIMIT
unfolding input fiq_line
returns-then-k-ge-IRQ_LIMIT c = pick_true _ (le-leb _ _ c.if-k-ge-IRQ_LIMIT.true)

pub returns : goal.returns
unfolding input fiq_line
returns c = pick-false _ (lt-leb _ _ c.if-k-ge-IRQ_LIMIT.false)
