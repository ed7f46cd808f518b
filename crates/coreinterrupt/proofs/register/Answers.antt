-- That `register` of src/lib.rt keeps its contract.
use Rattle.coreinterrupt.specs.Model.{register, fiq_offset}
use Rattle.words.proofs.ChoiceLaws.{pick_true, pick-false}
use borrow.Author.Tests.{lt-ltb, le-ltb}
use Rattle.coreinterrupt.proofs.register.Goals as goal

pub returns-then-offset-lt-IRQ_BASE : goal.returns-then-offset-lt-IRQ_BASE
unfolding register fiq_offset
returns-then-offset-lt-IRQ_BASE c = pick_true _ (lt-ltb _ _ c.if-offset-lt-IRQ_BASE.true)

pub returns : goal.returns
unfolding register fiq_offset
returns c = pick-false _ (le-ltb _ _ c.if-offset-lt-IRQ_BASE.false)
