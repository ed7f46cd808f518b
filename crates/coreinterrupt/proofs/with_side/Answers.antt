-- That `with_side` of src/lib.rt keeps its contract.
use Rattle.coreinterrupt.specs.Model.{with_side}
use Rattle.words.proofs.ChoiceLaws.{pick_true, pick-false}
use Rattle.coreinterrupt.proofs.with_side.Goals as goal

pub returns-then-fast : goal.returns-then-fast
unfolding with_side
returns-then-fast c = pick_true _ c.if-fast.true

pub returns-else-fast : goal.returns-else-fast
unfolding with_side
returns-else-fast c = pick-false _ c.if-fast.false
