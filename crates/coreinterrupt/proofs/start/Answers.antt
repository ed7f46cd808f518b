-- That `start` of src/lib.rt keeps its contract.
use Rattle.coreinterrupt.specs.Model.{start}
use Rattle.words.proofs.ChoiceLaws.{by-true, by-false}
use Rattle.coreinterrupt.proofs.start.Goals as goal

pub returns-then-all_within : goal.returns-then-all_within
unfolding start
returns-then-all_within c = rw (c.idle-then-all_within.ensures, c.idle.ensures) (by-true _ c.all_within.ensures c.if-all_within.true)

pub returns : goal.returns
unfolding start
returns c = rw (c.idle-3.ensures, c.idle-2.ensures) (by-false _ c.all_within.ensures c.if-all_within.false)
