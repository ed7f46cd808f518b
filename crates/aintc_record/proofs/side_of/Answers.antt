-- That `side_of` of src/lib.rt keeps its contract.
use Rattle.words.proofs.ChoiceLaws.{pick_true, pick-false}
use Rattle.aintc_record.specs.Record.{side}
use Rattle.aintc_record.proofs.side_of.Goals as goal

pub returns-then-fast : goal.returns-then-fast
unfolding side
returns-then-fast c = pick_true _ c.if-fast.true

pub returns : goal.returns
unfolding side
returns c = pick-false _ c.if-fast.false
