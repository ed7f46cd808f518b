-- That `nth_start` of src/names.rt keeps its contract.
use Rattle.tables.specs.Typed.{nth_start}
use Rattle.tables.proofs.SeekLaws.{started_at}
use Rattle.tables.proofs.names.nth_start.Goals as goal

pub returns : goal.returns
unfolding nth_start
returns c = rw (← c.past_nth.ensures) (started_at _ _ c.seek.ensures)
