-- That `has_mode` of src/kept.rt keeps its contract.
use Rattle.aic_record.specs.Mode.{priority, kind}
use Rattle.stack.specs.Kept.{same_mode}
use Rattle.stack.proofs.kept.has_mode.Goals as goal

pub returns : goal.returns
unfolding same_mode priority kind
returns c = rw (c.priority_of.ensures, c.type_of.ensures, c.mode_at-mode.ensures)
