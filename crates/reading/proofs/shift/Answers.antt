-- That `shift` of src/lib.rt keeps its contract.
use mathlib.Core.Path.{◌∙◌}
use Rattle.reading.proofs.ShiftLaws.{all_moved, none_moved}
use Rattle.reading.proofs.shift.Goals as goal

pub returns-then-from-room : goal.returns-then-from-room
returns-then-from-room c = c.copy_within.ensures.after ∙ all_moved _ _ c.if-from-room.true

pub returns-else-from-room : goal.returns-else-from-room
returns-else-from-room c = none_moved _ _ c.if-from-room.false
