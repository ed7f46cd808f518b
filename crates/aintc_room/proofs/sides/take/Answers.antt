-- That `take` of src/sides.rt keeps its contract.
use mathlib.Core.Path.{refl}
use Rattle.aintc_room.proofs.SideLaws.{taken_on, taken-off}
use Rattle.aintc_room.proofs.sides.take.Goals as goal

pub returns-then-priority-room : goal.returns-then-priority-room
returns-then-priority-room c = λ a h free t. taken_on a c.args.fast _ t _ _ h c.place_of-at.ensures.0 refl c.if-priority-room.true free

pub returns-else-priority-room : goal.returns-else-priority-room
returns-else-priority-room c = λ a h free t. taken-off a c.args.fast _ t _ h refl c.if-priority-room.false
