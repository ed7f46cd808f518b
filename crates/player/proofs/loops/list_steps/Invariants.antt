-- That `list_steps` of src/loops.rt keeps its contract.
use mathlib.Core.Path.{◌≡◌}
use mathlib.Core.Bool.{true}
use lib.ListN.{length}
use Rattle.text.specs.Numeral.{numeral_of}
use Rattle.machine.specs.declared.record.Machine.{Machine}
use Rattle.machine.specs.RecordPromises.{Ready}
use Rattle.machine_room.specs.Room.{Laid}
use Rattle.player.proofs.LoopLaws.{Listing}
use Rattle.player.proofs.loops.list_steps.Given as goal

abbrev pub invariant-loop-room : goal.invariant-loop-room
invariant-loop-room l =
    ((first : Machine) → Laid true first l.initial.room → Ready first → Listing l.trace l.limit l.told l.start first (l.initial.out, l.from) l.number l.more l.place (l.out, l.to) l.room) × (length l.out ≡ length l.initial.out) × (l.numeral ≡ numeral_of l.number)

abbrev pub decreases-loop-room : goal.decreases-loop-room
decreases-loop-room l = l.more
