-- That `play_steps` of src/loops.rt keeps its contract.
use mathlib.Core.Bool.{false}
use Rattle.player.proofs.LoopLaws.{Going}
use Rattle.player.proofs.loops.play_steps.Given as goal

abbrev pub invariant-loop-room : goal.invariant-loop-room
invariant-loop-room l = Going false l.trace l.limit l.told l.start l.first l.count l.left l.at l.room

abbrev pub decreases-loop-room : goal.decreases-loop-room
decreases-loop-room l = l.left
