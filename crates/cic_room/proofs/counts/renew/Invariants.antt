-- That `renew` of src/counts.rt keeps its contract.
use mathlib.Core.Path.{◌≡◌}
use mathlib.Core.Bool.{true}
use mathlib.Core.List.{List}
use Prim.Native.Nat.{ℕ, ◌^◌, ◌<◌}
use Rattle.words.specs.Counting.{count_below}
use Rattle.words.specs.Word.{bit}
use Rattle.cic_record.specs.declared.Cic.{Cic}
use Rattle.cic_room.specs.Room.{Frame}
use Rattle.cic_room.specs.Tables.{Counted}
use Rattle.cic_room.proofs.TurnLaws.{Going}
use Rattle.cic_room.proofs.counts.renew.Given as goal

abbrev pub invariant-loop-left : goal.invariant-loop-left
invariant-loop-left l = (l.left < 2 ^ 32) × ((l.new < 2 ^ 32) × ((f : Frame) (c : Cic) (ws : List ℕ) → f.kept ≡ true → Counted f c ws l.initial.room → Going f c ws l.k l.new l.left l.room))

abbrev pub decreases-loop-left : goal.decreases-loop-left
decreases-loop-left l = count_below 32 (bit l.left)
