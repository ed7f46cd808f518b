-- That `renew_words` of src/layout.rt keeps its contract.
use mathlib.Core.Path.{◌≡◌}
use Prim.Native.Nat.{◌≤◌}
use Rattle.words.specs.Counting.{upto}
use Rattle.aic_room.proofs.LevelLaws.{put}
use Rattle.aic_room.proofs.layout.renew_words.Given as goal

abbrev pub invariant-loop-p : goal.invariant-loop-p
invariant-loop-p l = (l.p ≤ 8) × (l.room ≡ upto (put l.waits) l.initial.room l.p)
