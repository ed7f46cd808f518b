-- That `above` of src/waits/bounds.rt keeps its contract.
use Prim.Native.Nat.{◌≤◌, ◌<◌}
use mathlib.Core.Path.{◌≡◌}
use Rattle.words.specs.Word.{word_of}
use Rattle.aic_record.specs.declared.Aic.{Aic}
use Rattle.aic_room.specs.Room.{Laid}
use Rattle.aic_figures.proofs.BoundLaws.{between}
use Rattle.aic_figures.proofs.waits.bounds.above.Given as goal

abbrev pub invariant-loop-q : goal.invariant-loop-q
invariant-loop-q l = (l.p < l.q) × (l.q ≤ 8) × ((t : Aic) → Laid t l.room → l.w ≡ word_of 32 (between t l.p l.q))
