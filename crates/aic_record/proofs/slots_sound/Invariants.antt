-- That `slots_sound` of src/lib.rt keeps its contract.
use mathlib.Core.Path.{◌≡◌}
use Prim.Native.Nat.{◌≤◌}
use Rattle.words.specs.Counting.{all_below}
use Rattle.aic_record.specs.Sound.{level_below}
use Rattle.aic_record.specs.Passes.{slot_sound}
use Rattle.aic_record.proofs.slots_sound.Given as goal

abbrev pub invariant-loop-i : goal.invariant-loop-i
invariant-loop-i l = (l.i ≤ 8) × (l.ok ≡ all_below l.i (slot_sound l.source l.level l.depth)) × (l.below ≡ level_below l.level l.i)
