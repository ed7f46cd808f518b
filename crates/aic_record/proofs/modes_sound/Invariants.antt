-- That `modes_sound` of src/lib.rt keeps its contract.
use mathlib.Core.Path.{◌≡◌}
use Prim.Native.Nat.{◌≤◌}
use Rattle.words.specs.Counting.{all_below}
use Rattle.aic_record.specs.Passes.{mode_sound}
use Rattle.aic_record.proofs.modes_sound.Given as goal

abbrev pub invariant-loop-k : goal.invariant-loop-k
invariant-loop-k l = (l.k ≤ 32) × (l.ok ≡ all_below l.k (mode_sound l.mode l.memory))
