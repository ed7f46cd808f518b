-- That `hosts_sound` of src/lib.rt keeps its contract.
use mathlib.Core.Bool.{◌&&◌}
use mathlib.Core.Path.{◌≡◌}
use Prim.Native.Nat.{◌≤◌}
use lib.Dec.{eqb, ltb}
use lib.ListN.{get_or}
use Rattle.words.specs.Counting.{all_below}
use Rattle.cic_held.specs.Held.{entry_sound}
use Rattle.cic_held.proofs.hosts_sound.Given as goal

abbrev pub invariant-loop-k : goal.invariant-loop-k
invariant-loop-k l = (l.k ≤ 256) × (l.ok ≡ all_below l.k (λ j. entry_sound l.systems (ltb j l.hosts && eqb l.hold 1) (get_or l.m j 0)))
