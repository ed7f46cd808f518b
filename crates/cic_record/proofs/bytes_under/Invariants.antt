-- That `bytes_under` of src/lib.rt keeps its contract.
use mathlib.Core.Path.{◌≡◌}
use Prim.Native.Nat.{◌≤◌}
use lib.ListN.{length, get_or}
use lib.Dec.{ltb}
use mathlib.Core.Path.{◌≡◌}
use Rattle.words.specs.Counting.{all_below}
use Rattle.cic_record.proofs.bytes_under.Given as goal

abbrev pub invariant-loop-b : goal.invariant-loop-b
invariant-loop-b l = (l.b-index ≤ length l.m) × (l.ok ≡ all_below l.b-index (λ j. ltb (get_or l.m j 0) l.limit))
