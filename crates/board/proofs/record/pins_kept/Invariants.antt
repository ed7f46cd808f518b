-- That `pins_kept` of src/record.rt keeps its contract.
use lib.Dec.{leb}
use mathlib.Core.Path.{◌≡◌}
use Prim.Native.Nat.{◌≤◌}
use lib.ListN.{get_or}
use Rattle.words.specs.Counting.{all_below}
use Rattle.board.proofs.record.pins_kept.Given as goal

abbrev pub invariant-loop-level : goal.invariant-loop-level
invariant-loop-level l = (l.level-index ≤ 320) × (l.ok ≡ all_below l.level-index (λ k. leb (get_or l.fn.b.pin k 0) 1))
