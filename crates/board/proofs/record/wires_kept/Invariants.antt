-- That `wires_kept` of src/record.rt keeps its contract.
use Rattle.board.specs.Sound.{wire_rule}
use mathlib.Core.Path.{◌≡◌}
use Prim.Native.Nat.{◌≤◌, ◌/◌}
use lib.ListN.{get_or}
use Rattle.words.specs.Counting.{all_below}
use Rattle.board.proofs.record.wires_kept.Given as goal

abbrev pub invariant-loop-k : goal.invariant-loop-k
invariant-loop-k l = (l.k ≤ 320) × (l.ok ≡ all_below l.k (λ j. wire_rule l.b.controllers (j / 40) (get_or l.b.wire j 0)))
