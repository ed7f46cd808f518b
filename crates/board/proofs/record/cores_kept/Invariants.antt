-- That `cores_kept` of src/record.rt keeps its contract.
use Rattle.board.specs.Sound.{core_rule}
use Rattle.board_wires.specs.Wires.{core_at}
use mathlib.Core.Path.{◌≡◌}
use Prim.Native.Nat.{◌≤◌}
use Rattle.words.specs.Counting.{all_below}
use Rattle.board.proofs.record.cores_kept.Given as goal

abbrev pub invariant-loop-c : goal.invariant-loop-c
invariant-loop-c l = (l.c ≤ 8) × (l.ok ≡ all_below l.c (λ j. core_rule l.b.controllers j (core_at l.b j)))
