-- That `encode` of src/lib.rt keeps its contract.
use Prim.Native.Nat.{◌+◌, ◌-◌, ◌≤◌}
use mathlib.Core.Path.{◌≡◌}
use lib.ListN.{length}
use Rattle.text.specs.Text.{write}
use Rattle.encode.specs.Encode.{longest_trace, encoded}
use Rattle.encode.proofs.EncodeLaws.{left_of}
use Rattle.encode.proofs.encode.Given as goal

abbrev pub invariant-loop-at : goal.invariant-loop-at
invariant-loop-at l =
    ((left_of l.text l.lines l.at l.kind l.size).refusal ≡ (encoded l.text).refusal)
    × (write (l.out, l.place) (left_of l.text l.lines l.at l.kind l.size).bytes ≡ write (l.initial.out, 0) (encoded l.text).bytes)
    × (length l.out ≡ length l.initial.out) × (l.size ≤ longest_trace) × (l.lines ≤ l.at) × (l.at ≤ 5242881)

abbrev pub decreases-loop-at : goal.decreases-loop-at
decreases-loop-at l = length l.text + 1 - l.at
