-- That `line_room` of src/progress.rt keeps its contract.
use Prim.Native.Nat.{ℕ, ◌≤◌, ◌<◌, ◌^◌}
use mathlib.Core.List.{List}
use mathlib.Core.Path.{◌≡◌, sym}
use native.Mathlib.Omega.{arith}
use lib.ListN.{length, replicate, length-replicate}
use Rattle.report.specs.Printed.{trace_line, left_out_line}
use Rattle.report.proofs.SizeLaws.{length_trace, length-left_out}
use Rattle.report.proofs.progress.line_room.Goals as goal

-- the longest name that is told has 4,096 bytes
enough : (played refused refusal offset : ℕ) (name : List ℕ) → played < 2 ^ 32 → refused < 2 ^ 32 → refusal < 2 ^ 32 → length name ≤ 4096
    → (length (trace_line played refused refusal offset name) ≤ 4183) × (length (left_out_line refusal name) ≤ 4183)
enough played refused refusal offset name p q r h =
    (omega (arith, length_trace played refused refusal offset name p q r), omega (arith, length-left_out refusal name r))

pub returns : goal.returns
returns c = let long : 4183 ≡ length {A = ℕ} (replicate 4183 0) = sym (length-replicate {0} {A = ℕ} 4183 0) in
    record { value = long; any = λ played refused refusal offset name p q r h. rw (sym long) (enough played refused refusal offset name p q r h) }
