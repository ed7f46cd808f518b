-- That `row_room` of src/lib.rt keeps its contract.
use Prim.Native.Nat.{ℕ, ◌≤◌}
use mathlib.Core.List.{List}
use native.Mathlib.Omega.{arith}
use mathlib.Core.Path.{refl}
use lib.ListN.{length}
use Rattle.totals.specs.declared.sheets.Noted.{Noted}
use Rattle.sheet.specs.Rows.{trace_row, left_out_row}
use Rattle.sheet.proofs.PageSizeLaws.{length_trace, length-left_out}
use Rattle.sheet.proofs.row_room.Goals as goal

enough : (n refusal step source : ℕ) (t : Noted) (name : List ℕ) → length name ≤ 4096
    → (length (trace_row n t name) ≤ 25060) × (length (left_out_row n refusal step source name) ≤ 25060)
enough n refusal step source t name h = (omega (arith, length_trace n t name), omega (arith, length-left_out n refusal step source name))

pub returns : goal.returns
returns c = record { value = refl; any = λ n refusal step source t name h. enough n refusal step source t name h }
