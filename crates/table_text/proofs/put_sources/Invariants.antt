-- That `put_sources` of src/lib.rt keeps its contract.
use Prim.Native.Nat.{◌-◌, ◌≤◌}
use mathlib.Core.Path.{◌≡◌}
use lib.ListN.{length}
use Rattle.text.specs.Text.{write}
use Rattle.table_text.specs.Text.{source_lines}
use Rattle.table_text.proofs.put_sources.Given as goal

abbrev pub invariant-loop-i : goal.invariant-loop-i
invariant-loop-i l =
    (write (l.out, l.next) (source_lines l.modes (32 - l.i) l.i) ≡ write (l.initial.out, l.at) (source_lines l.modes 32 0)) × (length l.out ≡ length l.initial.out) × (l.i ≤ 32)
