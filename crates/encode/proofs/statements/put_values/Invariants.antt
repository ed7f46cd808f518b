-- That `put_values` of src/statements.rt keeps its contract.
use Prim.Native.Nat.{◌+◌, ◌≤◌}
use mathlib.Core.Path.{◌≡◌}
use lib.ListN.{length}
use Rattle.text.specs.Text.{write}
use Rattle.tables.specs.Typed.{past_nth}
use Rattle.encode.specs.Bytes.{bytes_of}
use Rattle.encode.specs.Statements.{values_in}
use Rattle.encode.proofs.statements.put_values.Given as goal

abbrev pub invariant-loop-k : goal.invariant-loop-k
invariant-loop-k l =
    (l.k ≤ l.n) × (l.past ≡ past_nth l.line (l.k + 1)) × ((l.out, l.place) ≡ write (l.initial.out, l.at) (bytes_of (values_in l.line l.k))) × (length l.out ≡ length l.initial.out)
