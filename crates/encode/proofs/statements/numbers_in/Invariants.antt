-- That `numbers_in` of src/statements.rt keeps its contract.
use Prim.Native.Nat.{◌+◌}
use mathlib.Core.Path.{◌≡◌}
use lib.ListN.{length}
use Rattle.tables.specs.Typed.{past_nth}
use Rattle.encode.specs.Bytes.{bytes_of}
use Rattle.encode.specs.Statements.{values_in}
use Rattle.encode.proofs.NumberLaws.{Fitting}
use Rattle.encode.proofs.statements.numbers_in.Given as goal

abbrev pub invariant-loop-k : goal.invariant-loop-k
invariant-loop-k l = (l.past ≡ past_nth l.line (l.k + 1)) × (l.size ≡ length (bytes_of (values_in l.line l.k))) × Fitting l.line l.k
