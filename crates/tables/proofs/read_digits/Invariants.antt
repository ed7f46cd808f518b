-- That `read_digits` of src/lib.rt keeps its contract.
use Prim.Native.Nat.{ℕ, ◌≤◌, ◌<◌, ◌^◌}
use mathlib.Core.Path.{◌≡◌}
use lib.ListN.{get_or, drop}
use Rattle.tables.specs.Number.{digit, worth_from}
use Rattle.tables.specs.Passes.{capped}
use Rattle.tables.proofs.read_digits.Given as goal

abbrev pub invariant-loop-b : goal.invariant-loop-b
invariant-loop-b l =
    (l.worth ≤ 2 ^ 32) × (capped (worth_from l.base l.worth (drop l.b-index l.digits)) ≡ capped (worth_from l.base 0 l.digits))
    × ((j : ℕ) → j < l.b-index → digit (get_or l.digits j 0) < l.base)
