-- That `first_over` of src/slips.rt keeps its contract.
use Prim.Native.Nat.{ℕ, ◌<◌}
use mathlib.Core.Path.{◌≡◌}
use mathlib.Core.Bool.{false}
use Rattle.tables.specs.Typed.{past_nth}
use Rattle.tables.proofs.SlipLaws.{Over}
use Rattle.tables.proofs.slips.first_over.Given as goal

abbrev pub invariant-loop-n : goal.invariant-loop-n
invariant-loop-n l = (l.past ≡ past_nth l.cleared l.n) × ((k : ℕ) → k < l.n → Over l.cleared k ≡ false)
