-- That `take_names` of src/names.rt keeps its contract.
use Prim.Native.Nat.{ℕ, ◌<◌}
use mathlib.Core.Path.{◌≡◌}
use lib.ListN.{length, get_or}
use Rattle.tables.specs.Names.{unnamed_to}
use Rattle.tables.specs.Named.{place_of, no_place}
use Rattle.tables.proofs.names.take_names.Given as goal

abbrev pub invariant-loop-i : goal.invariant-loop-i
invariant-loop-i l = (l.text ≡ unnamed_to l.initial.text l.i) × (length l.places ≡ 32) × ((j : ℕ) → j < l.i → get_or l.places j no_place ≡ place_of l.initial.text j)
