-- That `names_at` of src/names.rt keeps its contract.
use Prim.Native.Nat.{◌/◌, ◌%◌}
use mathlib.Core.Path.{◌≡◌}
use lib.ListN.{get_or}
use Rattle.tables.specs.Passes.{room}
use Rattle.tables.specs.Named.{no_place, byte_in}
use Rattle.tables.proofs.names.names_at.Given as goal

abbrev pub invariant-loop-k : goal.invariant-loop-k
invariant-loop-k l = l.bytes ≡ room 768 l.k (λ j. byte_in l.text (get_or l.places (j / 24) no_place).start (get_or l.places (j / 24) no_place).count (j % 24))

abbrev pub invariant-loop-i : goal.invariant-loop-i
invariant-loop-i l = l.lengths ≡ room 32 l.i (λ j. (get_or l.places j no_place).count)
