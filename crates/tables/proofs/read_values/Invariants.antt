-- That `read_values` of src/lib.rt keeps its contract.
use mathlib.Core.Path.{◌≡◌}
use Rattle.tables.proofs.ReadLaws.{Fit, value_of}
use Rattle.tables.specs.Passes.{room}
use Rattle.tables.specs.Typed.{past_nth}
use Rattle.tables.proofs.read_values.Given as goal

abbrev pub invariant-loop-n : goal.invariant-loop-n
invariant-loop-n l = (l.past ≡ past_nth l.text l.n) × (l.values ≡ room 98 l.n (value_of l.text)) × Fit l.text l.n
