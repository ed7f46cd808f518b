-- That `past_nth` of src/names.rt keeps its contract.
use mathlib.Core.Path.{◌≡◌}
use Rattle.tables.specs.Typed.{past_nth}
use Rattle.tables.proofs.names.past_nth.Given as goal

abbrev pub invariant-loop : goal.invariant-loop
invariant-loop l = l.past ≡ past_nth l.text l.counter
