-- That `put_until` of src/lib.rt keeps its contract.
use mathlib.Core.Path.{◌≡◌}
use lib.ListN.{length, drop}
use Rattle.text.specs.Text.{write}
use Rattle.register_names.specs.Table.{until}
use Rattle.register_names.proofs.put_until.Given as goal

abbrev pub invariant-loop-b : goal.invariant-loop-b
invariant-loop-b l =
    (write (l.out, l.next) (until (drop l.b-index l.words)) ≡ write (l.initial.out, l.at) (until l.words)) × (length l.out ≡ length l.initial.out)
