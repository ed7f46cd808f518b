-- That `put_changes` of src/lib.rt keeps its contract.
use mathlib.Core.Path.{◌≡◌}
use lib.ListN.{length, drop}
use Rattle.text.specs.Text.{write}
use Rattle.vcd.specs.Dump.{changes_from}
use Rattle.vcd.proofs.put_changes.Given as goal

abbrev pub invariant-loop-k : goal.invariant-loop-k
invariant-loop-k l =
    (write (l.out, l.next) (changes_from l.k (drop l.k l.widths) l.before l.values) ≡ write (l.initial.out, l.at) (changes_from 0 l.widths l.before l.values)) × (length l.out ≡ length l.initial.out)
