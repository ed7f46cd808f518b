-- That `put_numbers` of src/lib.rt keeps its contract.
use Prim.Native.Nat.{◌-◌}
use mathlib.Core.Path.{◌≡◌}
use lib.ListN.{length}
use Rattle.text.specs.Text.{write}
use Rattle.explain.specs.Stated.{fields, numbers_at}
use Rattle.explain.proofs.put_numbers.Given as goal

abbrev pub invariant-loop-k : goal.invariant-loop-k
invariant-loop-k l =
    (write (l.out, l.to) (fields (numbers_at (l.n - l.k) l.trace l.place)) ≡ write (l.initial.out, l.at) (fields (numbers_at l.n l.trace l.start)))
    × (length l.out ≡ length l.initial.out)
