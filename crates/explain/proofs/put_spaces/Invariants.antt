-- That `put_spaces` of src/lib.rt keeps its contract.
use Prim.Native.Nat.{◌-◌}
use mathlib.Core.Path.{◌≡◌}
use lib.ListN.{length, replicate}
use Rattle.text.specs.Text.{space, write}
use Rattle.explain.proofs.put_spaces.Given as goal

abbrev pub invariant-loop-k : goal.invariant-loop-k
invariant-loop-k l =
    (write (l.out, l.to) (replicate (l.n - l.k) space) ≡ write (l.initial.out, l.at) (replicate l.n space)) × (length l.out ≡ length l.initial.out)
