-- That `raised_hosts` of src/hosts.rt keeps its contract.
use Rattle.cic_registers.proofs.ScanLaws.{counts}
use Rattle.words.specs.Array.{bit_at}
use Rattle.words.specs.Counting.{any_below}
use lib.ListN.{length}
use mathlib.Core.Path.{◌≡◌}
use Prim.Native.Nat.{ℕ, ◌-◌, ◌*◌}
use Rattle.cic_registers.proofs.hosts.raised_hosts.Given as goal

abbrev pub invariant-loop-status : goal.invariant-loop-status
invariant-loop-status l =
    (l.rest ≡ l.fn.c.systems - 32 * length l.yielded) × ((l.base ≡ 32 * length l.yielded)
    × ((length l.out ≡ 8) × ((h : ℕ) → bit_at l.out h ≡ any_below (32 * length l.yielded) (counts l.fn.c h))))
