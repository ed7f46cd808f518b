-- That `scan` of src/hosts.rt keeps its contract.
use Rattle.cic_registers.specs.Scan.{goes}
use Rattle.words.specs.Array.{bit_at}
use Rattle.words.specs.Counting.{any_below, lowest_below}
use Rattle.words.specs.Word.{bit}
use lib.ListN.{length}
use mathlib.Core.Bool.{◌||◌}
use mathlib.Core.Path.{◌≡◌}
use Prim.Native.Nat.{ℕ, ◌-◌, ◌^◌, ◌<◌}
use Rattle.cic_registers.proofs.hosts.scan.Given as goal

abbrev pub invariant-loop-left : goal.invariant-loop-left
invariant-loop-left l =
    (l.left < 2 ^ 32) × ((length l.out ≡ 8)
    × ((h : ℕ) → (bit_at l.out h || any_below 32 (goes l.channel l.host l.base l.left h)) ≡ (bit_at l.initial.out h || any_below 32 (goes l.channel l.host l.base l.w h))))

abbrev pub decreases-loop-left : goal.decreases-loop-left
decreases-loop-left l = 32 - lowest_below 32 (bit l.left)
