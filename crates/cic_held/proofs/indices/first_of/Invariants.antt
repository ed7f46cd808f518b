-- That `first_of` of src/indices.rt keeps its contract.
use Rattle.cic_held.specs.Search.{lit}
use Rattle.words.specs.Counting.{lowest_below}
use Rattle.words.specs.Word.{bit}
use mathlib.Core.Path.{◌≡◌}
use Prim.Native.Nat.{◌<◌, ◌-◌, ◌^◌}
use Rattle.cic_held.proofs.indices.first_of.Given as goal

abbrev pub invariant-loop-left : goal.invariant-loop-left
invariant-loop-left l = (l.left < 2 ^ 32) × (lowest_below 32 (lit l.channel l.base l.left l.k) ≡ lowest_below 32 (lit l.channel l.base l.w l.k))

abbrev pub decreases-loop-left : goal.decreases-loop-left
decreases-loop-left l = 32 - lowest_below 32 (bit l.left)
