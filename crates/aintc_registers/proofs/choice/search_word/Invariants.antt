-- That `search_word` of src/choice.rt keeps its contract.
use Prim.Native.Nat.{◌-◌, ◌^◌, ◌<◌}
use mathlib.Core.Path.{◌≡◌}
use Rattle.words.specs.Counting.{lowest_below}
use Rattle.words.specs.Word.{bit}
use Rattle.aintc_registers.specs.Search.{word_searched}
use Rattle.aintc_registers.proofs.choice.search_word.Given as goal

abbrev pub invariant-loop-left : goal.invariant-loop-left
invariant-loop-left l = (l.left < 2 ^ 32) × (word_searched l.left l.base l.routes l.side l.best ≡ word_searched l.w l.base l.routes l.side l.initial.best)

abbrev pub decreases-loop-left : goal.decreases-loop-left
decreases-loop-left l = 32 - lowest_below 32 (bit l.left)
