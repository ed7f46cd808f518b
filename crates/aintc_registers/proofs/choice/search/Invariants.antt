-- That `search` of src/choice.rt keeps its contract.
use Prim.Native.Nat.{◌-◌, ◌*◌, ◌≤◌}
use mathlib.Core.Path.{◌≡◌}
use Rattle.std.specs.Prelude.{None}
use Rattle.words.specs.Counting.{one, upto}
use Rattle.aintc_registers.specs.Inputs.{open_word}
use Rattle.aintc_registers.specs.Search.{word_searched}
use Rattle.aintc_registers.proofs.choice.search.Given as goal

abbrev pub invariant-loop-n : goal.invariant-loop-n
invariant-loop-n l =
    (l.n ≤ 4)
    × (l.best ≡ upto (λ x n. word_searched (open_word l.s n) (32 * n) l.s.routes (one l.fast) x) (record { number = None; limit = l.s.threshold - 1 }) l.n)
