-- That `put_told` of src/fields.rt keeps its contract.
use mathlib.Core.Path.{◌≡◌}
use Prim.Native.Nat.{◌≤◌}
use lib.ListN.{length}
use Rattle.words.specs.Counting.{count_below}
use Rattle.words.specs.Word.{bit}
use Rattle.text.specs.Text.{write}
use Rattle.register_words.specs.Fields.{told_below}
use Rattle.register_words.proofs.fields.put_told.Given as goal

abbrev pub invariant-loop-n : goal.invariant-loop-n
invariant-loop-n l =
    (l.n ≤ 32) × (l.told ≤ l.n) × (l.told ≡ count_below l.n (bit l.w)) × ((l.out, l.next) ≡ write (l.initial.out, l.at) (told_below l.base l.w l.n)) × (length l.out ≡ length l.initial.out)
