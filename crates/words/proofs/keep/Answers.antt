-- That `keep` of src/lib.rt keeps its contract.
use Prim.Native.Nat.{ℕ, ◌^◌, ◌%◌}
use Rattle.words.proofs.WordLaws.{one_shifted}
use native.Mathlib.Nat.{mod-eq_of_lt, lt_of_lt_of_le}
use lib.Pow.{pow_pos, pow_mono}
use Rattle.words.specs.Word.{kept}
use mathlib.Core.Path.{sym, ap}
use borrow.Author.Rules.{rules}
use Rattle.words.proofs.keep.Goals as goal

pub returns-then-n-ge32 : goal.returns-then-n-ge32
unfolding kept
returns-then-n-ge32 c = sym (mod-eq_of_lt (lt_of_lt_of_le {m = 2 ^ 32} (search rules) (pow_mono c.if-n-ge32.true)))

pub nonzero_rem-result : goal.nonzero_rem-result
nonzero_rem-result c = rw (one_shifted c.args.n (search rules)) (pow_pos c.args.n)

pub returns : goal.returns
unfolding kept
returns c = ap (λ (m : ℕ). c.args.w % m) (one_shifted c.args.n (search rules))
