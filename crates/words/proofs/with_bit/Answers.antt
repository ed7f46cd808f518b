-- That `with_bit` of src/lib.rt keeps its contract.
use Rattle.words.specs.Word.{with_bit}
use lib.Bits.{bit_and, bit_or}
use Prim.Native.Nat.{ℕ, ◌-◌}
use mathlib.Core.Path.{sym, ap, ◌∙◌}
use Rattle.words.proofs.WordLaws.{one_shifted, past-with_bit, or-with_bit, and-with_bit}
use borrow.Author.Rules.{rules}
use Rattle.words.proofs.with_bit.Goals as goal

pub returns-then-k-ge32 : goal.returns-then-k-ge32
returns-then-k-ge32 c = past-with_bit _ _ _ (search rules) c.if-k-ge32.true

pub returns-then-t : goal.returns-then-t
returns-then-t c = let a = c.args in
    ap (bit_or a.w) (one_shifted a.k (search rules)) ∙ or-with_bit a.w a.k (search rules) (search rules) ∙ ap (with_bit a.w a.k) (sym c.if-t.true)

pub returns : goal.returns
returns c = let a = c.args in
    ap (λ (m : ℕ). bit_and a.w (4294967295 - m)) (one_shifted a.k (search rules)) ∙ and-with_bit a.w a.k (search rules) (search rules)
    ∙ ap (with_bit a.w a.k) (sym c.if-t.false)
