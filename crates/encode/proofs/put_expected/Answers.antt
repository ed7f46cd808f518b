-- That `put_expected` of src/lib.rt keeps its contract.
use Prim.Native.Nat.{ℕ}
use mathlib.Core.Path.{◌≡◌, ap, ◌∙◌}
use mathlib.Core.Logic.{◌≢◌}
use native.Mathlib.Omega.{arith}
use borrow.Author.Tests.{ne_eqb}
use Rattle.words.proofs.ChoiceLaws.{pick-false}
use Rattle.words.specs.Choice.{pick}
use Rattle.text.specs.Text.{write}
use Rattle.text.proofs.WriteLaws.{and_then}
use Rattle.text.specs.Phrases.{bytes, counted}
use Rattle.encode.specs.Lines.{expected_words}
use Rattle.encode.proofs.put_expected.Goals as goal

words_else : (n w : ℕ) → n ≢ 1 → n ≢ 2 → n ≢ 3 → n ≢ 4 → n ≢ 5 → bytes ": the text is longer than 5242880 bytes" ≡ expected_words n w
unfolding expected_words
words_else n w a b c d e =
    pick-false _ (ne_eqb n 5 e) ∙ pick-false _ (ne_eqb n 4 d) ∙ pick-false _ (ne_eqb n 3 c) ∙ pick-false _ (ne_eqb n 2 b) ∙ pick-false _ (ne_eqb n 1 a)

pub returns-in-1 : goal.returns-in-1
unfolding expected_words bytes pick
returns-in-1 c = rw c.in-1.is c.put_all.ensures

pub returns-in-2 : goal.returns-in-2
unfolding expected_words bytes pick
returns-in-2 c = rw c.in-2.is c.put_all-in-2.ensures

pub returns-in-5 : goal.returns-in-5
unfolding expected_words bytes pick
returns-in-5 c = rw c.in-5.is c.put_all-in-5.ensures

pub returns-in-3 : goal.returns-in-3
unfolding expected_words bytes counted pick
returns-in-3 c = rw c.in-3.is (and_then _ _ _ c.put_all-next.ensures c.put_decimal.ensures)

pub returns-in-4 : goal.returns-in-4
unfolding expected_words bytes counted pick
returns-in-4 c = rw c.in-4.is (and_then _ _ _ c.put_all-next-in-4.ensures c.put_decimal-in-4.ensures)

pub returns-in_default : goal.returns-in_default
unfolding bytes
returns-in_default c =
    c.put_all-in_default.ensures
    ∙ ap (write _) (words_else c.args.expected c.args.word (λ e. omega arith) (λ e. omega arith) (λ e. omega arith) (λ e. omega arith) (λ e. omega arith))
