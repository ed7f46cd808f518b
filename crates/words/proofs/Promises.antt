-- The promises of choices, of counting and of words, kept.
use Prim.Native.Nat.{ℕ, ◌-◌, ◌*◌, ◌/◌, ◌%◌, ◌^◌, ◌<◌}
use mathlib.Core.Path.{◌≡◌, refl, sym, ◌∙◌}
use mathlib.Core.Bool.{true}
use mathlib.Core.List.{List}
use mathlib.Core.Logic.{◌↔◌}
use lib.ListN.{get_or}
use borrow.Author.Tests.{eqb-true, eq-eqb}
use Rattle.words.specs.Array.{bit_at, with_bit_at, rest_at, clean_below, byte_of}
use Rattle.words.specs.Choice.{pick}
use Rattle.words.specs.Counting.{upto, count_below, sum_below}
use Rattle.words.specs.Word as word
use Rattle.words.specs.Promises.{Promises}
use Rattle.words.proofs.CountingLaws.{any_some, some_any, all_at, at_all, lowest_found}
use Rattle.words.proofs.WordLaws.{word_of_lt, bit-word_of, same_word, bit_past, bit-either, bit-both, bit-without, bit-with_bit, bit_kept}
use Rattle.words.proofs.WordLaws.{either_lt, both_lt, without_lt, with_bit_lt, clean_lt, lt-clean}

bit_is : (w k : ℕ) → (word.bit w k ≡ true) ↔ (w / 2 ^ k % 2 ≡ 1)
unfolding word.bit
bit_is w k = (eqb-true (w / 2 ^ k % 2) 1, eq-eqb (w / 2 ^ k % 2) 1)

array-clean : (m n : ℕ) (ws : List ℕ) → (clean_below m n ws ≡ true) ↔ ((k : ℕ) → k < m → get_or ws k 0 < 2 ^ (n - 32 * k))
unfolding clean_below
array-clean m n ws = (
  λ h k l. clean_lt (rest_at n k) (get_or ws k 0) (all_at m (λ k. word.clean (rest_at n k) (get_or ws k 0)) h k l),
  λ h. at_all m (λ k. word.clean (rest_at n k) (get_or ws k 0)) (λ k l. lt-clean (rest_at n k) (get_or ws k 0) (h k l)),
)

pub kept : Promises
unfolding pick upto count_below sum_below bit_at with_bit_at byte_of word.kept
kept =
    record {
      settled = λ answer r t p q. p ∙ sym q;
      settled_lent = λ answer lent r t x y p q. (p.0 ∙ sym q.0, p.1 ∙ sym q.1);
      choice = λ a b. (refl, refl);
      counted = (refl, refl);
      bit_is = bit_is;
      gathered = bit-word_of;
      gathered_below = word_of_lt;
      equal = same_word;
      past = bit_past;
      joined = bit-either;
      shared = bit-both;
      cleared = bit-without;
      replaced = bit-with_bit;
      dropped = bit_kept;
      below = λ a b k t. (either_lt a b, both_lt a b, without_lt a b, with_bit_lt a k t);
      dropped_rest = λ n w. refl;
      clean_exactly = λ n w. (clean_lt n w, lt-clean n w);
      some_exactly = λ n p. (any_some n p, λ s. some_any n p s.0 s.1 s.2);
      all_exactly = λ n p. (all_at n p, at_all n p);
      lowest_within = λ n p. (lowest_found n p).within;
      lowest_first = λ n p. (lowest_found n p).before;
      lowest_passes = λ n p. (lowest_found n p).found;
      turns_none = λ f z. refl;
      turns_more = λ f z n. refl;
      count_none = λ p. refl;
      count_more = λ n p. refl;
      sum_none = λ f. refl;
      sum_more = λ n f. refl;
      array_bit = λ ws n. refl;
      array_put = λ ws n t. refl;
      array_clean = array-clean;
      byte_is = λ w j. refl;
    }
