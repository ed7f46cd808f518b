-- What is promised of choices, of counting and of words, bit by bit and over their whole width: the names that every other promise is made of.
use Rattle.std.specs.Prelude.{ℕ, suc, ◌+◌, ◌-◌, ◌*◌, ◌/◌, ◌%◌, ◌^◌, ◌<◌, ◌≤◌, ◌≡◌, Bool, true, false, not, ◌&&◌, ◌||◌, List, ◌↔◌, eqb, ltb, get_or, set}
use Rattle.words.specs.Array.{bit_at, with_bit_at, clean_below, byte_of}
use Rattle.words.specs.Choice.{pick}
use Rattle.words.specs.Counting.{upto, any_below, all_below, one, count_below, sum_below, lowest_below}
use Rattle.words.specs.Word.{bit, word_of, either, both, without, with_bit, kept, clean}

pub record Promises : Type 1 where
  -- a contract that names the answer allows one outcome; with a lent part, one answer and one content (01, When a contract is strong enough)
  pub settled : {A : Type 0} (answer : A) (r t : A) → r ≡ answer → t ≡ answer → r ≡ t
  pub settled_lent : {A B : Type 0} (answer : A) (lent : B) (r t : A) (x y : B) → (r ≡ answer) × (x ≡ lent) → (t ≡ answer) × (y ≡ lent) → (r ≡ t) × (x ≡ y)
  -- a choice is the one by a test that holds, the other by one that does not; a test that holds counts 1, one that does not 0
  pub choice : {A : Type 0} (a b : A) → (pick true a b ≡ a) × (pick false a b ≡ b)
  pub counted : (one true ≡ 1) × (one false ≡ 0)
  -- bit 0 of a word is its lowest digit in base 2, and each further bit the next
  pub bit_is : (w k : ℕ) → (bit w k ≡ true) ↔ (w / 2 ^ k % 2 ≡ 1)
  -- bit k of a word gathered from a test is the test of k, at any width, and past the width there is none
  pub gathered : (n : ℕ) (f : ℕ → Bool) (k : ℕ) → k < n → bit (word_of n f) k ≡ f k
  pub gathered_below : (n : ℕ) (f : ℕ → Bool) → word_of n f < 2 ^ n
  -- two words of n bits with the same bits are one word
  pub equal : (n a b : ℕ) → a < 2 ^ n → b < 2 ^ n → ((k : ℕ) → k < n → bit a k ≡ bit b k) → a ≡ b
  -- a word has no bit past its width
  pub past : (n w k : ℕ) → w < 2 ^ n → n ≤ k → bit w k ≡ false
  -- each bit of a joined, a shared, a cleared word, of one with a bit put anew, and of one with its bits from n on dropped
  pub joined : (a b k : ℕ) → k < 32 → bit (either a b) k ≡ (bit a k || bit b k)
  pub shared : (a b k : ℕ) → k < 32 → bit (both a b) k ≡ (bit a k && bit b k)
  pub cleared : (a b k : ℕ) → k < 32 → bit (without a b) k ≡ (bit a k && not (bit b k))
  pub replaced : (w k : ℕ) (t : Bool) (j : ℕ) → j < 32 → bit (with_bit w k t) j ≡ pick (eqb j k) t (bit w j)
  pub dropped : (n w k : ℕ) → bit (kept n w) k ≡ (bit w k && ltb k n)
  -- the first four are words of 32 bits, whatever they are made of; the fifth is the rest by 2 ^ n
  pub below : (a b k : ℕ) (t : Bool) → (either a b < 2 ^ 32) × (both a b < 2 ^ 32) × (without a b < 2 ^ 32) × (with_bit a k t < 2 ^ 32)
  pub dropped_rest : (n w : ℕ) → kept n w ≡ w % 2 ^ n
  -- a word is clean from n on exactly if it is below 2 ^ n
  pub clean_exactly : (n w : ℕ) → (clean n w ≡ true) ↔ (w < 2 ^ n)
  -- some number below n passes exactly if there is one, and all pass exactly if each does
  pub some_exactly : (n : ℕ) (p : ℕ → Bool) → (any_below n p ≡ true) ↔ ((k : ℕ) × (k < n) × (p k ≡ true))
  pub all_exactly : (n : ℕ) (p : ℕ → Bool) → (all_below n p ≡ true) ↔ ((k : ℕ) → k < n → p k ≡ true)
  -- the lowest number below n that passes: none before it does, and it does if it is below n
  pub lowest_within : (n : ℕ) (p : ℕ → Bool) → lowest_below n p ≤ n
  pub lowest_first : (n : ℕ) (p : ℕ → Bool) (k : ℕ) → k < lowest_below n p → p k ≡ false
  pub lowest_passes : (n : ℕ) (p : ℕ → Bool) → lowest_below n p < n → p (lowest_below n p) ≡ true
  -- n + 1 turns are n turns and the turn of n; what is counted and what is summed below n + 1 is that below n, and what n adds to it
  pub turns_none : {A : Type 0} (f : A → ℕ → A) (z : A) → upto f z 0 ≡ z
  pub turns_more : {A : Type 0} (f : A → ℕ → A) (z : A) (n : ℕ) → upto f z (suc n) ≡ f (upto f z n) n
  pub count_none : (p : ℕ → Bool) → count_below 0 p ≡ 0
  pub count_more : (n : ℕ) (p : ℕ → Bool) → count_below (suc n) p ≡ count_below n p + one (p n)
  pub sum_none : (f : ℕ → ℕ) → sum_below 0 f ≡ 0
  pub sum_more : (n : ℕ) (f : ℕ → ℕ) → sum_below (suc n) f ≡ sum_below n f + f n
  -- bit n of an array of words stands in word n / 32; to put it changes that word alone
  pub array_bit : (ws : List ℕ) (n : ℕ) → bit_at ws n ≡ bit (get_or ws (n / 32) 0) (n % 32)
  pub array_put : (ws : List ℕ) (n : ℕ) (t : Bool) → with_bit_at ws n t ≡ set ws (n / 32) (with_bit (get_or ws (n / 32) 0) (n % 32) t)
  -- no bit of m words is set from n on exactly if each word is clean from its share of n on
  pub array_clean : (m n : ℕ) (ws : List ℕ) → (clean_below m n ws ≡ true) ↔ ((k : ℕ) → k < m → get_or ws k 0 < 2 ^ (n - 32 * k))
  -- byte 0 of a word is its lowest eight bits, and each further byte the next eight
  pub byte_is : (w j : ℕ) → byte_of w j ≡ w / 2 ^ (8 * j) % 256
