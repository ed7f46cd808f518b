-- Arrays of 32-bit words: their bits, counts over them, and what keeps them clean; and the bytes of a word.
use mathlib.Core.Path.{◌≡◌, refl, sym, ap, ap₂, ◌∙◌}
use mathlib.Core.Bool.{Bool, true, false, not, ◌&&◌, ◌||◌}
use mathlib.Core.List.{List}
use Prim.Native.Nat.{ℕ, zero, suc, ◌+◌, ◌-◌, ◌*◌, ◌/◌, ◌%◌, ◌^◌, ◌≤◌, ◌<◌}
use native.Mathlib.Nat.{mod-lt}
use native.Mathlib.Decide.{dec_lt, ℕ_discrete}
use native.Mathlib.Omega.{arith}
use borrow.Author.Tests.{ne_eqb, lt-ltb, ltb-true}
use lib.Dec.{eqb, ltb}
use lib.ListN.{length, get_or, set, replicate}
use lib.Pow.{pow_pos}
use lib.Seq.{get_or-set_same, get_or-set_other, set_out}
use Rattle.words.specs.Array.{bit_at, with_bit_at, rest_at, clean_below, byte_of}
use Rattle.words.specs.Choice.{pick}
use Rattle.words.specs.Counting.{all_below, count_below, lowest_below}
use Rattle.words.specs.Word.{bit, either, both, without, with_bit, kept, clean}
use Rattle.words.proofs.ChoiceLaws.{pick-false}
use Rattle.words.proofs.CountingLaws.{all-none_yet, all_more, all_at, at_all, count_same, count_add, Lowest, lowest_found, lowest-one}
use Rattle.words.proofs.TruthLaws.{eqb_iff, same_test}
use Rattle.words.proofs.WordLaws.{bit_past, bit-none, bit-some, bit-either, bit-both, bit-without, bit-with_bit, either_lt, without_lt, with_bit_lt, kept_lt, clean_lt, lt-clean, bits-clean}

-- ---- the bits of an array

-- bit i of word k
pub bit_at_word : (ws : List ℕ) (k i : ℕ) → i < 32 → bit_at ws (32 * k + i) ≡ bit (get_or ws k 0) i
unfolding bit_at
bit_at_word ws k i h = ap₂ (λ (a b : ℕ). bit (get_or ws a 0) b) (omega arith) (omega arith)

-- bit n of the array with bit n put, and its other bits
pub bit_at-with_bit_at : (ws : List ℕ) (n : ℕ) (t : Bool) (h : ℕ) → n / 32 < length ws → bit_at (with_bit_at ws n t) h ≡ pick (eqb h n) t (bit_at ws h)
unfolding bit_at with_bit_at
bit_at-with_bit_at ws n t h l = go (ℕ_discrete (h / 32) (n / 32))
  where
    x : ℕ
    x = with_bit (get_or ws (n / 32) 0) (n % 32) t

    go : Dec (h / 32 ≡ n / 32) → bit (get_or (set ws (n / 32) (with_bit (get_or ws (n / 32) 0) (n % 32) t)) (h / 32) 0) (h % 32) ≡ pick (eqb h n) t (bit (get_or ws (h / 32) 0) (h % 32))
    go (yes p) =
        ap (λ (k : ℕ). bit (get_or (set ws (n / 32) x) k 0) (h % 32)) p ∙ ap (λ (y : ℕ). bit y (h % 32)) (get_or-set_same ws (n / 32) x 0 l)
        ∙ bit-with_bit (get_or ws (n / 32) 0) (n % 32) t (h % 32) (mod-lt h (omega arith))
        ∙ ap₂ (λ (e : Bool) (k : ℕ). pick e t (bit (get_or ws k 0) (h % 32))) (eqb_iff (h % 32) (n % 32) h n (λ e. omega arith) (λ e. omega arith)) (sym p)
    go (no q) =
        ap (λ (y : ℕ). bit y (h % 32)) (get_or-set_other ws (n / 32) (h / 32) x 0 q)
        ∙ pick-false t (ne_eqb h n (λ e. q (ap (λ (m : ℕ). m / 32) e)))

-- past the end nothing is put
pub with_bit_at-past : (ws : List ℕ) (n : ℕ) (t : Bool) → length ws ≤ n / 32 → with_bit_at ws n t ≡ ws
unfolding with_bit_at
with_bit_at-past ws n t l = set_out ws (n / 32) (with_bit (get_or ws (n / 32) 0) (n % 32) t) l

-- words of 0 have no bit
pub zeros_get_d : (n i : ℕ) → ◌≡◌ {A = ℕ} (get_or (replicate n 0) i 0) 0
zeros_get_d zero i = refl
zeros_get_d (suc n) zero = refl
zeros_get_d (suc n) (suc i) = zeros_get_d n i

pub zeros-bit_at : (n h : ℕ) → bit_at (replicate n 0) h ≡ false
unfolding bit_at
zeros-bit_at n h = ap (λ (w : ℕ). bit w (h % 32)) (zeros_get_d n (h / 32)) ∙ bit-none (h % 32)

-- ---- a rule for every word of an array

-- one word is put anew, and keeps the rule
pub all-put : (p : ℕ → ℕ → Bool) (m : ℕ) (ws : List ℕ) (k x : ℕ) → all_below m (λ i. p i (get_or ws i 0)) ≡ true → (k < m → p k x ≡ true)
    → all_below m (λ i. p i (get_or (set ws k x) i 0)) ≡ true
all-put p m ws k x all new = at_all m (λ i. p i (get_or (set ws k x) i 0)) (λ i l. go i l (all_at m (λ j. p j (get_or ws j 0)) all i l) (ℕ_discrete i k) (dec_lt k (length ws)))
  where
    go : (i : ℕ) → i < m → p i (get_or ws i 0) ≡ true → Dec (i ≡ k) → Dec (k < length ws) → p i (get_or (set ws k x) i 0) ≡ true
    go i b old (yes e) (yes l) = ap₂ (λ (j : ℕ) (y : ℕ). p j y) e (ap (λ (j : ℕ). get_or (set ws k x) j 0) e ∙ get_or-set_same ws k x 0 l) ∙ new (omega arith)
    go i b old (yes e) (no g) = ap (λ (v : List ℕ). p i (get_or v i 0)) (set_out ws k x (omega arith)) ∙ old
    go i b old (no n) d = ap (p i) (get_or-set_other ws k i x 0 n) ∙ old

-- ---- clean arrays

-- bit i of word k belongs to one of n things exactly if thing 32 * k + i is one of them
pub rest-ltb : (n k i : ℕ) → ltb i (rest_at n k) ≡ ltb (32 * k + i) n
rest-ltb n k i =
    same_test (ltb i (n - 32 * k)) (ltb (32 * k + i) n) (λ e. lt-ltb (32 * k + i) n (omega (arith, ltb-true i (n - 32 * k) e)))
    (λ e. lt-ltb i (n - 32 * k) (omega (arith, ltb-true (32 * k + i) n e)))

-- a loop that looks at one word after the other
pub clean-none_yet : (n : ℕ) (ws : List ℕ) → true ≡ clean_below 0 n ws
unfolding clean_below
clean-none_yet n ws = all-none_yet (λ k. clean (rest_at n k) (get_or ws k 0))

pub clean-more : (n : ℕ) (ws : List ℕ) (k : ℕ) {o q : Bool} → o ≡ clean_below k n ws → q ≡ clean (rest_at n k) (get_or ws k 0) → (o && q) ≡ clean_below (k + 1) n ws
unfolding clean_below
clean-more n ws k e f = all_more (λ j. clean (rest_at n j) (get_or ws j 0)) k e f

-- words of 0 are clean
pub clean-zeros : (m n : ℕ) → clean_below m n (replicate m 0) ≡ true
unfolding clean_below
clean-zeros m n =
    at_all m (λ k. clean (rest_at n k) (get_or (replicate m 0) k 0))
    (λ k l. ap (clean (rest_at n k)) (zeros_get_d m k) ∙ lt-clean (rest_at n k) 0 (pow_pos (rest_at n k)))

-- a clean array has no bit from n on
pub clean-bit : (m n : ℕ) (ws : List ℕ) → clean_below m n ws ≡ true → (h : ℕ) → n ≤ h → h < 32 * m → bit_at ws h ≡ false
unfolding clean_below bit_at
clean-bit m n ws all h l b =
    bit_past (rest_at n (h / 32)) (get_or ws (h / 32) 0) (h % 32)
    (clean_lt (rest_at n (h / 32)) (get_or ws (h / 32) 0) (all_at m (λ k. clean (rest_at n k) (get_or ws k 0)) all (h / 32) (omega arith))) (omega arith)

-- a word put into a clean array, clean itself
pub clean-put : (m n : ℕ) (ws : List ℕ) (k x : ℕ) → clean_below m n ws ≡ true → (k < m → clean (rest_at n k) x ≡ true) → clean_below m n (set ws k x) ≡ true
unfolding clean_below
clean-put m n ws k x all new = all-put (λ j w. clean (rest_at n j) w) m ws k x all new

-- what keeps a word clean
pub clean-kept : (n w : ℕ) → clean n (kept n w) ≡ true
clean-kept n w = lt-clean n (kept n w) (kept_lt n w)

pub clean-either : (n a b : ℕ) → clean n a ≡ true → clean n b ≡ true → clean n (either a b) ≡ true
clean-either n a b p q =
    bits-clean 32 n (either a b) (either_lt a b)
    (λ k l m. bit-either a b k m ∙ ap₂ (λ (s t : Bool). s || t) (bit_past n a k (clean_lt n a p) l) (bit_past n b k (clean_lt n b q) l))

pub clean-without : (n a b : ℕ) → clean n a ≡ true → clean n (without a b) ≡ true
clean-without n a b p =
    bits-clean 32 n (without a b) (without_lt a b) (λ k l m. bit-without a b k m ∙ ap (λ (s : Bool). s && not (bit b k)) (bit_past n a k (clean_lt n a p) l))

-- a bit below n is put
pub clean-with_bit : (n w j : ℕ) (t : Bool) → clean n w ≡ true → j < n → clean n (with_bit w j t) ≡ true
clean-with_bit n w j t p q =
    bits-clean 32 n (with_bit w j t) (with_bit_lt w j t)
    (λ k l m. bit-with_bit w j t k m ∙ sym (pick-false t (ne_eqb k j (λ e. omega arith))) ∙ bit_past n w k (clean_lt n w p) l)

-- a word of a clean array
pub clean_word : (m n : ℕ) (ws : List ℕ) (k : ℕ) → k < m → clean_below m n ws ≡ true → clean (rest_at n k) (get_or ws k 0) ≡ true
unfolding clean_below
clean_word m n ws k l all = all_at m (λ j. clean (rest_at n j) (get_or ws j 0)) all k l

pub clean-with_bit_at : (m n : ℕ) (ws : List ℕ) (v : ℕ) (t : Bool) → v < n → clean_below m n ws ≡ true → clean_below m n (with_bit_at ws v t) ≡ true
unfolding with_bit_at
clean-with_bit_at m n ws v t l all =
    clean-put m n ws (v / 32) (with_bit (get_or ws (v / 32) 0) (v % 32) t) all
    (λ k. clean-with_bit (rest_at n (v / 32)) (get_or ws (v / 32) 0) (v % 32) t (clean_word m n ws (v / 32) k all) (omega arith))

-- ---- the bytes of a word

pub byte_of_lt : (w j : ℕ) → byte_of w j < 256
unfolding byte_of
byte_of_lt w j = mod-lt (w / 2 ^ (8 * j)) (omega arith)

-- ---- counts and the lowest bit of an array

-- the words up to j, and word j
pub count_word : (ws : List ℕ) (j : ℕ) → count_below (32 * j) (bit_at ws) + count_below 32 (bit (get_or ws j 0)) ≡ count_below (32 * (j + 1)) (bit_at ws)
count_word ws j =
    ap (λ (n : ℕ). count_below (32 * j) (bit_at ws) + n) (count_same 32 (bit (get_or ws j 0)) (λ i. bit_at ws (32 * j + i)) (λ i h. sym (bit_at_word ws j i h)))
    ∙ sym (count_add (32 * j) 32 (bit_at ws)) ∙ ap (λ (n : ℕ). count_below n (bit_at ws)) (omega arith)

-- words of 0 up to j have no bit
pub none_before : (ws : List ℕ) (j : ℕ) → ((k : ℕ) → k < j → get_or ws k 0 ≡ 0) → (h : ℕ) → h < 32 * j → bit_at ws h ≡ false
unfolding bit_at
none_before ws j z h l = ap (λ (w : ℕ). bit w (h % 32)) (z (h / 32) (omega arith)) ∙ bit-none (h % 32)

-- word j of m is the first that is not 0
pub lowest_word : (ws : List ℕ) (m j : ℕ) → j < m → get_or ws j 0 < 2 ^ 32 → (get_or ws j 0 ≡ 0 → ⊥) → ((k : ℕ) → k < j → get_or ws k 0 ≡ 0)
    → 32 * j + lowest_below 32 (bit (get_or ws j 0)) ≡ lowest_below (32 * m) (bit_at ws)
lowest_word ws m j l f n z = lowest-one (bit_at ws) (32 * m) (32 * j + t) (lowest_below (32 * m) (bit_at ws)) here (lowest_found (32 * m) (bit_at ws))
  where
    t : ℕ
    t = lowest_below 32 (bit (get_or ws j 0))

    low : Lowest (bit (get_or ws j 0)) 32 (lowest_below 32 (bit (get_or ws j 0)))
    low = lowest_found 32 (bit (get_or ws j 0))

    inside : Dec (lowest_below 32 (bit (get_or ws j 0)) < 32) → lowest_below 32 (bit (get_or ws j 0)) < 32
    inside (yes p) = p
    inside (no p) = absurd (n (bit-some 32 (get_or ws j 0) f (λ k q. low.before k (omega arith))))

    below : lowest_below 32 (bit (get_or ws j 0)) < 32 → (h : ℕ) → h < 32 * j + lowest_below 32 (bit (get_or ws j 0)) → Dec (h < 32 * j) → bit_at ws h ≡ false
    below i h b (yes p) = none_before ws j z h p
    below i h b (no p) =
        let e : 32 * j + (h - 32 * j) ≡ h = omega arith in
        ap (bit_at ws) (sym e) ∙ bit_at_word ws j (h - 32 * j) (omega arith) ∙ low.before (h - 32 * j) (omega arith)

    here : Lowest (bit_at ws) (32 * m) (32 * j + lowest_below 32 (bit (get_or ws j 0)))
    here =
        let i = inside (dec_lt (lowest_below 32 (bit (get_or ws j 0))) 32) in
        record { within = omega (arith, i); before = λ h b. below i h b (dec_lt h (32 * j)); found = λ _. bit_at_word ws j (lowest_below 32 (bit (get_or ws j 0))) i ∙ low.found i }

pub lowest_nowhere : (ws : List ℕ) (m : ℕ) → ((k : ℕ) → k < m → get_or ws k 0 ≡ 0) → 32 * m ≡ lowest_below (32 * m) (bit_at ws)
lowest_nowhere ws m z =
    lowest-one (bit_at ws) (32 * m) (32 * m) (lowest_below (32 * m) (bit_at ws))
    (record { within = omega arith; before = none_before ws m z; found = λ l. absurd (omega arith) })
    (lowest_found (32 * m) (bit_at ws))

-- ---- an array that is filled word by word

pub filled : (out : List ℕ) (f : ℕ → ℕ) (j : ℕ) → j < length out → ((k : ℕ) → k < j → get_or out k 0 ≡ f k) → (x : ℕ) → x ≡ f j
    → (k : ℕ) → k < j + 1 → get_or (set out j x) k 0 ≡ f k
filled out f j l h x e k m = go (ℕ_discrete k j)
  where
    go : Dec (k ≡ j) → get_or (set out j x) k 0 ≡ f k
    go (yes p) = ap (λ (i : ℕ). get_or (set out j x) i 0) p ∙ get_or-set_same out j x 0 l ∙ e ∙ ap f (sym p)
    go (no p) = get_or-set_other out j k x 0 p ∙ h k (omega arith)

-- the words hold what two arrays share
pub bit_at-both : (out a b : List ℕ) (h : ℕ) → get_or out (h / 32) 0 ≡ both (get_or a (h / 32) 0) (get_or b (h / 32) 0) → bit_at out h ≡ (bit_at a h && bit_at b h)
unfolding bit_at
bit_at-both out a b h e = ap (λ (w : ℕ). bit w (h % 32)) e ∙ bit-both (get_or a (h / 32) 0) (get_or b (h / 32) 0) (h % 32) (mod-lt h (omega arith))
