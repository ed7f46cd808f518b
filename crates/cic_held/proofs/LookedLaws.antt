-- How many words a search and an index read look at: by what is found, at most, and in one record and another.
use mathlib.Core.Path.{◌≡◌, refl, sym, ap, ap₂, ◌∙◌}
use mathlib.Core.Bool.{Bool, true, false, ◌&&◌}
use mathlib.Core.List.{List}
use mathlib.Core.Logic.{◌↔◌, ◌⊎◌, inl, inr}
use Prim.Native.Nat.{ℕ, zero, suc, ◌+◌, ◌*◌, ◌/◌, ◌%◌, ◌≤◌, ◌<◌}
use native.Mathlib.Decide.{dec_lt}
use native.Mathlib.Nat.{add-mul}
use native.Mathlib.Omega.{arith}
use borrow.Author.Tests.{lt-ltb, ltb-true, eq-eqb, eqb-true}
use lib.Dec.{eqb, ltb}
use lib.ListN.{get_or}
use Rattle.words.specs.Array.{bit_at}
use Rattle.words.specs.Choice.{pick}
use Rattle.words.specs.Counting.{any_below, lowest_below, sum_below, count_below, one}
use Rattle.words.specs.Word.{bit}
use Rattle.words.proofs.ArrayLaws.{bit_at_word}
use Rattle.words.proofs.ChoiceLaws.{pick_true, pick-false}
use Rattle.words.proofs.CountingLaws.{any_some, some_any, sum_le, Lowest, lowest_found}
use Rattle.words.proofs.TruthLaws.{and_left, and_right, and_both, clash, told}
use Rattle.cic_record.specs.declared.Channel.{Channel}
use Rattle.cic_record.specs.declared.Cic.{Cic}
use Rattle.cic_record.specs.Kinds.{channel_number}
use Rattle.cic_held.specs.Looked.{words_of, word_has, looked_in, searched, looked_over}
use Rattle.cic_held.specs.Order.{pending_in, busy, first_in, channel_first}
use Rattle.cic_held.specs.Search.{pending_of, has_of, looked_of}
use Rattle.cic_held.proofs.IndexLaws.{lowest_in, first-busy, first-idle, passes, words_in, words-most, sum_more}
use Rattle.cic_held.proofs.NamedLaws.{lowest_channel}
use Rattle.cic_held.proofs.SearchLaws.{pending_at, looked_word, looked_no_word}

-- ---- a search for one channel

first_word : (c : Cic) (k : Channel) → Lowest (word_has c k) (words_of c) (lowest_below (words_of c) (word_has c k))
first_word c k = lowest_found (words_of c) (word_has c k)

pub looked-before : (c : Cic) (k : Channel) (j : ℕ) → j + 1 < looked_in c k → word_has c k j ≡ false
unfolding looked_in
looked-before c k j l = (first_word c k).before j (omega (arith, l))

pub looked_last : (c : Cic) (k : Channel) (j : ℕ) → looked_in c k ≡ j + 1 → looked_in c k < words_of c → word_has c k j ≡ true
unfolding looked_in
looked_last c k j e l =
    let at : lowest_below (words_of c) (word_has c k) ≡ j = omega (arith, e, l) in
    ap (word_has c k) (sym at) ∙ (first_word c k).found (omega (arith, e, l))

pub looked-some : (c : Cic) (k : Channel) → (0 < looked_in c k) ↔ (0 < c.systems)
unfolding looked_in
looked-some c k = (λ l. omega (arith, l), λ l. omega (arith, l))

-- a word has one, down to its bits
abbrev Has : Cic → Channel → ℕ → Type 0
Has c k j =
    (i : ℕ) × (i < 32) × (32 * j + i < c.systems) × (bit (get_or c.status j 0) i ≡ true) × (bit (get_or c.enable j 0) i ≡ true)
    × (get_or c.channel (32 * j + i) 0 ≡ k.0)

pub has-is : (c : Cic) (k : Channel) (j : ℕ) → (word_has c k j ≡ true) ↔ Has c k j
unfolding word_has pending_in
has-is c k j = (there, back)
  where
    n : ℕ → ℕ
    n i = 32 * j + i

    is : ℕ → Bool
    is i = bit_at c.enable (n i) && eqb (get_or c.channel (n i) 0) k.0

    set : ℕ → Bool
    set i = bit_at c.status (n i) && is i

    there : any_below 32 (λ i. ltb (n i) c.systems && set i) ≡ true → Has c k j
    there e =
        let r = any_some 32 (λ i. ltb (n i) c.systems && set i) e in
        let i = r.0 in
        let s = and_right (ltb (n i) c.systems) (set i) r.2 in
        let t = and_right (bit_at c.status (n i)) (is i) s in (
          i,
          r.1,
          ltb-true (n i) c.systems (and_left (ltb (n i) c.systems) (set i) r.2),
          sym (bit_at_word c.status j i r.1) ∙ and_left (bit_at c.status (n i)) (is i) s,
          sym (bit_at_word c.enable j i r.1) ∙ and_left (bit_at c.enable (n i)) (eqb (get_or c.channel (n i) 0) k.0) t,
          eqb-true (get_or c.channel (n i) 0) k.0 (and_right (bit_at c.enable (n i)) (eqb (get_or c.channel (n i) 0) k.0) t),
        )

    back : Has c k j → any_below 32 (λ i. ltb (n i) c.systems && set i) ≡ true
    back r =
        some_any 32 (λ i. ltb (n i) c.systems && set i) r.0 r.1
        (and_both (lt-ltb (n r.0) c.systems r.2)
        (and_both (bit_at_word c.status j r.0 r.1 ∙ r.3)
        (and_both (bit_at_word c.enable j r.0 r.1 ∙ r.4) (eq-eqb (get_or c.channel (n r.0) 0) k.0 r.5))))

-- the words looked at, on the parts of the record
parts-looked : (c : Cic) (k : Channel) → looked_of c.systems c.status c.enable c.channel k ≡ looked_in c k
unfolding looked_of looked_in has_of word_has pending_in
parts-looked c k = refl

-- the word of the first one has one
first_has : (c : Cic) (k : Channel) → first_in c k < c.systems → has_of c.systems c.status c.enable c.channel k (first_in c k / 32) ≡ true
unfolding has_of pending_in
first_has c k l =
    let s = first_in c k in
    let at : 32 * (s / 32) + s % 32 ≡ s = omega arith in
    some_any 32 (pending_at c.systems c.status c.enable c.channel k (s / 32)) (s % 32) (omega arith)
    (and_both (lt-ltb (32 * (s / 32) + s % 32) c.systems (omega (arith, at, l))) (ap (pending_of c.status c.enable c.channel k) at ∙ (lowest_in c k).found l))

-- a search looks up to the word of the one that it finds
pub looked_found : (c : Cic) (k : Channel) → first_in c k < c.systems → looked_in c k ≡ first_in c k / 32 + 1
unfolding pending_in
looked_found c k l =
    let s = first_in c k in
    sym (looked_word c.systems c.status c.enable c.channel k (s / 32) (omega (arith, l)) (λ r b _. (lowest_in c k).before r (omega (arith, b))) (first_has c k l) ∙ parts-looked c k)

-- and at all of them where it finds none
pub looked-none : (c : Cic) (k : Channel) → c.systems ≤ first_in c k → looked_in c k ≡ words_of c
unfolding pending_in
looked-none c k l =
    sym (looked_no_word c.systems c.status c.enable c.channel k (words_of c) (omega arith) (omega arith) (λ r _ m. (lowest_in c k).before r (omega (arith, m, l))) ∙ parts-looked c k)

-- only systems, status, enables and the channel map count
pub looked-alike : (c d : Cic) (k : Channel) → c.systems ≡ d.systems → c.status ≡ d.status → c.enable ≡ d.enable → c.channel ≡ d.channel
    → looked_in c k ≡ looked_in d k
looked-alike c d k a b e f =
    sym (parts-looked c k) ∙ ap₂ (λ (n : ℕ) (x : List ℕ). looked_of n x c.enable c.channel k) a b
    ∙ ap₂ (λ (x y : List ℕ). looked_of d.systems d.status x y k) e f ∙ parts-looked d k

-- ---- all channels

-- as many times w as there are numbers that pass
sum-count : (n w : ℕ) (f : ℕ → ℕ) (t : ℕ → Bool) → ((k : ℕ) → k < n → f k ≡ pick (t k) w 0) → sum_below n f ≡ count_below n t * w
unfolding sum_below count_below pick
sum-count zero w f t h = omega arith
sum-count (suc n) w f t h =
    let low = sum-count n w f t (λ k l. h k (omega (arith, l))) in
    ap₂ (λ (a b : ℕ). a + b) low (h n (omega arith) ∙ once (t n)) ∙ sym (add-mul (count_below n t) (one (t n)) w)
  where
    once : (b : Bool) → pick b w 0 ≡ one b * w
    once true = omega arith
    once false = omega arith

-- the channels that pass a test
abbrev pub passing : (Channel → Bool) → ℕ → Bool
passing t k = t (channel_number k)

-- an index read looks at no more words than there are for each channel that it searches
pub over-most : (c : Cic) (t : Channel → Bool) → looked_over c t ≤ count_below (searched c t) (passing t) * words_of c
unfolding looked_over
over-most c t =
    let all = sum-count (searched c t) (words_of c) (λ k. pick (passing t k) (words_of c) 0) (passing t) (λ k l. refl) in
    let le = sum_le (searched c t) (words_in c t) (λ k. pick (passing t k) (words_of c) 0) (λ k l. least k) in
    omega (arith, all, le)
  where
    least : (k : ℕ) → words_in c t k ≤ pick (passing t k) (words_of c) 0
    least k = go (told (passing t k))
      where
        go : (passing t k ≡ true) ⊎ (passing t k ≡ false) → words_in c t k ≤ pick (passing t k) (words_of c) 0
        go (inl e) = let q = pick_true {a = words_of c} 0 e in omega (arith, q, words-most c t k)
        go (inr e) = let q = pick-false {b = 0} (looked_in c (channel_number k)) e in omega (arith, q)

-- a channel that has none is searched through
idle_words : (c : Cic) (t : Channel → Bool) (k : ℕ) → passes c t k ≡ false → words_in c t k ≡ pick (passing t k) (words_of c) 0
idle_words c t k e = go (told (passing t k)) (dec_lt (first_in c (channel_number k)) c.systems)
  where
    go : (passing t k ≡ true) ⊎ (passing t k ≡ false) → Dec (first_in c (channel_number k) < c.systems) → words_in c t k ≡ pick (passing t k) (words_of c) 0
    go (inl p) (yes l) = clash (and_both p (first-busy c (channel_number k) l)) e
    go (inl p) (no l) = ap (λ (x : ℕ). pick (passing t k) x 0) (looked-none c (channel_number k) (omega (arith, l)))
    go (inr p) _ = sym (pick-false (looked_in c (channel_number k)) p) ∙ pick-false (words_of c) p

-- the first channel that has one: all words for each channel before it that passes, and those up to the one that is found
pub over_found : (c : Cic) (t : Channel → Bool) → channel_first c t < c.channels
    → looked_over c t ≡ count_below (channel_first c t) (passing t) * words_of c + (first_in c (channel_number (channel_first c t)) / 32 + 1)
unfolding looked_over searched
over_found c t l =
    ap (λ (n : ℕ). sum_below n (words_in c t)) (omega (arith, l)) ∙ sym (sum_more (words_in c t) f (sym before) (sym last))
  where
    f : ℕ
    f = channel_first c t

    k : Channel
    k = channel_number f

    pass : passes c t f ≡ true
    pass = (lowest_channel c t).found l

    before : sum_below f (words_in c t) ≡ count_below f (passing t) * words_of c
    before = sum-count f (words_of c) (words_in c t) (passing t) (λ j m. idle_words c t j ((lowest_channel c t).before j m))

    there : Dec (first_in c k < c.systems) → first_in c k < c.systems
    there (yes m) = m
    there (no m) = clash (and_right (t k) (busy c k) pass) (first-idle c k (omega (arith, m)))

    last : words_in c t f ≡ first_in c k / 32 + 1
    last = sym (pick_true 0 (and_left (t k) (busy c k) pass)) ∙ looked_found c k (there (dec_lt (first_in c k) c.systems))

-- and where no channel has one, all words for each channel that passes
pub over_none : (c : Cic) (t : Channel → Bool) → c.channels ≤ channel_first c t → looked_over c t ≡ count_below c.channels (passing t) * words_of c
unfolding looked_over searched
over_none c t l =
    ap (λ (n : ℕ). sum_below n (words_in c t)) (omega (arith, l, (lowest_channel c t).within))
    ∙ sum-count c.channels (words_of c) (words_in c t) (passing t) (λ j m. idle_words c t j ((lowest_channel c t).before j (omega (arith, m, l))))
