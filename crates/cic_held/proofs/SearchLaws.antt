-- What the search for an index rests on: the lowest bit of a word, one word more, and all of them.
use mathlib.Core.Path.{◌≡◌, refl, sym, ap, ap₂, ◌∙◌}
use mathlib.Core.Bool.{Bool, true, false, ◌&&◌, and-false}
use mathlib.Core.Logic.{◌⊎◌, inl, inr, ◌≢◌}
use mathlib.Core.List.{List}
use Prim.Native.Nat.{ℕ, ◌+◌, ◌-◌, ◌*◌, ◌/◌, ◌^◌, ◌≤◌, ◌<◌}
use native.Mathlib.Decide.{dec_lt, ℕ_discrete}
use native.Mathlib.Omega.{arith}
use borrow.Author.Tests.{lt-ltb, le-ltb, ltb-true}
use lib.Dec.{eqb, ltb}
use lib.ListN.{get_or}
use Rattle.std.specs.Prelude.{Option, Some, None}
use Rattle.words.specs.Array.{bit_at, rest_at}
use Rattle.words.specs.Counting.{lowest_below}
use Rattle.words.specs.Word.{bit, with_bit, both, kept}
use Rattle.words.proofs.ArrayLaws.{bit_at_word, rest-ltb}
use Rattle.words.proofs.CountingLaws.{some_any, any_none, Lowest, lowest_found, lowest-one, lowest-same}
use Rattle.words.proofs.ChoiceLaws.{pick_true, pick-false}
use Rattle.words.proofs.HopLaws.{lowest_in, lowest-before, hop-other}
use Rattle.words.proofs.TruthLaws.{and_left, and_right, and_both, told, clash, not-holds}
use Rattle.words.proofs.WordLaws.{bit-none, bit-both, bit_kept}
use Rattle.cic_record.specs.declared.Channel.{Channel}
use Rattle.cic_record.specs.Kinds.{system, channel_in}
use Rattle.cic_held.specs.declared.indices.Found.{Found}
use Rattle.cic_held.specs.Search.{some_below, lit, pending_of, first_of, has_of, looked_of, found_of}

-- ---- the lowest that passes

-- n passes and none before it does
pub found_here : (p : ℕ → Bool) (n i : ℕ) → i < n → ((j : ℕ) → j < i → p j ≡ false) → p i ≡ true → i ≡ lowest_below n p
found_here p n i l b h =
    lowest-one p n i (lowest_below n p) (record { within = omega arith; before = b; found = λ _. h }) (lowest_found n p)

-- none passes
pub found_nowhere : (p : ℕ → Bool) (n : ℕ) → ((j : ℕ) → j < n → p j ≡ false) → n ≡ lowest_below n p
found_nowhere p n b =
    lowest-one p n n (lowest_below n p) (record { within = omega arith; before = b; found = λ l. absurd (omega (arith, l)) }) (lowest_found n p)

-- ---- one word

-- what the answer tells of the lowest that passes: it is there, or there is none
pub some_told : (n s i : ℕ) {r : Option ℕ} → r ≡ Some i → r ≡ some_below n s → (s < n) × (i ≡ s)
some_told n s i e f = go (told (ltb s n))
  where
    go : (ltb s n ≡ true) ⊎ (ltb s n ≡ false) → (s < n) × (i ≡ s)
    go (inl t) = let g : Some i ≡ Some s = sym e ∙ f ∙ sym (pick_true None t) in (ltb-true s n t, cc)
    go (inr t) = let g : Some i ≡ None = sym e ∙ f ∙ sym (pick-false (Some s) t) in cc

pub none_told : (n s : ℕ) {r : Option ℕ} → r ≡ None → r ≡ some_below n s → n ≤ s
none_told n s e f = go (dec_lt s n)
  where
    go : Dec (s < n) → n ≤ s
    go (yes l) = let g : None ≡ Some s = sym e ∙ f ∙ sym (pick_true None (lt-ltb s n l)) in cc
    go (no l) = omega (arith, l)

pub there_is : (n s i : ℕ) → i < n → i ≡ s → Some i ≡ some_below n s
there_is n s i l e = ap Some e ∙ pick_true None (lt-ltb s n (omega (arith, l, e)))

pub there_is_none : (n s : ℕ) → n ≡ s → None ≡ some_below n s
there_is_none n s e = pick-false (Some s) (le-ltb s n (omega (arith, e)))

-- the lowest bit that is left passes the code's test, or leaves the lowest that passes as it was
pub hop_found : (w i : ℕ) (q : ℕ → Bool) → w < 2 ^ 32 → w ≢ 0 → i ≡ lowest_below 32 (bit w) → q i ≡ true → i ≡ lowest_below 32 (λ j. bit w j && q j)
hop_found w i q l n e t =
    let m = lowest_in w i l n e in
    found_here (λ j. bit w j && q j) 32 i m.0 (λ j b. ap (λ (x : Bool). x && q j) (lowest-before w i e j b)) (and_both m.1 t)

pub hop_missed : (w w' i : ℕ) (q : ℕ → Bool) → i < 32 → w' ≡ with_bit w i false → q i ≡ false → lowest_below 32 (λ j. bit w' j && q j) ≡ lowest_below 32 (λ j. bit w j && q j)
hop_missed w w' i q m e f =
    ap (λ (v : ℕ). lowest_below 32 (λ j. bit v j && q j)) e
    ∙ lowest-same 32 (λ j. bit (with_bit w i false) j && q j) (λ j. bit w j && q j) (λ j l. go j l (ℕ_discrete j i))
  where
    go : (j : ℕ) → j < 32 → Dec (j ≡ i) → (bit (with_bit w i false) j && q j) ≡ (bit w j && q j)
    go j l (yes d) = ap (λ (x : Bool). bit (with_bit w i false) j && x) (ap q d ∙ f) ∙ and-false (bit (with_bit w i false) j) ∙ sym (ap (λ (x : Bool). bit w j && x) (ap q d ∙ f) ∙ and-false (bit w j))
    go j l (no d) = ap (λ (x : Bool). x && q j) (hop-other w i j l d)

pub hop_none : (w : ℕ) (q : ℕ → Bool) → w ≡ 0 → 32 ≡ lowest_below 32 (λ j. bit w j && q j)
hop_none w q e = found_nowhere (λ j. bit w j && q j) 32 (λ j l. ap (λ (v : ℕ). bit v j && q j) e ∙ ap (λ (x : Bool). x && q j) (bit-none j))

regroup : (a b d e : Bool) → (((a && b) && d) && e) ≡ (d && (a && (b && e)))
regroup true true true e = refl
regroup true true false e = refl
regroup true false true e = refl
regroup true false false e = refl
regroup false b true e = refl
regroup false b false e = refl

module _ (n : ℕ) (status enable channel : List ℕ) (k : Channel) where
  -- system interrupt 32 * j + i is configured and pending in channel k
  abbrev pub pending_at : ℕ → ℕ → Bool
  pending_at j i = ltb (32 * j + i) n && pending_of status enable channel k (32 * j + i)

  -- word j as the code looks at it
  abbrev pub word_at : ℕ → ℕ
  word_at j = kept (rest_at n j) (both (get_or status j 0) (get_or enable j 0))

  -- the bits of word j, those beyond the systems dropped, are the system interrupts from 32 * j on
  of_word : (j i : ℕ) → i < 32 → lit channel (32 * j) (word_at j) k i ≡ pending_at j i
  of_word j i l =
      let of = eqb (channel_in channel (system (32 * j + i))).0 k.0 in
      ap (λ (b : Bool). b && of)
      (bit_kept (rest_at n j) (both (get_or status j 0) (get_or enable j 0)) i
      ∙ ap₂ (λ (a b : Bool). a && b)
      (bit-both (get_or status j 0) (get_or enable j 0) i l ∙ ap₂ (λ (a b : Bool). a && b) (sym (bit_at_word status j i l)) (sym (bit_at_word enable j i l)))
      (rest-ltb n j i))
      ∙ regroup (bit_at status (32 * j + i)) (bit_at enable (32 * j + i)) (ltb (32 * j + i) n) of

  -- the lowest bit that passes is that of the lowest system interrupt of the word that is pending in the channel
  pub word_lowest : (j base w : ℕ) {r : ℕ} → base ≡ 32 * j → w ≡ word_at j → r ≡ lowest_below 32 (lit channel base w k) → Lowest (pending_at j) 32 r
  word_lowest j base w b v e =
      rw (e ∙ ap₂ (λ (x y : ℕ). lowest_below 32 (lit channel x y k)) b v ∙ lowest-same 32 (lit channel (32 * j) (word_at j) k) (pending_at j) (of_word j)) (lowest_found 32 (pending_at j))

  -- ---- all words

  -- no system interrupt before word j is pending in the channel
  abbrev pub NoneBefore : ℕ → Type 0
  NoneBefore j = (s : ℕ) → s < 32 * j → s < n → pending_of status enable channel k s ≡ false

  -- a system interrupt of word j fails as its bit does
  in_word : (j i : ℕ) → 32 * j + i < n → pending_at j i ≡ false → pending_of status enable channel k (32 * j + i) ≡ false
  in_word j i l e = ap (λ (t : Bool). t && pending_of status enable channel k (32 * j + i)) (sym (lt-ltb (32 * j + i) n l)) ∙ e

  -- the same before bit i of word j, where no lower bit passes
  before-bit : (j i : ℕ) → NoneBefore j → ((m : ℕ) → m < i → pending_at j m ≡ false) → (s : ℕ) → s < 32 * j + i → s < n
      → pending_of status enable channel k s ≡ false
  before-bit j i none low s l m = go (dec_lt s (32 * j))
    where
      go : Dec (s < 32 * j) → pending_of status enable channel k s ≡ false
      go (yes b) = none s b m
      go (no b) =
          let at : 32 * j + (s - 32 * j) ≡ s = omega (arith, b) in
          ap (pending_of status enable channel k) (sym at) ∙ in_word j (s - 32 * j) (omega (arith, b, m)) (low (s - 32 * j) (omega (arith, b, l)))

  -- the words before j have none
  words-none : (j : ℕ) → NoneBefore j → (m : ℕ) → m < j → has_of n status enable channel k m ≡ false
  unfolding has_of
  words-none j none m l = any_none 32 (pending_at m) (λ i b. not-holds (pending_at m i) (λ e. taken i b e))
    where
      taken : (i : ℕ) → i < 32 → pending_at m i ≡ true → ⊥
      taken i b e =
          let p = pending_of status enable channel k (32 * m + i) in
          let t = ltb (32 * m + i) n in
          clash (and_right t p e) (none (32 * m + i) (omega (arith, b, l)) (ltb-true (32 * m + i) n (and_left t p e)))

  word_has : (j i : ℕ) → Lowest (pending_at j) 32 i → i < 32 → has_of n status enable channel k j ≡ true
  unfolding has_of
  word_has j i low l = some_any 32 (pending_at j) i l (low.found l)

  -- the words looked at where it is found in word j, whose number is below that of the words
  pub looked_word : (j : ℕ) → 32 * j < n → NoneBefore j → has_of n status enable channel k j ≡ true → j + 1 ≡ looked_of n status enable channel k
  unfolding looked_of
  looked_word j l none has =
      let first : j ≡ lowest_below ((n + 31) / 32) (has_of n status enable channel k) = found_here (has_of n status enable channel k) ((n + 31) / 32) j (omega (arith, l)) (words-none j none) has in
      omega (arith, first, l)

  -- and where it is found in none of them
  pub looked_no_word : (j : ℕ) → n ≤ 32 * j → 32 * j < n + 32 → NoneBefore j → j ≡ looked_of n status enable channel k
  unfolding looked_of
  looked_no_word j a b none =
      let nowhere : (n + 31) / 32 ≡ lowest_below ((n + 31) / 32) (has_of n status enable channel k) = found_nowhere (has_of n status enable channel k) ((n + 31) / 32) (λ m l. words-none j none m (omega (arith, l, b))) in
      omega (arith, nowhere, a, b)

  -- it is found in word j
  pub found_word : (j i : ℕ) → Lowest (pending_at j) 32 i → i < 32 → NoneBefore j
      → ◌≡◌ {A = Found} (record { index = 32 * j + i; words = j + 1 }) (found_of n status enable channel k)
  unfolding found_of first_of
  found_word j i low l none =
      let p = pending_of status enable channel k in
      let there = ltb-true (32 * j + i) n (and_left (ltb (32 * j + i) n) (p (32 * j + i)) (low.found l)) in
      ap₂ (λ (a b : ℕ). record { index = a; words = b })
      (found_here p n (32 * j + i) there (λ s b. before-bit j i none low.before s b (omega (arith, there, b))) (and_right (ltb (32 * j + i) n) (p (32 * j + i)) (low.found l)))
      (looked_word j (omega (arith, there)) none (word_has j i low l))

  -- one word more that has none
  pub word_none : (j i : ℕ) → Lowest (pending_at j) 32 i → 32 ≤ i → NoneBefore j → NoneBefore (j + 1)
  word_none j i low l none s b m = before-bit j i none low.before s (omega (arith, b, l)) m

  -- it is found in none of them
  pub found_no_word : (j : ℕ) → n ≤ 32 * j → 32 * j < n + 32 → NoneBefore j
      → ◌≡◌ {A = Found} (record { index = n; words = j }) (found_of n status enable channel k)
  unfolding found_of first_of
  found_no_word j l m none =
      ap₂ (λ (a b : ℕ). record { index = a; words = b }) (found_nowhere (pending_of status enable channel k) n (λ s b. none s (omega (arith, b, l)) b))
      (looked_no_word j l m none)
