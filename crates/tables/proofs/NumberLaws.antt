-- What digits are worth, as the code adds them up.
use Prim.Native.Nat.{ℕ, zero, suc, ◌+◌, ◌*◌, ◌^◌, ◌≤◌, ◌<◌, min}
use mathlib.Core.Path.{◌≡◌, refl, sym, ap, ◌∙◌, subst}
use mathlib.Core.Bool.{Bool, true, false, not, ◌&&◌, true≢false}
use mathlib.Core.List.{List, [], ◌∷◌}
use mathlib.Core.Logic.{◌≢◌, ◌⊎◌, inl, inr}
use native.Mathlib.Nat.{mul-le-mul_right}
use native.Mathlib.Numerals.{add-one}
use native.Mathlib.Omega.{arith}
use native.Mathlib.Decide.{dec_lt, ℕ_discrete}
use lib.Dec.{eqb, ltb, leb}
use lib.ListN.{length, get_or, take, drop, length-drop, drop_of_length-le, get_or-eq_default}
use lib.Pointwise.{pointwise}
use lib.Seq.{drop-cons, get_or-drop}
use borrow.Author.Tests.{eqb-true, eqb-false, ne_eqb, leb-true, lt-leb, ltb-true, lt-ltb, le-ltb, not-true}
use Rattle.std.specs.Prelude.{Option, Some, None, unwrap_or}
use borrow.Author.Rules.{rules}
use Rattle.words.specs.Choice.{pick}
use Rattle.words.proofs.ChoiceLaws.{pick_true, pick-false, pick_cases}
use Rattle.words.proofs.CountingLaws.{all_at, at_all}
use Rattle.words.proofs.TruthLaws.{and_left, and_right, and_both, not-holds, told}
use Rattle.tables.specs.Number.{digit, worth_from, are_digits, is_hex, is_number, worth}
use Rattle.tables.specs.Passes.{capped, digit_to, read_digits, read_word}
use Rattle.tables.specs.Facts.{Digits}

-- what a character is worth as a digit to any base, one that is none too
pub digit_small : (b : ℕ) → digit b ≤ 16
unfolding digit
digit_small b =
    pick_cases (λ n. n ≤ 16) (leb 48 b && leb b 57) (λ e. omega (arith, leb-true b 57 (and_right (leb 48 b) _ e)))
    (λ n. pick_cases (λ n. n ≤ 16) (leb 65 b && leb b 70) (λ e. omega (arith, leb-true b 70 (and_right (leb 65 b) _ e)))
    (λ n. pick_cases (λ n. n ≤ 16) (leb 97 b && leb b 102) (λ e. omega (arith, leb-true b 102 (and_right (leb 97 b) _ e))) (λ n. omega arith)))

pub some_none : (v : ℕ) → ◌≡◌ {A = Option ℕ} (Some v) None → ⊥
some_none v e = search rules

-- a digit to a base, and none
pub digit_some : (base b d : ℕ) → digit_to base b ≡ Some d → (d ≡ digit b) × (d < base)
unfolding digit_to
digit_some base b d h = go (dec_lt (digit b) base)
  where
    go : Dec (digit b < base) → (d ≡ digit b) × (d < base)
    go (yes l) =
        let e : Some (digit b) ≡ Some d = pick_true None (lt-ltb (digit b) base l) ∙ h in
        let q : digit b ≡ d = ap (λ (o : Option ℕ). unwrap_or o 0) e in
        (sym q, omega arith)
    go (no l) = absurd (some_none d (sym (pick-false (Some (digit b)) (le-ltb (digit b) base (omega arith)) ∙ h)))

pub digit_none : (base b : ℕ) → digit_to base b ≡ None → base ≤ digit b
unfolding digit_to
digit_none base b h = go (dec_lt (digit b) base)
  where
    go : Dec (digit b < base) → base ≤ digit b
    go (yes l) = absurd (some_none (digit b) (pick_true None (lt-ltb (digit b) base l) ∙ h))
    go (no l) = omega arith

-- ---- a sum that is capped before it wraps

times_le : (b v : ℕ) → 1 ≤ b → v ≤ b * v
times_le b v l = omega (arith, mul-le-mul_right v l)

pub capped_small : (v : ℕ) → capped v ≤ 2 ^ 32
unfolding capped
capped_small v = omega arith

-- what is behind the cap stays there, whatever digits follow
capped-more : (b u v : ℕ) (ds : List ℕ) → 1 ≤ b → capped u ≡ capped v → capped (worth_from b u ds) ≡ capped (worth_from b v ds)
unfolding worth_from
capped-more b u v [] l e = e
capped-more b u v (d ∷ ds) l e = capped-more b (b * u + digit d) (b * v + digit d) ds l (unfold capped in go (dec_lt u (2 ^ 32)) (unfold capped in e))
  where
    go : Dec (u < 2 ^ 32) → min u (2 ^ 32) ≡ min v (2 ^ 32) → min (b * u + digit d) (2 ^ 32) ≡ min (b * v + digit d) (2 ^ 32)
    go (yes m) q = let p : u ≡ v = omega arith in rw p
    go (no m) q = omega (arith, times_le b u l, times_le b v l)

capped-twice : (v : ℕ) → capped (capped v) ≡ capped v
unfolding capped
capped-twice v = omega arith

-- a turn: the digit at k makes b * v + d of v, and the cap is put on it
pub worth-turn : (b v d c k : ℕ) (ds : List ℕ) (o : ℕ) → 1 ≤ b → k < length ds → d ≡ digit (get_or ds k 0) → c ≡ capped (b * v + d)
    → capped (worth_from b v (drop k ds)) ≡ o → capped (worth_from b c (drop (k + 1) ds)) ≡ o
worth-turn b v d c k ds o l h q e f =
    capped-more b c (b * v + d) (drop (k + 1) ds) l (ap capped e ∙ capped-twice (b * v + d))
    ∙ ap (λ (x : ℕ). capped (worth_from b (b * v + x) (drop (k + 1) ds))) q
    ∙ sym (ap capped whole)
    ∙ f
  where
    whole : worth_from b v (drop k ds) ≡ worth_from b (b * v + digit (get_or ds k 0)) (drop (k + 1) ds)
    whole = rw (drop-cons ds k 0 h, add-one k) (unfold worth_from in refl)

-- ---- 0x

hex-short : (w : List ℕ) → length w < 2 → false ≡ is_hex w
unfolding is_hex
hex-short w l = rw (get_or-eq_default w 0 {n = 1} (omega arith)) (none (eqb (get_or w 0 0) 48))
  where
    none : (b : Bool) → false ≡ (b && false)
    none true = refl
    none false = refl

pub hex_long : (w : List ℕ) → is_hex w ≡ true → 2 ≤ length w
hex_long w e = go (dec_lt (length w) 2)
  where
    go : Dec (length w < 2) → 2 ≤ length w
    go (yes l) = absurd (true≢false (sym e ∙ sym (hex-short w l)))
    go (no l) = omega arith

-- the code's test for it
pub hex_prefix : (w : List ℕ) → pointwise eqb (take 2 w) (48 ∷ 120 ∷ []) ≡ is_hex w
unfolding is_hex
hex_prefix [] = refl
hex_prefix (x ∷ []) = refl
hex_prefix (x ∷ y ∷ r) = ap (λ (b : Bool). eqb x 48 && b) (last (eqb y 120))
  where
    last : (b : Bool) → (b && true) ≡ b
    last true = refl
    last false = refl

-- ---- one number

pub word-hex : (w : List ℕ) → is_hex w ≡ true → read_digits 16 (drop 2 w) ≡ read_word w
unfolding read_word read_digits is_number worth pick
word-hex w h = rw h

pub word-plain : (w : List ℕ) → is_hex w ≡ false → read_digits 10 w ≡ read_word w
unfolding read_word read_digits is_number worth pick
word-plain w h = rw h

-- ---- what a number is

-- the definition's test, taken apart and put together again
pub digits_are : (b : ℕ) (ds : List ℕ) → are_digits b ds ≡ true → Digits b ds
unfolding are_digits
digits_are b ds h =
    let some : length ds ≢ 0 = eqb-false (length ds) 0 (not-true (eqb (length ds) 0) (search (and_left, and_right))) in
    record {
      some = omega arith;
      each = λ k l. ltb-true (digit (get_or ds k 0)) b (all_at (length ds) (λ k. ltb (digit (get_or ds k 0)) b) (search (and_left, and_right)) k l);
    }

pub are-digits : (b : ℕ) (ds : List ℕ) → Digits b ds → are_digits b ds ≡ true
unfolding are_digits
are-digits b ds d =
    and_both (ap not (ne_eqb (length ds) 0 (λ e. omega (arith, d.some)))) (at_all (length ds) _ (λ k l. lt-ltb (digit (get_or ds k 0)) b (d.each k l)))

-- there is no digit
pub digits_empty : (b : ℕ) (ds : List ℕ) → length ds ≡ 0 → None ≡ read_digits b ds
unfolding read_digits
digits_empty b ds e = pick-false _ (not-holds (are_digits b ds) (λ g. omega (arith, (digits_are b ds g).some)))

-- the digit at k is none
pub digits_fault : (b k : ℕ) (ds : List ℕ) → k < length ds → digit_to b (get_or ds k 0) ≡ None → None ≡ read_digits b ds
unfolding read_digits
digits_fault b k ds h q = pick-false _ (not-holds (are_digits b ds) (λ e. omega (arith, digit_none b (get_or ds k 0) q, (digits_are b ds e).each k h)))

-- it is one
pub digits_more : (b d k : ℕ) (ds : List ℕ) → d ≡ digit (get_or ds k 0) → d < b → ((j : ℕ) → j < k → digit (get_or ds j 0) < b)
    → (j : ℕ) → j < k + 1 → digit (get_or ds j 0) < b
digits_more b d k ds q t h j l = go (ℕ_discrete j k)
  where
    go : Dec (j ≡ k) → digit (get_or ds j 0) < b
    go (yes e) = rw e (omega (arith, q))
    go (no n) = h j (omega arith)

-- all of them are digits, and the sum is what they are worth, under the cap
pub digits-done : (b v k : ℕ) (ds : List ℕ) → k ≡ length ds → length ds ≢ 0 → v ≤ 2 ^ 32 → capped (worth_from b v (drop k ds)) ≡ capped (worth_from b 0 ds)
    → ((j : ℕ) → j < k → digit (get_or ds j 0) < b) → Some v ≡ read_digits b ds
unfolding read_digits
digits-done b v k ds e d small f h =
    rw sum (pick_true _ (are-digits b ds (record { some = omega arith; each = λ j n. h j (omega arith) })))
  where
    own : v ≡ capped v
    own = unfold capped in (omega arith)

    last : length ds ≤ k
    last = omega arith

    sum : v ≡ capped (worth_from b 0 ds)
    sum = own ∙ sym (rw (drop_of_length-le ds last) (unfold worth_from in refl)) ∙ f

pub number-hex : (w : List ℕ) → is_hex w ≡ true → (is_number w ≡ are_digits 16 (drop 2 w)) × (worth w ≡ worth_from 16 0 (drop 2 w))
unfolding is_number worth pick
number-hex w h = rw h (refl, refl)

pub number-plain : (w : List ℕ) → is_hex w ≡ false → (is_number w ≡ are_digits 10 w) × (worth w ≡ worth_from 10 0 w)
unfolding is_number worth pick
number-plain w h = rw h (refl, refl)

pub digit_low : (b : ℕ) → b < 48 → digit b ≡ 16
unfolding digit pick
digit_low b l = rw (lt-leb 48 b l, lt-leb 65 b (omega arith), lt-leb 97 b (omega arith))

digit-high : (b : ℕ) → digit b < 16 → 48 ≤ b
digit-high b h = go (dec_lt b 48)
  where
    go : Dec (b < 48) → 48 ≤ b
    go (yes l) = absurd (omega (arith, digit_low b l))
    go (no l) = omega arith

pub hex-first : (w : List ℕ) → is_hex w ≡ true → (get_or w 0 0 ≡ 48) × (get_or w 1 0 ≡ 120)
unfolding is_hex
hex-first w h = (eqb-true (get_or w 0 0) 48 (and_left (eqb (get_or w 0 0) 48) _ h), eqb-true (get_or w 1 0) 120 (and_right (eqb (get_or w 0 0) 48) _ h))

-- no character of a number is white, or begins a comment
pub number-high : (w : List ℕ) → is_number w ≡ true → (k : ℕ) → k < length w → 48 ≤ get_or w k 0
number-high w n k l = go (told (is_hex w))
  where
    hexed : is_hex w ≡ true → (j : ℕ) → j < length w → 48 ≤ get_or w j 0
    hexed h zero m = omega (arith, (hex-first w h).0)
    hexed h (suc zero) m = omega (arith, (hex-first w h).1)
    hexed h (suc (suc j)) m =
        let d = digits_are 16 (drop 2 w) (sym (number-hex w h).0 ∙ n) in
        let z : 2 + j ≡ suc (suc j) = omega arith in
        digit-high (get_or w (suc (suc j)) 0) (subst (λ (x : ℕ). digit x < 16) (get_or-drop 2 w j 0 ∙ ap (λ (i : ℕ). get_or w i 0) z) (d.each j (omega (arith, length-drop 2 w))))

    go : (is_hex w ≡ true) ⊎ (is_hex w ≡ false) → 48 ≤ get_or w k 0
    go (inl h) = hexed h k l
    go (inr h) =
        let d = digits_are 10 w (sym (number-plain w h).0 ∙ n) in
        digit-high (get_or w k 0) (omega (arith, d.each k l))

pub number-some : (w : List ℕ) → is_number w ≡ true → 0 < length w
number-some w n = go (told (is_hex w))
  where
    go : (is_hex w ≡ true) ⊎ (is_hex w ≡ false) → 0 < length w
    go (inl h) = omega (arith, hex_long w h)
    go (inr h) = (digits_are 10 w (sym (number-plain w h).0 ∙ n)).some
