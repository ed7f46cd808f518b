-- Laws of a map as the program has it: digits, texts, the row that is looked for, and what it says.
use Prim.Native.Nat.{ℕ, zero, suc, ◌+◌, ◌-◌, ◌*◌, ◌/◌, ◌%◌, ◌≤◌, ◌<◌}
use mathlib.Core.Path.{◌≡◌, refl, sym, ap, ◌∙◌}
use mathlib.Core.Bool.{Bool, true, false}
use mathlib.Core.List.{List, [], ◌∷◌, ◌++◌, append-nil}
use mathlib.Core.Logic.{◌≢◌, ◌⊎◌, inl, inr}
use native.Mathlib.Nat.{div-lt_iff_lt-mul}
use native.Mathlib.Numerals.{add-one}
use native.Mathlib.Omega.{arith}
use lib.Dec.{eqb}
use lib.ListN.{length, get_or, take, drop, drop_of_length-le}
use lib.Seq.{drop-cons, take-length}
use Rattle.std.proofs.lemmas.List.{length-drop, length-take-le}
use borrow.Author.Tests.{eq-eqb, ne_eqb, lt-ltb, le-ltb}
use Rattle.std.specs.Prelude.{Option, Some, None}
use Rattle.words.specs.Choice.{pick}
use Rattle.words.proofs.ChoiceLaws.{pick_true, pick-false}
use Rattle.words.proofs.TruthLaws.{told}
use Rattle.text.specs.Text.{write, decimal}
use Rattle.text.proofs.WriteLaws.{rest_of, nothing, and_then}
use Rattle.text.specs.Phrases.{counted}
use Rattle.register_names.specs.declared.Sizes.{Sizes}
use Rattle.register_names.specs.Rows.{Row, in_row, sectioned, named, numbered, row_words, place_in}
use Rattle.register_names.specs.Table.{digit_of, two_at, four_at, until, count_by, count_at, section_from, first_at, step_at, name_at, section_at, row_at, bytes_at, rows_from, rows_in, stands_by, stands_at, row_from, number_by, title_at, words_at}

-- ---- digits

pub digit_low : (b : ℕ) → b < 48 → 0 ≡ digit_of b
unfolding digit_of
digit_low b h = let z : 0 ≡ b - 48 = omega (arith, h) in z ∙ pick_true _ (lt-ltb b 58 (omega (arith, h)))

pub digit_ten : (b : ℕ) → b < 58 → b - 48 ≡ digit_of b
unfolding digit_of
digit_ten b h = pick_true _ (lt-ltb b 58 h)

pub digit-letter : (b : ℕ) → 58 ≤ b → (b - 55) % 16 ≡ digit_of b
unfolding digit_of
digit-letter b h = pick-false _ (le-ltb b 58 h)

module _ (t : List ℕ) (i a b : ℕ) where
  pub two_of : a ≡ digit_of (get_or t i 0) → b ≡ digit_of (get_or t (i + 1) 0) → a * 16 + b ≡ two_at t i
  unfolding two_at
  two_of e f = ap (λ (z : ℕ). z * 16 + b) e ∙ ap (λ (z : ℕ). digit_of (get_or t i 0) * 16 + z) f

  pub four_of : a ≡ two_at t i → b ≡ two_at t (i + 2) → a * 256 + b ≡ four_at t i
  unfolding four_at
  four_of e f = ap (λ (z : ℕ). z * 256 + b) e ∙ ap (λ (z : ℕ). two_at t i * 256 + z) f

-- ---- a text up to its bar

-- the bytes from one on
pub rest_from : (k : ℕ) (t : List ℕ) → take (length t - k) (drop k t) ≡ drop k t
rest_from k t = ap (λ (n : ℕ). take n (drop k t)) (sym (length-drop k t)) ∙ take-length (drop k t)

module _ (l : List ℕ) (i : ℕ) where
  until_at : i < length l → until (drop i l) ≡ pick (eqb (get_or l i 0) 124) [] (get_or l i 0 ∷ until (drop (i + 1) l))
  unfolding until
  until_at h = ap until (drop-cons l i 0 h ∙ ap (λ (n : ℕ). get_or l i 0 ∷ drop n l) (sym (add-one i)))

  pub until-turn : (o p q : List ℕ × ℕ) → i < length l → get_or l i 0 ≢ 124 → q ≡ write p (get_or l i 0 ∷ []) → write p (until (drop i l)) ≡ o → write q (until (drop (i + 1) l)) ≡ o
  until-turn o p q h b e f =
      rest_of p q (get_or l i 0 ∷ []) (until (drop (i + 1) l)) e ∙ ap (write p) (sym (until_at h ∙ sym (pick-false _ (ne_eqb _ _ b)))) ∙ f

  pub until-bar : (o p : List ℕ × ℕ) → i < length l → get_or l i 0 ≡ 124 → write p (until (drop i l)) ≡ o → p ≡ o
  until-bar o p h b f = nothing p ∙ ap (write p) (sym (until_at h ∙ sym (pick_true _ (eq-eqb _ _ b)))) ∙ f

  pub until_end : (o p : List ℕ × ℕ) → length l ≤ i → write p (until (drop i l)) ≡ o → p ≡ o
  unfolding until
  until_end o p h f = nothing p ∙ ap (write p) (sym (ap until (drop_of_length-le l h))) ∙ f

-- ---- the row that is looked for

-- the bytes of a row
pub row_bytes : (t : List ℕ) (k : ℕ) → k < length t / 64 → (take (k * 64 + 64 - k * 64) (drop (k * 64) t) ≡ bytes_at t k) × (length (bytes_at t k) ≡ 64)
unfolding bytes_at
row_bytes t k h =
    let e : k * 64 + 64 - k * 64 ≡ 64 = omega arith in
    (ap (λ (n : ℕ). take n (drop (k * 64) t)) e, length-take-le 64 (drop (k * 64) t) (omega (arith, length-drop (k * 64) t, h)))

module _ (t : List ℕ) (n : Sizes) (o : ℕ) where
  from_more : (k m : ℕ) → k < m → row_from t n o k (m - k) ≡ pick (stands_at (bytes_at t k) n o) (Some k) (row_from t n o (k + 1) (m - (k + 1)))
  unfolding row_from
  from_more k m h = let e : m - k ≡ suc (m - (k + 1)) = omega (arith, h) in ap (row_from t n o k) e

  pub row_begin : (m : ℕ) → row_from t n o 0 (m - 0) ≡ row_from t n o 0 m
  row_begin m = let e : m - 0 ≡ m = omega arith in ap (row_from t n o 0) e

  module _ (k m : ℕ) (whole : Option ℕ) where
    pub row_found : {b : Bool} → k < m → b ≡ stands_at (bytes_at t k) n o → b ≡ true → row_from t n o k (m - k) ≡ whole → Some k ≡ whole
    row_found h s e w = pick_true _ (sym s ∙ e) ∙ sym (from_more k m h) ∙ w

    pub row-turn : {b : Bool} → k < m → b ≡ stands_at (bytes_at t k) n o → b ≡ false → row_from t n o k (m - k) ≡ whole → row_from t n o (k + 1) (m - (k + 1)) ≡ whole
    row-turn h s e w = pick-false _ (sym s ∙ e) ∙ sym (from_more k m h) ∙ w

    pub row-none : m ≤ k → row_from t n o k (m - k) ≡ whole → None ≡ whole
    unfolding row_from
    row-none h w = let e : 0 ≡ m - k = omega (arith, h) in ap (row_from t n o k) e ∙ w

  -- a row that is found is one of those
  pub row_below : (m k : ℕ) {r : ℕ} → row_from t n o k m ≡ Some r → r < k + m
  unfolding row_from
  row_below zero k e = cc
  row_below (suc m) k {r} e = go (told (stands_at (bytes_at t k) n o)) (row_below m (k + 1))
    where
      go : (stands_at (bytes_at t k) n o ≡ true) ⊎ (stands_at (bytes_at t k) n o ≡ false) → (row_from t n o (k + 1) m ≡ Some r → r < k + 1 + m) → r < k + suc m
      go (inl b) i = let f : Some k ≡ Some r = pick_true _ b ∙ e in let g : k ≡ r = cc in omega (arith, g)
      go (inr b) i = omega (arith, i (pick-false _ b ∙ e))

-- ---- what it says

module _ (t : List ℕ) (n : Sizes) (w : Bool) (o : ℕ) where
  stands-row : (r : List ℕ) → in_row (row_at r n w) o ≡ stands_at r n o
  unfolding in_row row_at stands_at stands_by
  stands-row r = go (told (eqb (step_at r) 0))
    where
      go : (eqb (step_at r) 0 ≡ true) ⊎ (eqb (step_at r) 0 ≡ false) → in_row (row_at r n w) o ≡ stands_at r n o
      go (inl e) = ap (λ (q : Row). in_row q o) (sym (pick_true _ e)) ∙ pick_true _ e
      go (inr e) = ap (λ (q : Row). in_row q o) (sym (pick-false _ e)) ∙ pick-false _ e

  said_row : (r : List ℕ) → words_at r w o ≡ row_words (row_at r n w) o
  unfolding row_words row_at words_at title_at number_by named numbered counted
  said_row r = go (told (eqb (step_at r) 0))
    where
      go : (eqb (step_at r) 0 ≡ true) ⊎ (eqb (step_at r) 0 ≡ false) → words_at r w o ≡ row_words (row_at r n w) o
      go (inl e) =
          ap (λ (l : List ℕ). (32 ∷ []) ++ l ++ sectioned (section_at r w)) (ap (λ (l : List ℕ). name_at r ++ l) (sym (pick_true _ e)) ∙ append-nil (name_at r))
          ∙ ap (λ (q : Row). row_words q o) (pick_true _ e)
      go (inr e) =
          ap (λ (l : List ℕ). (32 ∷ []) ++ (name_at r ++ l) ++ sectioned (section_at r w)) (sym (pick-false _ e))
          ∙ ap (λ (q : Row). row_words q o) (pick-false _ e)

  -- what is said of a row that was looked for
  said : Option ℕ → List ℕ
  said None = []
  said (Some k) = row_words (row_at (bytes_at t k) n w) o

  place-row : (m k : ℕ) → said (row_from t n o k m) ≡ place_in (rows_from t n w k m) o
  unfolding said place_in rows_from row_from
  place-row zero k = refl
  place-row (suc m) k = go (told (stands_at (bytes_at t k) n o)) (place-row m (k + 1))
    where
      go : (stands_at (bytes_at t k) n o ≡ true) ⊎ (stands_at (bytes_at t k) n o ≡ false) → said (row_from t n o (k + 1) m) ≡ place_in (rows_from t n w (k + 1) m) o
          → said (pick (stands_at (bytes_at t k) n o) (Some k) (row_from t n o (k + 1) m)) ≡ pick (in_row (row_at (bytes_at t k) n w) o) (row_words (row_at (bytes_at t k) n w) o) (place_in (rows_from t n w (k + 1) m) o)
      go (inl e) i = ap said (sym (pick_true _ e)) ∙ pick_true _ (stands-row (bytes_at t k) ∙ e)
      go (inr e) i = ap said (sym (pick-false _ e)) ∙ i ∙ pick-false _ (stands-row (bytes_at t k) ∙ e)

  module _ (p q : List ℕ × ℕ) (k : ℕ) where
    pub placed : row_from t n o 0 (length t / 64) ≡ Some k → q ≡ write p (words_at (bytes_at t k) w o) → q ≡ write p (place_in (rows_in t n w) o)
    unfolding said rows_in
    placed e f = f ∙ ap (write p) (said_row (bytes_at t k) ∙ ap said (sym e) ∙ place-row (length t / 64) 0)

    pub unplaced : row_from t n o 0 (length t / 64) ≡ None → p ≡ write p (place_in (rows_in t n w) o)
    unfolding said rows_in
    unplaced e = nothing p ∙ ap (write p) (ap said (sym e) ∙ place-row (length t / 64) 0)

-- ---- by its numbers

module _ (r : List ℕ) (n : Sizes) where
  pub count_of : (most q : ℕ) → most ≡ four_at r 5 → q ≡ count_by (get_or r 10 0) most n → q ≡ count_at r n
  unfolding count_at
  count_of most q e f = f ∙ ap (λ (m : ℕ). count_by (get_or r 10 0) m n) e

  pub stands_of : (first count step o : ℕ) (b : Bool) → first ≡ four_at r 0 → count ≡ count_at r n → step ≡ two_at r 12 → b ≡ stands_by first count step o
      → b ≡ stands_at r n o
  unfolding stands_at first_at step_at
  stands_of first count step o b e f g h =
      h ∙ ap (λ (z : ℕ). stands_by z count step o) e ∙ ap (λ (z : ℕ). stands_by (four_at r 0) z step o) f ∙ ap (λ (z : ℕ). stands_by (four_at r 0) (count_at r n) z o) g

pub number_of : (o p : List ℕ × ℕ) (first step off m : ℕ) → step ≢ 0 → m ≡ (off - first) / step → p ≡ write o (decimal m) → p ≡ write o (number_by first step off)
unfolding number_by
number_of o p first step off m h e f = f ∙ ap (λ (z : ℕ). write o (decimal z)) e ∙ ap (write o) (pick-false _ (ne_eqb _ _ h))

pub no_number : (o : List ℕ × ℕ) (first step off : ℕ) → step ≡ 0 → o ≡ write o (number_by first step off)
unfolding number_by
no_number o first step off h = nothing o ∙ ap (write o) (pick_true _ (eq-eqb _ _ h))

module _ (r : List ℕ) (off : ℕ) (o p q : List ℕ × ℕ) where
  pub title_of : (first step : ℕ) → first ≡ four_at r 0 → step ≡ two_at r 12 → p ≡ write o (until (drop 15 r)) → q ≡ write p (number_by first step off)
      → q ≡ write o (title_at r off)
  unfolding title_at name_at first_at step_at
  title_of first step e f g h =
      and_then o _ _ g (h ∙ ap (λ (z : ℕ). write p (number_by z step off)) e ∙ ap (λ (z : ℕ). write p (number_by (four_at r 0) z off)) f)

  pub words_of : (s : List ℕ × ℕ) (w : Bool) (from : ℕ) → p ≡ write o (32 ∷ []) → q ≡ write p (title_at r off) → from ≡ section_from w
      → s ≡ write q (sectioned (until (drop from r))) → s ≡ write o (words_at r w off)
  unfolding words_at section_at
  words_of s w from e f g h = and_then o _ _ (and_then o _ _ e f) (h ∙ ap (λ (z : ℕ). write q (sectioned (until (drop z r)))) g)

-- what is said by the rows that the program has is said by the maker's map, if they are the same for reads and for writes
pub as-map : (o p : List ℕ × ℕ) (t : List ℕ) (n : Sizes) (off : ℕ) (map : Bool → List Row) (w : Bool) → p ≡ write o (place_in (rows_in t n w) off)
    → rows_from t n true 0 (length t / 64) ≡ map true → rows_from t n false 0 (length t / 64) ≡ map false → p ≡ write o (place_in (map w) off)
unfolding rows_in
as-map o p t n off map true e f g = e ∙ ap (λ (rs : List Row). write o (place_in rs off)) f
as-map o p t n off map false e f g = e ∙ ap (λ (rs : List Row). write o (place_in rs off)) g

pub before-first : (first step o : ℕ) → o < first → 0 < step → 0 ≡ (o - first) / step
before-first first step o h p = let z : (o - first) / step < 1 = (div-lt_iff_lt-mul p).1 (omega (arith, h, p)) in omega (arith, z)
