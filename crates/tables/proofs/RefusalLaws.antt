-- Which of the three a text is, too long, slipped or whole, and what is answered and printed of each.
use Prim.Native.Nat.{ℕ, ◌+◌, ◌*◌, ◌^◌, ◌≤◌, ◌<◌}
use mathlib.Core.Path.{◌≡◌, refl, sym, ap, ◌∙◌, subst}
use mathlib.Core.Bool.{true, false, not, ◌||◌}
use mathlib.Core.List.{List, [], ◌∷◌, ◌++◌, append_assoc}
use mathlib.Core.Logic.{◌↔◌, ◌≢◌, ◌⊎◌, inl, inr}
use native.Mathlib.Nat.{add-zero}
use native.Mathlib.Omega.{arith}
use native.Mathlib.Decide.{dec_lt, ℕ_discrete}
use lib.Dec.{eqb, ltb}
use lib.ListN.{length, get_or, replicate, length-append}
use borrow.Author.Tests.{eq-eqb, ne_eqb, ltb-true, lt-ltb, not-true, not-false}
use Rattle.words.proofs.ChoiceLaws.{pick_true, pick-false}
use Rattle.words.proofs.CountingLaws.{lowest_found}
use Rattle.words.proofs.TruthLaws.{and_left, and_right, and_both, told, clash, not-holds}
use Rattle.steps.specs.Refusals.{damaged, too_long}
use Rattle.text.specs.Text.{decimal, field}
use Rattle.text.proofs.DigitLaws.{length-below}
use Rattle.stack.specs.declared.Table.{Table}
use Rattle.stack.specs.Bytes.{needed}
use Rattle.stack.specs.Printed.{text_of}
use Rattle.tables.specs.declared.Reading.{Reading}
use Rattle.tables.specs.Names.{cleared}
use Rattle.tables.specs.Typed.{nth_start, nth_typed}
use Rattle.tables.specs.Number.{is_number, worth}
use Rattle.tables.specs.Reading.{fits_at, fits, list_of, every_third, table_of, taken, refused_at, first_fault, read_bare, read_table, refused_line, answer_to}
use Rattle.tables.specs.Facts.{Numbers, Slip, SlipAt, Whole, Rows}
use Rattle.tables.proofs.NameLaws.{length-cleared}
use Rattle.tables.proofs.FillLaws.{length-list_of, get_d-list_of, list_of-same}
use Rattle.tables.proofs.SeekLaws.{nth-within}
use Rattle.tables.proofs.ReadLaws.{Fit, fault-is, value_of, too_long_lem, not_long, answer-taken, answer-refused}
use Rattle.stack.proofs.Promises as Stack

-- ---- a number as it must be

-- the test, taken apart and put together again
fits_good : (n : ℕ) (w : List ℕ) → fits n w ≡ true → (is_number w ≡ true) × (n ≡ 96 → worth w < 2 ^ 32)
unfolding fits_at
fits_good n w h = (and_left (is_number w) _ h, λ e. ltb-true (worth w) (2 ^ 32) (sym (rw (eq-eqb n 96 e)) ∙ and_right (is_number w) _ h))

good-fits : (n : ℕ) (w : List ℕ) → is_number w ≡ true → (n ≡ 96 → worth w < 2 ^ 32) → fits n w ≡ true
unfolding fits_at
good-fits n w h f = rw h (go (ℕ_discrete n 96))
  where
    go : Dec (n ≡ 96) → (not (eqb n 96) || ltb (worth w) (2 ^ 32)) ≡ true
    go (yes e) = rw (eq-eqb n 96 e) (lt-ltb (worth w) (2 ^ 32) (f e))
    go (no d) = rw (ne_eqb n 96 d)

fits_bad : (s : List ℕ) (n : ℕ) → fits n (nth_typed s n) ≡ false → Slip s n
fits_bad s n h = go (told (is_number (nth_typed s n))) (ℕ_discrete n 96) (dec_lt (worth (nth_typed s n)) (2 ^ 32))
  where
    go : (is_number (nth_typed s n) ≡ true) ⊎ (is_number (nth_typed s n) ≡ false) → Dec (n ≡ 96) → Dec (worth (nth_typed s n) < 2 ^ 32) → Slip s n
    go (inr e) d l = inl e
    go (inl e) (yes q) (no l) = inr (q, omega arith)
    go (inl e) (yes q) (yes l) = absurd (clash (good-fits n (nth_typed s n) e (λ z. l)) h)
    go (inl e) (no d) l = absurd (clash (good-fits n (nth_typed s n) e (λ z. absurd (d z))) h)

bad-fits : (s : List ℕ) (n : ℕ) → Slip s n → fits n (nth_typed s n) ≡ false
bad-fits s n h = not-holds (fits n (nth_typed s n)) (λ e. go (fits_good n (nth_typed s n) e) h)
  where
    go : (is_number (nth_typed s n) ≡ true) × (n ≡ 96 → worth (nth_typed s n) < 2 ^ 32) → Slip s n → ⊥
    go g (inl e) = clash g.0 e
    go g (inr (q, l)) = omega (arith, g.1 q)

numbers_fit : (s : List ℕ) (n : ℕ) → Numbers s n → Fit s n
numbers_fit s n h k l = good-fits k (nth_typed s k) (h k l).0 (h k l).1

-- ---- a text without comments

module _ (s : List ℕ) where
  fault-within : first_fault s ≤ 98
  unfolding first_fault
  fault-within = (lowest_found 98 (λ n. not (fits n (nth_typed s n)))).within

  before_fault : Numbers s (first_fault s)
  unfolding first_fault
  before_fault k l = fits_good k (nth_typed s k) (not-false _ ((lowest_found 98 (λ n. not (fits n (nth_typed s n)))).before k l))

  at_fault : first_fault s < 98 → Slip s (first_fault s)
  unfolding first_fault
  at_fault l = fits_bad s _ (not-true _ ((lowest_found 98 (λ n. not (fits n (nth_typed s n)))).found l))

  -- it has a slip, or it is whole
  slip_or : SlipAt s (nth_start s (first_fault s)) ⊎ (Numbers s 98 × (nth_start s 98 ≡ length s))
  slip_or = go (dec_lt (first_fault s) 98) (ℕ_discrete (nth_start s 98) (length s))
    where
      all : (first_fault s < 98 → ⊥) → first_fault s ≡ 98
      all g = omega (arith, fault-within)

      go : Dec (first_fault s < 98) → Dec (nth_start s 98 ≡ length s) → SlipAt s (nth_start s (first_fault s)) ⊎ (Numbers s 98 × (nth_start s 98 ≡ length s))
      go (yes l) d = inl (inl (first_fault s, l, before_fault, at_fault l, refl))
      go (no g) (yes e) = inr (subst (Numbers s) (all g) before_fault, e)
      go (no g) (no d) =
          let e = ap (nth_start s) (all g) in
          inl (inr (subst (Numbers s) (all g) before_fault, e, omega (arith, e, nth-within s 98)))

  slip-answer : (p : ℕ) → SlipAt s p → read_bare s ≡ refused_at damaged p
  unfolding read_bare
  slip-answer p (inl (n, l, h, z, e)) =
      let f : n ≡ first_fault s = fault-is s n (omega arith) (numbers_fit s n h) (λ m. bad-fits s n z) in
      sym (pick-false _ (rw (← f, ne_eqb n 98 (λ q. omega arith)))) ∙ ap (refused_at damaged) (ap (nth_start s) (sym f) ∙ sym e)
  slip-answer p (inr (h, e, l)) =
      let f : 98 ≡ first_fault s = fault-is s 98 (omega arith) (numbers_fit s 98 h) (λ m. absurd (omega arith)) in
      sym (pick-false _ (rw (← f, ne_eqb (nth_start s 98) (length s) (λ q. omega arith)))) ∙ ap (refused_at damaged) (ap (nth_start s) (sym f) ∙ sym e)

  whole-answer : Numbers s 98 → nth_start s 98 ≡ length s → read_bare s ≡ taken (table_of (list_of 98 (value_of s)))
  unfolding read_bare
  whole-answer h e =
      let f : 98 ≡ first_fault s = fault-is s 98 (omega arith) (numbers_fit s 98 h) (λ m. absurd (omega arith)) in
      sym (pick_true _ (and_both (eq-eqb (first_fault s) 98 (sym f)) (eq-eqb (nth_start s 98) (length s) e)))

  slip-within : (p : ℕ) → SlipAt s p → p ≤ length s
  slip-within p (inl (n, l, h, z, e)) = omega (arith, nth-within s n)
  slip-within p (inr (h, e, l)) = omega arith

-- ---- any text

pub data Way (s : List ℕ) : Reading → Type 0 where
  overlong : 65536 < length s → Way s (refused_at too_long 65536)
  slipped : (p : ℕ) → length s ≤ 65536 → SlipAt (cleared s) p → Way s (refused_at damaged p)
  whole : Whole s → Way s (taken (table_of (list_of 98 (value_of (cleared s)))))

pub long-is : (s : List ℕ) → 65536 < length s → read_table s ≡ refused_at too_long 65536
long-is s l = sym (too_long_lem s _ l refl)

pub slip-is : (s : List ℕ) (p : ℕ) → length s ≤ 65536 → SlipAt (cleared s) p → read_table s ≡ refused_at damaged p
slip-is s p l d = sym (not_long s _ l refl) ∙ slip-answer (cleared s) p d

pub whole_is : (s : List ℕ) → Whole s → read_table s ≡ taken (table_of (list_of 98 (value_of (cleared s))))
whole_is s (l, h, e) = sym (not_long s _ l refl) ∙ whole-answer (cleared s) h (e ∙ sym (length-cleared s))

pub way : (s : List ℕ) → Way s (read_table s)
way s = go (dec_lt 65536 (length s))
  where
    go : Dec (65536 < length s) → Way s (read_table s)
    go (yes l) = rw (long-is s l) (overlong l)
    go (no l) = by (slip_or (cleared s))
      where
        short : length s ≤ 65536
        short = omega arith

        by : SlipAt (cleared s) (nth_start (cleared s) (first_fault (cleared s))) ⊎ (Numbers (cleared s) 98 × (nth_start (cleared s) 98 ≡ length (cleared s))) → Way s (read_table s)
        by (inl d) = rw (slip-is s _ short d) (slipped _ short d)
        by (inr (h, e)) = let w : Whole s = (short, h, e ∙ length-cleared s) in rw (whole_is s w) (whole w)

-- ---- as they are promised

module _ (s : List ℕ) where
  long-only : (r : Reading) → Way s r → r.refusal ≡ 11 → 65536 < length s
  unfolding refused_at taken
  long-only r (overlong l) e = l
  long-only r (slipped p l d) e = absurd (omega arith)
  long-only r (whole w) e = absurd (omega arith)

  pub eleven : ((read_table s).refusal ≡ 11) ↔ (65536 < length s)
  eleven = (long-only (read_table s) (way s), λ l. rw (long-is s l) (unfold refused_at in refl))

  pub eleven_at : (read_table s).refusal ≡ 11 → (read_table s).offset ≡ 65536
  eleven_at e = rw (long-is s (eleven.0 e)) (unfold refused_at in refl)

  slip-only : (p : ℕ) (r : Reading) → Way s r → (r.refusal ≡ 8) × (r.offset ≡ p) → (length s ≤ 65536) × SlipAt (cleared s) p
  unfolding refused_at taken
  slip-only p r (overlong l) (e, f) = absurd (omega arith)
  slip-only p r (slipped q l d) (e, f) = (l, subst (SlipAt (cleared s)) f d)
  slip-only p r (whole w) (e, f) = absurd (omega arith)

  pub eight : (p : ℕ) → (((read_table s).refusal ≡ 8) × ((read_table s).offset ≡ p)) ↔ ((length s ≤ 65536) × SlipAt (cleared s) p)
  eight p = (slip-only p (read_table s) (way s), λ h. rw (slip-is s p h.0 h.1) (unfold refused_at in (refl, refl)))

  whole-only : (r : Reading) → Way s r → r.refusal ≡ 0 → Whole s
  unfolding refused_at taken
  whole-only r (overlong l) e = absurd (omega arith)
  whole-only r (slipped q l d) e = absurd (omega arith)
  whole-only r (whole w) e = w

  pub read : ((read_table s).refusal ≡ 0) ↔ Whole s
  read = (whole-only (read_table s) (way s), λ w. rw (whole_is s w) (unfold taken in refl))

  only_of : (r : Reading) → Way s r → (r.refusal ≡ 0) ⊎ ((r.refusal ≡ 8) ⊎ (r.refusal ≡ 11))
  unfolding refused_at taken
  only_of r (overlong l) = inr (inr refl)
  only_of r (slipped q l d) = inr (inl refl)
  only_of r (whole w) = inl refl

  pub only : ((read_table s).refusal ≡ 0) ⊎ (((read_table s).refusal ≡ 8) ⊎ ((read_table s).refusal ≡ 11))
  only = only_of (read_table s) (way s)

  abbrev Zeros : Table
  Zeros = record { priority = replicate 32 0; kind = replicate 32 0; forced = 0; frame = replicate 32 0; mark = 0 }

  empty_of : (r : Reading) → Way s r → r.refusal ≢ 0 → r.table ≡ Zeros
  unfolding refused_at taken
  empty_of r (overlong l) d = refl
  empty_of r (slipped q l e) d = refl
  empty_of r (whole w) d = absurd (d refl)

  pub refused-empty : (read_table s).refusal ≢ 0 → (read_table s).table ≡ Zeros
  refused-empty = empty_of (read_table s) (way s)

-- ---- the table of 98 values

table_same : (vs us : List ℕ) → ((k : ℕ) → k < 98 → get_or vs k 0 ≡ get_or us k 0) → table_of vs ≡ table_of us
unfolding table_of every_third
table_same vs us h =
    rw (h 96 (omega arith), h 97 (omega arith), third 0 (omega arith), third 1 (omega arith), third 2 (omega arith))
  where
    third : (f : ℕ) → f < 3 → list_of 32 (λ i. get_or vs (3 * i + f) 0) ≡ list_of 32 (λ i. get_or us (3 * i + f) 0)
    third f l = list_of-same 32 _ _ (λ i m. h (3 * i + f) (omega arith))

pub read-values : (s vs : List ℕ) → (read_table s).refusal ≡ 0 → ((k : ℕ) → k < 98 → get_or vs k 0 ≡ value_of (cleared s) k) → read_table s ≡ taken (table_of vs)
read-values s vs e h =
    whole_is s ((read s).0 e) ∙ ap taken (table_same (list_of 98 (value_of (cleared s))) vs (λ k l. get_d-list_of 98 (value_of (cleared s)) k l ∙ sym (h k l)))

pub rows : (vs : List ℕ) → Rows vs (table_of vs)
unfolding table_of every_third
rows vs =
    record {
      lengths = (length-list_of 32 _, length-list_of 32 _, length-list_of 32 _);
      priority = λ i l. get_d-list_of 32 _ i l ∙ ap (λ (n : ℕ). get_or vs n 0) (add-zero (3 * i));
      kind = λ i l. get_d-list_of 32 _ i l;
      frame = λ i l. get_d-list_of 32 _ i l;
      forced = refl;
      mark = refl;
    }

-- ---- the line

refused-line : (refusal offset : ℕ) → refused_line refusal offset ≡ 69 ∷ 32 ∷ (decimal refusal ++ (32 ∷ (decimal offset ++ (10 ∷ []))))
unfolding refused_line field
refused-line refusal offset = ap (λ (x : List ℕ). 69 ∷ 32 ∷ x) (append_assoc (decimal refusal) (32 ∷ decimal offset) (10 ∷ []))

pub answer-read : (s : List ℕ) → (read_table s).refusal ≡ 0 → answer_to s ≡ text_of (needed (read_table s).table)
answer-read s e = sym (answer-taken s (read_table s) (needed (read_table s).table) refl e refl)

pub answer_else : (s : List ℕ) → (read_table s).refusal ≢ 0
    → answer_to s ≡ 69 ∷ 32 ∷ (decimal (read_table s).refusal ++ (32 ∷ (decimal (read_table s).offset ++ (10 ∷ []))))
answer_else s d = sym (answer-refused s (read_table s) refl d) ∙ refused-line (read_table s).refusal (read_table s).offset

line-length : (n p : ℕ) → n < 100 → p ≤ 65536 → length (refused_line n p) ≤ 11
line-length n p l m =
    rw (refused-line n p, length-append (decimal n) (32 ∷ (decimal p ++ (10 ∷ []))), length-append (decimal p) (10 ∷ []))
    (omega (arith, length-below 20 2 n (omega arith) (omega arith), length-below 20 5 p (omega arith) (omega arith)))

pub answer-most : (s : List ℕ) → length (answer_to s) ≤ 13
unfolding refused_at taken
answer-most s = go (read_table s) refl (way s)
  where
    none : (r : Reading) → r ≡ read_table s → r.refusal ≢ 0 → r.refusal < 100 → r.offset ≤ 65536 → length (answer_to s) ≤ 13
    none r e d l m = rw (← answer-refused s r e d) (omega (arith, line-length r.refusal r.offset l m))

    go : (r : Reading) → r ≡ read_table s → Way s r → length (answer_to s) ≤ 13
    go r e (overlong l) = none _ e (λ z. omega arith) (omega arith) (omega arith)
    go r e (slipped p l d) = none _ e (λ z. omega arith) (omega arith) (omega (arith, slip-within (cleared s) p d, length-cleared s))
    go r e (whole w) = rw (answer-read s (sym (ap (λ (x : Reading). x.refusal) e))) ((Stack.kept).printed_most (read_table s).table)
