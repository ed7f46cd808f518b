-- Where a line ends, where its name does, and how many line feeds there are.
use Prim.Native.Nat.{ℕ, zero, suc, ◌+◌, ◌-◌, ◌≤◌, ◌<◌}
use mathlib.Core.Path.{◌≡◌, refl, sym, ap, ◌∙◌}
use mathlib.Core.Bool.{Bool, true, false, not, cond, ◌&&◌}
use mathlib.Core.List.{List, [], ◌∷◌}
use mathlib.Core.Logic.{◌≢◌, ◌⊎◌, inl, inr}
use native.Mathlib.Omega.{arith}
use native.Mathlib.Decide.{ℕ_discrete, dec_lt}
use lib.Dec.{eqb, ltb}
use lib.ListN.{get_or, length, length-drop, drop, get_or-eq_default}
use Rattle.std.specs.List.{position_or_len, slice_range}
use Rattle.std.specs.Option.{unwrap_or}
use Rattle.std.specs.Prelude.{Option, Some, None}
use Rattle.std.proofs.Math.Seq.{drop-cons}
use Rattle.std.proofs.lemmas.List.{drop_all, take_all}
use Rattle.std.proofs.lemmas.List.Sums.{prefix_len-le-length}
use borrow.Author.Tests.{eq-eqb, ne_eqb, lt-ltb, le-ltb, ltb-true}
use Rattle.words.specs.Choice.{pick}
use Rattle.words.specs.Counting.{one, count_below}
use Rattle.words.proofs.ChoiceLaws.{pick_true, pick-false, pick_cases}
use Rattle.words.proofs.CountingLaws.{count_le, count_add}
use Rattle.words.proofs.TruthLaws.{and_left, and_both}
use Rattle.report.specs.Lines.{line_from, line_end, name_end, feeds_before}

pub line-over : (s : List ℕ) (k : ℕ) → length s ≤ k → k ≡ line_end s k
unfolding line_end
line-over s k l = go (length s - k) (omega arith)
  where
    go : (n : ℕ) → n ≡ 0 → k ≡ line_from n s k
    go zero h = unfold line_from in refl
    go (suc n) h = absurd (omega arith)

-- the first line feed of what stands from a place on, counted from the start
prefix-feed : (n : ℕ) (s : List ℕ) (at : ℕ) → at + n ≡ length s → at + position_or_len (λ b. eqb b 10) (drop at s) ≡ line_from n s at
unfolding line_from pick
prefix-feed zero s at e = let none : drop at s ≡ [] = drop_all at s (omega (arith, e)) in rw none (omega arith)
prefix-feed (suc n) s at e =
    let ih = prefix-feed n s (at + 1) (omega (arith, e)) in
    let next : suc at ≡ at + 1 = omega arith in
    let cut : drop at s ≡ get_or s at 0 ∷ drop (at + 1) s = drop-cons s at 0 (omega (arith, e)) ∙ ap (λ (k : ℕ). get_or s at 0 ∷ drop k s) next in
    rw cut (go (eqb (get_or s at 0) 10) ih)
  where
    go : (b : Bool) → at + 1 + position_or_len (λ b. eqb b 10) (drop (at + 1) s) ≡ line_from n s (at + 1)
        → at + cond (not b) (1 + position_or_len (λ b. eqb b 10) (drop (at + 1) s)) 0 ≡ pick b at (line_from n s (at + 1))
    go true h = omega arith
    go false h = omega (arith, h)

-- a place that a slice has no part from is beyond its end
pub beyond-end : (n at : ℕ) → (n < at) ⊎ (n < n) → n ≤ at
beyond-end n at (inl l) = omega arith
beyond-end n at (inr l) = absurd (omega arith)

-- a part of a slice to its end
pub part-rest : (s : List ℕ) (at : ℕ) (rest : List ℕ) → rest ≡ slice_range s at (length s) → rest ≡ drop at s
part-rest s at rest e = e ∙ take_all (length s - at) (drop at s) (omega (arith, length-drop at s))

pub line-place : (s : List ℕ) (at : ℕ) (rest : List ℕ) (r : Option ℕ) (k : ℕ) → at ≤ length s → rest ≡ drop at s
    → r ≡ cond (ltb (position_or_len (λ b. eqb b 10) rest) (length rest)) (Some (position_or_len (λ b. eqb b 10) rest)) None
    → k ≡ unwrap_or r (length rest) → at + k ≡ line_end s at
unfolding line_end
line-place s at rest r k l d e f =
    let p = position_or_len (λ b. eqb b 10) rest in
    let told : k ≡ p = f ∙ ap (λ (o : Option ℕ). unwrap_or o (length rest)) e ∙ within (prefix_len-le-length (λ b. not (eqb b 10)) rest) in
    ap (λ (n : ℕ). at + n) told ∙ ap (λ (xs : List ℕ). at + position_or_len (λ b. eqb b 10) xs) d ∙ prefix-feed (length s - at) s at (omega (arith, l))
  where
    within : position_or_len (λ b. eqb b 10) rest ≤ length rest → unwrap_or (cond (ltb (position_or_len (λ b. eqb b 10) rest) (length rest)) (Some (position_or_len (λ b. eqb b 10) rest)) None) (length rest) ≡ position_or_len (λ b. eqb b 10) rest
    within m = go (dec_lt (position_or_len (λ b. eqb b 10) rest) (length rest))
      where
        go : Dec (position_or_len (λ b. eqb b 10) rest < length rest) → unwrap_or (cond (ltb (position_or_len (λ b. eqb b 10) rest) (length rest)) (Some (position_or_len (λ b. eqb b 10) rest)) None) (length rest) ≡ position_or_len (λ b. eqb b 10) rest
        go (yes q) = rw (lt-ltb (position_or_len (λ b. eqb b 10) rest) (length rest) q) refl
        go (no q) = rw (le-ltb (position_or_len (λ b. eqb b 10) rest) (length rest) (omega (arith, q))) (omega (arith, m, q))

-- a line ends within what was read
from-within : (n : ℕ) (s : List ℕ) (k : ℕ) → (k ≤ line_from n s k) × (line_from n s k ≤ k + n)
unfolding line_from pick
from-within zero s k = (omega arith, omega arith)
from-within (suc n) s k = go (eqb (get_or s k 0) 10) (from-within n s (k + 1))
  where
    go : (b : Bool) → (k + 1 ≤ line_from n s (k + 1)) × (line_from n s (k + 1) ≤ k + 1 + n) → (k ≤ pick b k (line_from n s (k + 1))) × (pick b k (line_from n s (k + 1)) ≤ k + suc n)
    go true h = (omega arith, omega arith)
    go false h = (omega (arith, h.0), omega (arith, h.1))

pub line-within : (s : List ℕ) (k r : ℕ) → k ≤ length s → r ≡ line_end s k → (k ≤ r) × (r ≤ length s)
unfolding line_end
line-within s k r l e =
    let h = from-within (length s - k) s k in
    (omega (arith, h.0), omega (arith, h.1))

-- ---- the first line feed

from-none : (s : List ℕ) (at : ℕ) → line_from 0 s at ≡ at
unfolding line_from
from-none s at = refl

from_here : (n : ℕ) (s : List ℕ) (at : ℕ) → get_or s at 0 ≡ 10 → line_from (suc n) s at ≡ at
unfolding line_from
from_here n s at e = sym (pick_true _ (eq-eqb (get_or s at 0) 10 e))

from_on : (n : ℕ) (s : List ℕ) (at : ℕ) → (get_or s at 0 ≡ 10 → ⊥) → line_from (suc n) s at ≡ line_from n s (at + 1)
unfolding line_from
from_on n s at d = sym (pick-false _ (ne_eqb (get_or s at 0) 10 d))

before-from : (n : ℕ) (s : List ℕ) (at k : ℕ) → at ≤ k → k < line_from n s at → get_or s k 0 ≢ 10
before-from zero s at k a b = absurd (omega (arith, from-none s at))
before-from (suc n) s at k a b = go (ℕ_discrete (get_or s at 0) 10) (ℕ_discrete k at) (before-from n s (at + 1) k)
  where
    go : Dec (get_or s at 0 ≡ 10) → Dec (k ≡ at) → (at + 1 ≤ k → k < line_from n s (at + 1) → get_or s k 0 ≢ 10) → get_or s k 0 ≢ 10
    go (yes e) d ih = absurd (omega (arith, from_here n s at e))
    go (no e) (yes q) ih = rw q e
    go (no e) (no q) ih = ih (omega (arith, q)) (omega (arith, from_on n s at e))

at_from : (n : ℕ) (s : List ℕ) (at : ℕ) → line_from n s at < at + n → get_or s (line_from n s at) 0 ≡ 10
at_from zero s at l = absurd (omega (arith, from-none s at))
at_from (suc n) s at l = go (ℕ_discrete (get_or s at 0) 10) (at_from n s (at + 1))
  where
    go : Dec (get_or s at 0 ≡ 10) → (line_from n s (at + 1) < at + 1 + n → get_or s (line_from n s (at + 1)) 0 ≡ 10) → get_or s (line_from (suc n) s at) 0 ≡ 10
    go (yes e) ih = ap (λ (k : ℕ). get_or s k 0) (from_here n s at e) ∙ e
    go (no e) ih = ap (λ (k : ℕ). get_or s k 0) (from_on n s at e) ∙ ih (omega (arith, from_on n s at e))

pub end_before : (s : List ℕ) (at k : ℕ) → at ≤ k → k < line_end s at → get_or s k 0 ≢ 10
unfolding line_end
end_before s at k a b = before-from (length s - at) s at k a b

pub end_at : (s : List ℕ) (at : ℕ) → at ≤ length s → line_end s at < length s → get_or s (line_end s at) 0 ≡ 10
unfolding line_end
end_at s at a b = at_from (length s - at) s at (omega arith)

-- ---- the name

module _ (s : List ℕ) (at e : ℕ) where
  pub name-short : at < e → get_or s (e - 1) 0 ≡ 13 → name_end s at e ≡ e - 1
  unfolding name_end
  name-short l c = sym (pick_true _ (and_both (lt-ltb at e l) (eq-eqb (get_or s (e - 1) 0) 13 c)))

  pub name-whole : (get_or s (e - 1) 0 ≡ 13 → ⊥) → name_end s at e ≡ e
  unfolding name_end pick
  name-whole c = rw (ne_eqb (get_or s (e - 1) 0) 13 c) (go (ltb at e))
    where
      go : (t : Bool) → pick (t && false) (e - 1) e ≡ e
      go true = refl
      go false = refl

  pub name-beyond : length s ≤ e - 1 → name_end s at e ≡ e
  name-beyond l = name-whole (λ c. absurd (omega (arith, c, get_or-eq_default s 0 l)))

  pub name-empty : e ≤ at → name_end s at e ≡ e
  unfolding name_end pick
  name-empty l = rw (le-ltb at e l)

  -- a name ends within its line
  pub name-within : (r : ℕ) → at ≤ e → r ≡ name_end s at e → (at ≤ r) × (r ≤ e)
  unfolding name_end
  name-within r l h =
      rw h
      (pick_cases (λ n. (at ≤ n) × (n ≤ e)) (ltb at e && eqb (get_or s (e - 1) 0) 13)
      (λ t. let b = ltb-true at e (and_left _ (eqb (get_or s (e - 1) 0) 13) t) in (omega (arith, b), omega arith)) (λ _. (l, omega arith)))

-- ---- line feeds

feed-one : (s : List ℕ) (k : ℕ) (t : Bool) → eqb (get_or s k 0) 10 ≡ t → feeds_before s (suc k) ≡ feeds_before s k + one t
unfolding feeds_before count_below
feed-one s k t e = rw e

pub feeds-none : (s : List ℕ) → feeds_before s 0 ≡ 0
unfolding feeds_before count_below
feeds-none s = refl

pub feeds_feed : (s : List ℕ) (k : ℕ) → get_or s k 0 ≡ 10 → feeds_before s (suc k) ≡ feeds_before s k + 1
feeds_feed s k e = feed-one s k true (eq-eqb (get_or s k 0) 10 e)

pub feeds_else : (s : List ℕ) (k : ℕ) → get_or s k 0 ≢ 10 → feeds_before s (suc k) ≡ feeds_before s k
feeds_else s k n = feed-one s k false (ne_eqb (get_or s k 0) 10 n) ∙ omega arith

-- no more than bytes, and no fewer further on
pub feeds-most : (s : List ℕ) (k : ℕ) → feeds_before s k ≤ k
unfolding feeds_before
feeds-most s k = count_le k (λ i. eqb (get_or s i 0) 10)

pub feeds_grow : (s : List ℕ) (k m : ℕ) → k ≤ m → feeds_before s k ≤ feeds_before s m
unfolding feeds_before
feeds_grow s k m l =
    let e : m ≡ k + (m - k) = omega arith in
    rw e (omega (arith, count_add k (m - k) (λ i. eqb (get_or s i 0) 10)))
