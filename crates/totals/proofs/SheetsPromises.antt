-- The promises of the sheet's figures are kept.
use Prim.Native.Nat.{ℕ, ◌+◌, ◌≤◌, ◌<◌}
use mathlib.Core.Path.{◌≡◌, refl, sym, ap, ◌∙◌}
use mathlib.Core.Bool.{Bool, true, false, not, ◌||◌}
use mathlib.Core.List.{List}
use mathlib.Core.Logic.{◌↔◌, ◌≢◌, ◌⊎◌, inl, inr}
use native.Mathlib.Omega.{arith}
use native.Mathlib.Decide.{dec_lt}
use lib.Dec.{eqb}
use lib.ListN.{get_or, length, replicate, length-replicate, get_or-replicate}
use borrow.Author.Tests.{lt-ltb, le-ltb, eqb-true}
use Rattle.words.proofs.ArrayLaws.{zeros_get_d}
use Rattle.words.proofs.ChoiceLaws.{pick_true, pick-false}
use Rattle.words.proofs.TruthLaws.{or-either, or_neither, or_left, or_right, told, clash, not-holds}
use Rattle.words.proofs.WordLaws.{bit-either}
use Rattle.steps.specs.Refusals.{carried_out}
use Rattle.totals.specs.Promises.{Source}
use Rattle.totals.specs.Totals as Sums
use Rattle.totals.proofs.Promises as Figures
use Rattle.totals.proofs.TotalsLaws.{sum-passes, refused-passes}
use Rattle.totals.specs.WaitsPromises.{Numbers}
use Rattle.totals.specs.Waits as Bounds
use Rattle.totals.proofs.WaitsPromises as Waits
use Rattle.totals.proofs.WaitLaws as Laws
use Rattle.totals.specs.declared.sheets.Noted.{Noted}
use Rattle.totals.specs.declared.sheets.Sheet.{Sheet}
use Rattle.totals.specs.declared.sheets.Added.{Added}
use Rattle.totals.specs.Sheet.{no_sheet, more, counted, too_much, numbers_pass, passes, first_of, together, added, left_unopened}
use Rattle.totals.specs.SheetsPromises.{Promises, Passes, Alike, Names, Taken}
use Rattle.totals.specs.SheetsPromises as P
use Rattle.totals.proofs.SheetLaws.{too_much_lem, much_too, strayed, kept_on, full_up, taken_in}

-- ---- which sums pass

module _ (s : Sheet) (t : Noted) where
  some_number : numbers_pass s t ≡ true → Passes s t
  unfolding numbers_pass
  some_number e = go (or-either _ _ e)
    where
      two : (too_much s.steps t.steps ≡ true) ⊎ (too_much s.refused t.refused ≡ true) → Passes s t
      two (inl h) = P.steps (too_much_lem _ _ h)
      two (inr h) = P.refused (too_much_lem _ _ h)

      three : ((too_much s.steps t.steps || too_much s.refused t.refused) ≡ true) ⊎ (too_much s.marks t.marks ≡ true) → Passes s t
      three (inl h) = two (or-either _ _ h)
      three (inr h) = P.marks (too_much_lem _ _ h)

      four : (((too_much s.steps t.steps || too_much s.refused t.refused) || too_much s.marks t.marks) ≡ true) ⊎ (too_much s.idle t.idle ≡ true) → Passes s t
      four (inl h) = three (or-either _ _ h)
      four (inr h) = P.idle (too_much_lem _ _ h)

      go : ((((too_much s.steps t.steps || too_much s.refused t.refused) || too_much s.marks t.marks) || too_much s.idle t.idle) ≡ true)
          ⊎ (too_much s.left t.left ≡ true) → Passes s t
      go (inl h) = four (or-either _ _ h)
      go (inr h) = P.left (too_much_lem _ _ h)

  some-wait : (i : ℕ) → i < 32
      → (4294967295 < get_or s.waits.begun i 0 + get_or t.waits.begun i 0)
      ⊎ ((4294967295 < get_or s.waits.unended i 0 + get_or t.waits.unended i 0) ⊎ (4294967295 < get_or s.waits.unbounded i 0 + get_or t.waits.unbounded i 0))
      → Passes s t
  some-wait i l (inl h) = P.begun i l h
  some-wait i l (inr (inl h)) = P.unended i l h
  some-wait i l (inr (inr h)) = P.unbounded i l h

  some_sum : passes s t ≡ true → Passes s t
  unfolding passes
  some_sum e = go (or-either _ _ e)
    where
      figures : not (eqb (Sums.added s.figures t.figures).refusal carried_out) ≡ true → Passes s t
      figures h = let r = (sum-passes s.figures.started t.figures.started).0 (sym (refused-passes s.figures t.figures) ∙ h) in P.started r.0 r.1 r.2

      waits : not (eqb (Bounds.added s.waits t.waits).refusal carried_out) ≡ true → Passes s t
      waits h = let r = Laws.some-passes s.waits t.waits (sym (Laws.refused-passes s.waits t.waits) ∙ h) in some-wait r.0 r.1 r.2

      two : (numbers_pass s t ≡ true) ⊎ (not (eqb (Sums.added s.figures t.figures).refusal carried_out) ≡ true) → Passes s t
      two (inl h) = some_number h
      two (inr h) = figures h

      go : ((numbers_pass s t || not (eqb (Sums.added s.figures t.figures).refusal carried_out)) ≡ true)
          ⊎ (not (eqb (Bounds.added s.waits t.waits).refusal carried_out) ≡ true) → Passes s t
      go (inl h) = two (or-either _ _ h)
      go (inr h) = waits h

  abbrev figures_pass : Bool
  figures_pass = not (eqb (Sums.added s.figures t.figures).refusal carried_out)

  abbrev waits_pass : Bool
  waits_pass = not (eqb (Bounds.added s.waits t.waits).refusal carried_out)

  by_number : numbers_pass s t ≡ true → passes s t ≡ true
  unfolding passes
  by_number h = or_left waits_pass (or_left figures_pass h)

  by_figures : Sums.passes s.figures.started t.figures.started ≡ true → passes s t ≡ true
  unfolding passes
  by_figures h = or_left waits_pass (or_right (numbers_pass s t) (refused-passes s.figures t.figures ∙ h))

  by-waits : Bounds.passes s.waits t.waits ≡ true → passes s t ≡ true
  unfolding passes
  by-waits h = or_right (numbers_pass s t || figures_pass) (Laws.refused-passes s.waits t.waits ∙ h)

  sum-some : Passes s t → passes s t ≡ true
  unfolding numbers_pass
  sum-some (P.steps h) = by_number (or_left (too_much s.left t.left) (or_left (too_much s.idle t.idle) (or_left (too_much s.marks t.marks)
      (or_left (too_much s.refused t.refused) (much_too _ _ h)))))
  sum-some (P.refused h) = by_number (or_left (too_much s.left t.left) (or_left (too_much s.idle t.idle) (or_left (too_much s.marks t.marks)
      (or_right (too_much s.steps t.steps) (much_too _ _ h)))))
  sum-some (P.marks h) = by_number (or_left (too_much s.left t.left) (or_left (too_much s.idle t.idle)
      (or_right (too_much s.steps t.steps || too_much s.refused t.refused) (much_too _ _ h))))
  sum-some (P.idle h) = by_number (or_left (too_much s.left t.left)
      (or_right ((too_much s.steps t.steps || too_much s.refused t.refused) || too_much s.marks t.marks) (much_too _ _ h)))
  sum-some (P.left h) = by_number
      (or_right (((too_much s.steps t.steps || too_much s.refused t.refused) || too_much s.marks t.marks) || too_much s.idle t.idle) (much_too _ _ h))
  sum-some (P.started i l h) = by_figures ((sum-passes s.figures.started t.figures.started).1 (i, l, h))
  sum-some (P.begun i l h) = by-waits (Laws.passes-some s.waits t.waits i l (inl h))
  sum-some (P.unended i l h) = by-waits (Laws.passes-some s.waits t.waits i l (inr (inl h)))
  sum-some (P.unbounded i l h) = by-waits (Laws.passes-some s.waits t.waits i l (inr (inr h)))

-- ---- which refusal

refusal_of : {a b : Added} → a ≡ b → a.refusal ≡ b.refusal
refusal_of e = ap (λ (x : Added). x.refusal) e

-- how it goes with one name more
pub data Outcome (s : Sheet) (t : Noted) : Type 0 where
  by18 : t.strays < 32 → added s t ≡ record { refusal = 18; sheet = counted s s.full s.unopened (more s.unkept) } → Outcome s t
  by16 : 32 ≤ t.strays → passes s t ≡ true → added s t ≡ record { refusal = 16; sheet = counted s (more s.full) s.unopened s.unkept } → Outcome s t
  into : 32 ≤ t.strays → passes s t ≡ false
      → added s t ≡ record { refusal = 0; sheet = together s t (Sums.added s.figures t.figures).totals (Bounds.added s.waits t.waits).waits } → Outcome s t

outcome : (s : Sheet) (t : Noted) → Outcome s t
outcome s t = go (dec_lt t.strays 32) (told (passes s t))
  where
    go : Dec (t.strays < 32) → (passes s t ≡ true) ⊎ (passes s t ≡ false) → Outcome s t
    go (yes l) p = by18 l (strayed s t l)
    go (no n) (inl p) = by16 (omega arith) p (kept_on s t (omega arith) ∙ full_up s t p)
    go (no n) (inr p) = into (omega arith) p (kept_on s t (omega arith) ∙ taken_in s t p)

module _ (s : Sheet) (t : Noted) where
  eighteen : ((added s t).refusal ≡ 18) ↔ (t.strays < 32)
  eighteen = ((λ e. go e (outcome s t)), (λ l. refusal_of (strayed s t l)))
    where
      go : (added s t).refusal ≡ 18 → Outcome s t → t.strays < 32
      go e (by18 l h) = l
      go e (by16 l p h) = absurd (omega (arith, e, refusal_of h))
      go e (into l p h) = absurd (omega (arith, e, refusal_of h))

  sixteen : ((added s t).refusal ≡ 16) ↔ ((32 ≤ t.strays) × Passes s t)
  sixteen = ((λ e. go e (outcome s t)), (λ h. refusal_of (kept_on s t h.0 ∙ full_up s t (sum-some s t h.1))))
    where
      go : (added s t).refusal ≡ 16 → Outcome s t → (32 ≤ t.strays) × Passes s t
      go e (by18 l h) = absurd (omega (arith, e, refusal_of h))
      go e (by16 l p h) = (l, some_sum s t p)
      go e (into l p h) = absurd (omega (arith, e, refusal_of h))

  taken : ((added s t).refusal ≡ 0) ↔ ((32 ≤ t.strays) × (Passes s t → ⊥))
  taken = ((λ e. go e (outcome s t)), (λ h. refusal_of (kept_on s t h.0 ∙ taken_in s t (not-holds (passes s t) (λ p. h.1 (some_sum s t p))))))
    where
      go : (added s t).refusal ≡ 0 → Outcome s t → (32 ≤ t.strays) × (Passes s t → ⊥)
      go e (by18 l h) = absurd (omega (arith, e, refusal_of h))
      go e (by16 l p h) = absurd (omega (arith, e, refusal_of h))
      go e (into l p h) = (l, λ q. clash (sum-some s t q) p)

  -- the sheet with a trace that is counted
  sheet-is : (added s t).refusal ≡ 0 → (passes s t ≡ false) × ((added s t).sheet ≡ together s t (Sums.added s.figures t.figures).totals (Bounds.added s.waits t.waits).waits)
  sheet-is e = go (outcome s t)
    where
      go : Outcome s t → (passes s t ≡ false) × ((added s t).sheet ≡ together s t (Sums.added s.figures t.figures).totals (Bounds.added s.waits t.waits).waits)
      go (by18 l h) = absurd (omega (arith, e, refusal_of h))
      go (by16 l p h) = absurd (omega (arith, e, refusal_of h))
      go (into l p h) = (p, ap (λ (x : Added). x.sheet) h)

-- ---- what changes

left_out : (s : Sheet) (full unopened unkept : ℕ) → Alike (counted s full unopened unkept) s × Names (counted s full unopened unkept) (more s.named) full unopened unkept
unfolding counted
left_out s full unopened unkept = (
  record { steps = refl; refused = refl; marks = refl; idle = refl; left = refl; used = refl; figures = refl; waits = refl; trace = refl },
  record { named = refl; full = refl; unopened = refl; unkept = refl },
)

module _ (s : Sheet) (t : Noted) where
  left-by_18 : (added s t).refusal ≡ 18 → Alike (added s t).sheet s × Names (added s t).sheet (more s.named) s.full s.unopened (more s.unkept)
  left-by_18 e = rw (ap (λ (x : Added). x.sheet) (strayed s t ((eighteen s t).0 e))) (left_out s s.full s.unopened (more s.unkept))

  left-by_16 : (added s t).refusal ≡ 16 → Alike (added s t).sheet s × Names (added s t).sheet (more s.named) (more s.full) s.unopened s.unkept
  left-by_16 e =
      let h = (sixteen s t).0 e in
      rw (ap (λ (x : Added). x.sheet) (kept_on s t h.0 ∙ full_up s t (sum-some s t h.1))) (left_out s (more s.full) s.unopened s.unkept)

  not-refused : passes s t ≡ false → ((Sums.added s.figures t.figures).refusal ≡ 0) × ((Bounds.added s.waits t.waits).refusal ≡ 0)
  unfolding passes
  not-refused p =
      let a = or_neither (numbers_pass s t || not (eqb (Sums.added s.figures t.figures).refusal carried_out)) (not (eqb (Bounds.added s.waits t.waits).refusal carried_out)) p in
      let b = or_neither (numbers_pass s t) (not (eqb (Sums.added s.figures t.figures).refusal carried_out)) a.0 in
      (zero_is _ b.1, zero_is _ a.1)
    where
      zero_is : (n : ℕ) → not (eqb n 0) ≡ false → n ≡ 0
      zero_is n e = go (told (eqb n 0))
        where
          go : (eqb n 0 ≡ true) ⊎ (eqb n 0 ≡ false) → n ≡ 0
          go (inl h) = eqb-true n 0 h
          go (inr h) = clash (ap not h) e

  taken-together : passes s t ≡ false → Taken s t (together s t (Sums.added s.figures t.figures).totals (Bounds.added s.waits t.waits).waits)
  unfolding together
  taken-together p =
      record {
        names = record { named = refl; full = refl; unopened = refl; unkept = refl };
        steps = refl;
        refused = refl;
        marks = refl;
        idle = refl;
        left = refl;
        used = λ i l. bit-either s.used t.used i l;
        figures = refl;
        waits = refl;
        summed = (not-refused p).0;
        bounded = (not-refused p).1;
      }

  is-counted : (added s t).refusal ≡ 0 → Taken s t (added s t).sheet
  is-counted e = rw (sheet-is s t e).1 (taken-together (sheet-is s t e).0)

-- ---- the number of the first name

one_more : (n : ℕ) → n < 4294967295 → more n ≡ n + 1
unfolding more
one_more n l = sym (pick_true _ (lt-ltb n 4294967295 l))

no-more : (n : ℕ) → 4294967295 ≤ n → more n ≡ n
unfolding more
no-more n l = sym (pick-false _ (le-ltb n 4294967295 l))

module _ (s : Sheet) (t : Noted) (long : length s.trace ≡ 32) (i : ℕ) (l : i < 32) where
  abbrev this : List ℕ
  this = replicate 32 (more s.named)

  long_this : length this ≡ 32
  long_this = length-replicate {A = ℕ} 32 (more s.named)

  first_new : Bounds.newly s.waits t.waits i ≡ true → get_or (first_of s t) i 0 ≡ more s.named
  unfolding first_of
  first_new h =
      Laws.get_d-chosen (Bounds.newly s.waits t.waits) s.trace this i (omega (arith, long)) (omega (arith, long_this)) ∙ sym (pick_true _ h)
      ∙ get_or-replicate 32 i (more s.named) 0 l

  first_old : Bounds.newly s.waits t.waits i ≡ false → get_or (first_of s t) i 0 ≡ get_or s.trace i 0
  unfolding first_of
  first_old h =
      Laws.get_d-chosen (Bounds.newly s.waits t.waits) s.trace this i (omega (arith, long)) (omega (arith, long_this)) ∙ sym (pick-false _ h)

  not-newly : (get_or s.waits.first i 0 ≢ 0) ⊎ (get_or t.waits.first i 0 ≡ 0) → Bounds.newly s.waits t.waits i ≡ false
  not-newly (inl n) = not-holds (Bounds.newly s.waits t.waits i) (λ h. n (((Waits.kept).newly_is s.waits t.waits i).0 h).0)
  not-newly (inr z) = not-holds (Bounds.newly s.waits t.waits i) (λ h. (((Waits.kept).newly_is s.waits t.waits i).0 h).1 z)

  trace-is : (added s t).refusal ≡ 0 → get_or (added s t).sheet.trace i 0 ≡ get_or (first_of s t) i 0
  unfolding together
  trace-is e = ap (λ (x : Sheet). get_or x.trace i 0) (sheet-is s t e).1

empty : Names no_sheet 0 0 0 0 × (no_sheet.steps ≡ 0) × (no_sheet.refused ≡ 0) × (no_sheet.marks ≡ 0) × (no_sheet.idle ≡ 0) × (no_sheet.left ≡ 0) × (no_sheet.used ≡ 0)
unfolding no_sheet
empty = (record { named = refl; full = refl; unopened = refl; unkept = refl }, refl, refl, refl, refl, refl, refl)

empty_source : (i : ℕ) → Source no_sheet.figures i 0 0 0 × Numbers no_sheet.waits i 0 0 0 × (Bounds.bound_of no_sheet.waits i ≡ 0)
    × (get_or no_sheet.waits.first i 0 ≡ 0) × (get_or no_sheet.trace i 0 ≡ 0)
unfolding no_sheet
empty_source i = ((Figures.kept).empty i, ((Waits.kept).empty i).0, ((Waits.kept).empty i).1, ((Waits.kept).empty i).2, zeros_get_d 32 i)

unopened-left : (s : Sheet) → Alike (left_unopened s) s × Names (left_unopened s) (more s.named) s.full (more s.unopened) s.unkept
unfolding left_unopened
unopened-left s = left_out s s.full (more s.unopened) s.unkept

pub kept : Promises
kept =
    record {
      empty = empty;
      empty_source = empty_source;
      one_more = one_more;
      no_more = no-more;
      eighteen = eighteen;
      sixteen = sixteen;
      taken = taken;
      left_by_18 = left-by_18;
      left_by_16 = left-by_16;
      left_by_17 = unopened-left;
      counted = is-counted;
      first_is = λ s t e long i l z n. trace-is s t long i l e ∙ first_new s t long i l (((Waits.kept).newly_is s.waits t.waits i).1 (z, n));
      first_stays = λ s t e long i l h. trace-is s t long i l e ∙ first_old s t long i l (not-newly s t long i l h);
    }
