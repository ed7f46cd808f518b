-- Which sums of the sheet pass, and how it is with one name more.
use Prim.Native.Nat.{ℕ, ◌+◌, ◌≤◌, ◌<◌}
use mathlib.Core.Path.{◌≡◌, sym}
use mathlib.Core.Bool.{Bool, true, false, not, ◌||◌}
use lib.Dec.{eqb}
use borrow.Author.Tests.{lt-ltb, le-ltb, ltb-true, ltb-false}
use Rattle.words.proofs.ChoiceLaws.{pick_true, pick-false}
use Rattle.words.proofs.TruthLaws.{or_neither}
use Rattle.steps.specs.Refusals.{carried_out}
use Rattle.totals.specs.declared.Added.{Added as Summed}
use Rattle.totals.specs.Totals as Sums
use Rattle.totals.specs.declared.waits.Added.{Added as Bounded}
use Rattle.totals.specs.Waits as Bounds
use Rattle.totals.specs.declared.sheets.Noted.{Noted}
use Rattle.totals.specs.declared.sheets.Sheet.{Sheet}
use Rattle.totals.specs.Sheet.{too_much, numbers_pass, passes, counted, more, together, summed, added}

-- ---- sums

-- one of the five
pub too_much_lem : (a b : ℕ) → too_much a b ≡ true → 4294967295 < a + b
unfolding too_much
too_much_lem a b e = ltb-true 4294967295 (a + b) e

pub much_too : (a b : ℕ) → 4294967295 < a + b → too_much a b ≡ true
unfolding too_much
much_too a b l = lt-ltb 4294967295 (a + b) l

not_too : (a b : ℕ) → too_much a b ≡ false → a + b ≤ 4294967295
unfolding too_much
not_too a b e = ltb-false 4294967295 (a + b) e

module _ (s : Sheet) (t : Noted) where
  abbrev steps : Bool
  steps = too_much s.steps t.steps

  abbrev refused : Bool
  refused = too_much s.refused t.refused

  abbrev marks : Bool
  marks = too_much s.marks t.marks

  abbrev idle : Bool
  idle = too_much s.idle t.idle

  abbrev left : Bool
  left = too_much s.left t.left

  -- where none passes, each fits
  pub fits : numbers_pass s t ≡ false
      → (s.steps + t.steps ≤ 4294967295) × (s.refused + t.refused ≤ 4294967295) × (s.marks + t.marks ≤ 4294967295)
      × (s.idle + t.idle ≤ 4294967295) × (s.left + t.left ≤ 4294967295)
  unfolding numbers_pass
  fits e =
      let a = or_neither (((steps || refused) || marks) || idle) left e in
      let b = or_neither ((steps || refused) || marks) idle a.0 in
      let c = or_neither (steps || refused) marks b.0 in
      let d = or_neither steps refused c.0 in
      (not_too _ _ d.0, not_too _ _ d.1, not_too _ _ c.1, not_too _ _ b.1, not_too _ _ a.1)

  -- what the code asks
  pub passes-by : (q : Bool) (f : Summed) (w : Bounded) → q ≡ numbers_pass s t → f ≡ Sums.added s.figures t.figures → w ≡ Bounds.added s.waits t.waits
      → ((q || not (eqb f.refusal carried_out)) || not (eqb w.refusal carried_out)) ≡ passes s t
  unfolding passes
  passes-by q f w a b c = rw (a, b, c)

-- ---- one name more

module _ (s : Sheet) (t : Noted) where
  pub strayed : t.strays < 32 → added s t ≡ record { refusal = 18; sheet = counted s s.full s.unopened (more s.unkept) }
  unfolding added
  strayed l = sym (pick_true _ (lt-ltb t.strays 32 l))

  pub kept_on : 32 ≤ t.strays → added s t ≡ summed s t
  unfolding added
  kept_on l = sym (pick-false _ (le-ltb t.strays 32 l))

  pub full_up : passes s t ≡ true → summed s t ≡ record { refusal = 16; sheet = counted s (more s.full) s.unopened s.unkept }
  unfolding summed
  full_up e = sym (pick_true _ e)

  pub taken_in : passes s t ≡ false
      → summed s t ≡ record { refusal = 0; sheet = together s t (Sums.added s.figures t.figures).totals (Bounds.added s.waits t.waits).waits }
  unfolding summed
  taken_in e = sym (pick-false _ e)
