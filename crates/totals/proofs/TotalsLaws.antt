-- Two arrays joined source by source, and which sums fit.
use Prim.Native.Nat.{ℕ, zero, suc, ◌+◌, ◌≤◌, ◌<◌}
use mathlib.Core.Path.{◌≡◌, refl, sym, ap, ◌∙◌}
use mathlib.Core.Bool.{Bool, true, false, not}
use mathlib.Core.List.{List, [], ◌∷◌, zip_with}
use mathlib.Core.Logic.{◌↔◌}
use native.Mathlib.Omega.{arith}
use lib.Dec.{eqb, ltb}
use lib.ListN.{get_or, length}
use lib.Seq.{ext_get_or}
use borrow.Author.Tests.{lt-ltb, ltb-true, ltb-false}
use Rattle.words.proofs.ChoiceLaws.{pick_cases}
use Rattle.words.proofs.CountingLaws.{any_fails, any_some, some_any}
use Rattle.steps.specs.Refusals.{carried_out}
use Rattle.totals.specs.declared.Added.{Added}
use Rattle.totals.specs.declared.Totals.{Totals}
use Rattle.totals.specs.Totals.{passes, added}

-- ---- joined source by source

module _ (op : ℕ → ℕ → ℕ) where
  pub length-joined : (a b : List ℕ) → length a ≡ length b → length (zip_with op a b) ≡ length a
  unfolding zip_with
  length-joined [] b e = refl
  length-joined (x ∷ a) [] e = absurd (omega (arith, e))
  length-joined (x ∷ a) (y ∷ b) e = ap suc (length-joined a b (omega (arith, e)))

  pub get_d-joined : (a b : List ℕ) (i : ℕ) → i < length a → i < length b → get_or (zip_with op a b) i 0 ≡ op (get_or a i 0) (get_or b i 0)
  unfolding zip_with
  get_d-joined [] b i l m = absurd (omega arith)
  get_d-joined (x ∷ a) [] i l m = absurd (omega arith)
  get_d-joined (x ∷ a) (y ∷ b) zero l m = refl
  get_d-joined (x ∷ a) (y ∷ b) (suc i) l m = get_d-joined a b i (omega arith) (omega arith)

  -- an array that was filled with what joining makes
  pub all-joined : (out a b : List ℕ) (i : ℕ) → length out ≡ 32 → length a ≡ 32 → length b ≡ 32 → 32 ≤ i
      → ((k : ℕ) → k < i → get_or out k 0 ≡ op (get_or a k 0) (get_or b k 0)) → out ≡ zip_with op a b
  all-joined out a b i lo la lb n h =
      ext_get_or 0 out (zip_with op a b) (lo ∙ sym (length-joined a b (la ∙ sym lb) ∙ la))
      (λ k l. h k (omega (arith, lo)) ∙ sym (get_d-joined a b k (omega (arith, lo, la)) (omega (arith, lo, lb))))

-- ---- which sums fit

pub fit_at : (a b : List ℕ) → passes a b ≡ false → (i : ℕ) → i < 32 → get_or a i 0 + get_or b i 0 ≤ 4294967295
unfolding passes
fit_at a b h i l = ltb-false 4294967295 (get_or a i 0 + get_or b i 0) (any_fails 32 (λ j. ltb 4294967295 (get_or a j 0 + get_or b j 0)) h i l)

-- some sum would pass, exactly
pub sum-passes : (a b : List ℕ) → (passes a b ≡ true) ↔ ((i : ℕ) × (i < 32) × (4294967295 < get_or a i 0 + get_or b i 0))
unfolding passes
sum-passes a b =
    let past : ℕ → Bool = λ i. ltb 4294967295 (get_or a i 0 + get_or b i 0) in (
      (λ e. let r = any_some 32 past e in (r.0, r.1, ltb-true 4294967295 (get_or a r.0 0 + get_or b r.0 0) r.2)),
      (λ h. some_any 32 past h.0 h.1 (lt-ltb 4294967295 (get_or a h.0 0 + get_or b h.0 0) h.2)),
    )

-- a trace is left out exactly if one does
pub refused-passes : (t f : Totals) → not (eqb (added t f).refusal carried_out) ≡ passes t.started f.started
unfolding added
refused-passes t f = pick_cases (λ (x : Added). not (eqb x.refusal carried_out) ≡ passes t.started f.started) (passes t.started f.started) (λ e. sym e) (λ e. sym e)
