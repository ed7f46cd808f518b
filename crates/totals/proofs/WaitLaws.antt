-- What is chosen source by source, and when a number of waits passes.
use Prim.Native.Nat.{ℕ, zero, suc, ◌+◌, ◌≤◌, ◌<◌}
use mathlib.Core.Path.{◌≡◌, refl, sym, ap, ◌∙◌}
use mathlib.Core.Bool.{Bool, true, false, not, ◌||◌}
use mathlib.Core.List.{List, [], ◌∷◌}
use mathlib.Core.Logic.{◌⊎◌, inl, inr}
use native.Mathlib.Omega.{arith}
use lib.Dec.{eqb}
use lib.ListN.{get_or, length}
use lib.Seq.{ext_get_or}
use Rattle.words.specs.Choice.{pick}
use Rattle.words.specs.Word.{bit}
use Rattle.words.proofs.ChoiceLaws.{pick_cases}
use Rattle.words.proofs.TruthLaws.{or-either, or_neither, or_left, or_right}
use Rattle.steps.specs.Refusals.{carried_out}
use Rattle.totals.specs.Totals as Sums
use Rattle.totals.proofs.TotalsLaws.{sum-passes}
use Rattle.totals.specs.declared.waits.Waits.{Waits}
use Rattle.totals.specs.declared.waits.Added.{Added}
use Rattle.totals.specs.Waits.{chosen_from, chosen, passes, added}
use Rattle.totals.specs.WaitsPromises.{Passes}

module _ (p : ℕ → Bool) where
  pub length-chosen : (n : ℕ) (a b : List ℕ) → length a ≡ length b → length (chosen_from n p a b) ≡ length a
  unfolding chosen_from
  length-chosen n [] b e = refl
  length-chosen n (x ∷ a) [] e = absurd (omega (arith, e))
  length-chosen n (x ∷ a) (y ∷ b) e = ap suc (length-chosen (n + 1) a b (omega (arith, e)))

  get_d-from : (n : ℕ) (a b : List ℕ) (i : ℕ) → i < length a → i < length b → get_or (chosen_from n p a b) i 0 ≡ pick (p (n + i)) (get_or b i 0) (get_or a i 0)
  unfolding chosen_from
  get_d-from n [] b i l m = absurd (omega arith)
  get_d-from n (x ∷ a) [] i l m = absurd (omega arith)
  get_d-from n (x ∷ a) (y ∷ b) zero l m = let e : n ≡ n + 0 = omega arith in ap (λ (j : ℕ). pick (p j) y x) e
  get_d-from n (x ∷ a) (y ∷ b) (suc i) l m =
      let e : n + 1 + i ≡ n + suc i = omega arith in
      get_d-from (n + 1) a b i (omega arith) (omega arith) ∙ ap (λ (j : ℕ). pick (p j) (get_or b i 0) (get_or a i 0)) e

  pub get_d-chosen : (a b : List ℕ) (i : ℕ) → i < length a → i < length b → get_or (chosen p a b) i 0 ≡ pick (p i) (get_or b i 0) (get_or a i 0)
  get_d-chosen a b i l m = let e : 0 + i ≡ i = omega arith in get_d-from 0 a b i l m ∙ ap (λ (j : ℕ). pick (p j) (get_or b i 0) (get_or a i 0)) e

  -- an array that was filled by the bits of a word
  pub all-chosen : (w : ℕ) (out a b : List ℕ) (n : ℕ) → length out ≡ 32 → length a ≡ 32 → length b ≡ 32 → 32 ≤ n
      → ((k : ℕ) → k < n → get_or out k 0 ≡ pick (bit w k) (get_or b k 0) (get_or a k 0)) → ((i : ℕ) → i < 32 → bit w i ≡ p i) → out ≡ chosen p a b
  all-chosen w out a b n lo la lb m h e =
      ext_get_or 0 out (chosen p a b) (lo ∙ sym (length-chosen 0 a b (la ∙ sym lb) ∙ la))
      (λ k l. h k (omega (arith, lo)) ∙ ap (λ (t : Bool). pick t (get_or b k 0) (get_or a k 0)) (e k (omega (arith, lo)))
      ∙ sym (get_d-chosen a b k (omega (arith, lo, la)) (omega (arith, lo, lb))))

-- where none passes, none of the three does
pub fits : (a b : Waits) → passes a b ≡ false
    → (Sums.passes a.begun b.begun ≡ false) × (Sums.passes a.unended b.unended ≡ false) × (Sums.passes a.unbounded b.unbounded ≡ false)
unfolding passes
fits a b h =
    let o = or_neither _ _ h in
    let q = or_neither _ _ o.0 in
    (q.0, q.1, o.1)

-- some number of waits would pass, exactly
module _ (a b : Waits) where
  pub some-passes : passes a b ≡ true → (i : ℕ) × (i < 32) × Passes a b i
  unfolding passes
  some-passes e = go (or-either _ _ e)
    where
      two : (Sums.passes a.begun b.begun ≡ true) ⊎ (Sums.passes a.unended b.unended ≡ true) → (i : ℕ) × (i < 32) × Passes a b i
      two (inl h) = let r = (sum-passes a.begun b.begun).0 h in (r.0, r.1, inl r.2)
      two (inr h) = let r = (sum-passes a.unended b.unended).0 h in (r.0, r.1, inr (inl r.2))

      go : ((Sums.passes a.begun b.begun || Sums.passes a.unended b.unended) ≡ true) ⊎ (Sums.passes a.unbounded b.unbounded ≡ true)
          → (i : ℕ) × (i < 32) × Passes a b i
      go (inl h) = two (or-either _ _ h)
      go (inr h) = let r = (sum-passes a.unbounded b.unbounded).0 h in (r.0, r.1, inr (inr r.2))

  pub passes-some : (i : ℕ) → i < 32 → Passes a b i → passes a b ≡ true
  unfolding passes
  passes-some i l (inl h) =
      or_left (Sums.passes a.unbounded b.unbounded) (or_left (Sums.passes a.unended b.unended) ((sum-passes a.begun b.begun).1 (i, l, h)))
  passes-some i l (inr (inl h)) =
      or_left (Sums.passes a.unbounded b.unbounded) (or_right (Sums.passes a.begun b.begun) ((sum-passes a.unended b.unended).1 (i, l, h)))
  passes-some i l (inr (inr h)) =
      or_right (Sums.passes a.begun b.begun || Sums.passes a.unended b.unended) ((sum-passes a.unbounded b.unbounded).1 (i, l, h))

-- a trace is left out exactly if one does
pub refused-passes : (a b : Waits) → not (eqb (added a b).refusal carried_out) ≡ passes a b
unfolding added
refused-passes a b = pick_cases (λ (x : Added). not (eqb x.refusal carried_out) ≡ passes a b) (passes a b) (λ e. sym e) (λ e. sym e)
