-- The figures of all waits of a source, step by step, are what is defined over the run.
use Prim.Native.Nat.{ℕ, ◌+◌, ◌*◌, ◌≤◌}
use mathlib.Core.Path.{◌≡◌, refl, sym, ap, ap₂, ◌∙◌}
use mathlib.Core.Bool.{Bool, true, false, ◌&&◌}
use mathlib.Core.List.{List, [], ◌∷◌}
use native.Mathlib.Omega.{arith}
use native.Mathlib.Decide.{ℕ_discrete}
use lib.Dec.{eqb, ltb}
use lib.ListN.{length}
use borrow.Author.Tests.{ne_eqb}
use Rattle.words.specs.Choice.{pick}
use Rattle.words.specs.Counting.{one}
use Rattle.words.proofs.CountingLaws.{one_le}
use Rattle.steps.specs.declared.Step.{Step}
use Rattle.aic_record.specs.declared.Aic.{Aic}
use Rattle.aic.specs.Model.{step}
use Rattle.aic_waits.specs.Figures.{wait_after}
use Rattle.aic_waits.specs.Following.{capped}
use Rattle.aic_waits.proofs.FigureLaws.{capped_is}
use Rattle.aic_bounds.specs.declared.Bound.{Bound}
use Rattle.aic_bounds.specs.Bounds.{idle, bound_after, bound_over, bound_at, bound_of}
use Rattle.aic_bounds.specs.Over.{bounds, better, best_over, largest_of, begun_over, waits_begun, waits_unended}
use Rattle.aic_bounds.specs.Over.{loses, unbounded_over, waits_unbounded, first_over, first_unbounded}
use Rattle.aic_bounds.proofs.StepLaws.{after-wait, over-wait}
use Rattle.aic_bounds.proofs.FollowLaws.{Room, less, by-is, after-room}
use Rattle.aic_bounds.proofs.Promises as Bounds
use Rattle.aic_bounds.specs.declared.figures.Figures.{Figures}
use Rattle.aic_bounds.specs.Figures.{no_figures, figures_with, figures_over, figures_of}
use Rattle.aic_bounds.specs.FiguresPromises.{Tells}

-- what became of the figures f over the steps xs
pub record Went (k n : ℕ) (f : Figures) (s : Aic) (xs : List Step) (g : Figures) : Type 0 where
  pub stands : g.bound ≡ bound_over k n f.bound s xs
  pub largest : g.largest ≡ best_over k n f.bound f.largest s xs
  pub begun : g.begun ≡ f.begun + begun_over k f.bound.wait s xs
  pub unbounded : g.unbounded ≡ f.unbounded + unbounded_over k n f.bound s xs
  pub first : g.first ≡ pick (eqb f.first 0) (first_over k n f.bound s xs) f.first

-- the first place stays told
first_step : (m n r : ℕ) (c : Bool) → pick (eqb (pick (c && eqb m 0) (n + 1) m) 0) r (pick (c && eqb m 0) (n + 1) m) ≡ pick (eqb m 0) (pick c (n + 1) r) m
first_step m n r c = go (ℕ_discrete m 0) c
  where
    go : Dec (m ≡ 0) → (d : Bool) → pick (eqb (pick (d && eqb m 0) (n + 1) m) 0) r (pick (d && eqb m 0) (n + 1) m) ≡ pick (eqb m 0) (pick d (n + 1) r) m
    go (yes e) true = rw e (unfold pick in (rw (ne_eqb (n + 1) 0 (λ z. absurd (omega (arith, z))))))
    go (yes e) false = rw e (unfold pick in refl)
    go (no z) true = rw (ne_eqb m 0 z) (unfold pick in (rw (ne_eqb m 0 z)))
    go (no z) false = unfold pick in (rw (ne_eqb m 0 z))

module _ (k n : ℕ) (f : Figures) (s : Aic) (x : Step) (xs : List Step) (g : Figures) where
  abbrev b' : Bound
  b' = bound_after k (n + 1) f.bound s x

  went-step : f.begun + 1 ≤ 4294967295 → f.unbounded + 1 ≤ 4294967295 → Went k (n + 1) (figures_with (n + 1) f b') (step s x).aic xs g
      → Went k n f s (x ∷ xs) g
  unfolding figures_with bound_over best_over begun_over unbounded_over first_over
  went-step l m w =
      let v = after-wait k (n + 1) f.bound s x in
      record {
        stands = w.stands;
        largest = w.largest;
        begun =
            omega (
              arith,
              w.begun,
              capped_is (f.begun + one (ltb f.bound.wait 2 && ltb 1 b'.wait)) (omega (arith, l, one_le (ltb f.bound.wait 2 && ltb 1 b'.wait))),
              ap (λ (c : ℕ). one (ltb f.bound.wait 2 && ltb 1 c)) v,
              ap (λ (c : ℕ). begun_over k c (step s x).aic xs) v,
            );
        unbounded =
            omega (
              arith,
              w.unbounded,
              capped_is (f.unbounded + one (loses f.bound b')) (omega (arith, m, one_le (loses f.bound b'))),
            );
        first = w.first ∙ first_step f.first n (first_over k (n + 1) b' (step s x).aic xs) (loses f.bound b');
      }

-- counts have room for m steps more
abbrev Spare : Figures → ℕ → Type 0
Spare f m = (f.begun + m ≤ 4294967295) × (f.unbounded + m ≤ 4294967295)

spare_next : (n : ℕ) (f : Figures) (b : Bound) (m : ℕ) → Spare f (m + 1) → Spare (figures_with n f b) m
unfolding figures_with
spare_next n f b m (p, q) = (
  omega (
    arith,
    p,
    one_le (ltb f.bound.wait 2 && ltb 1 b.wait),
    capped_is (f.begun + one (ltb f.bound.wait 2 && ltb 1 b.wait)) (omega (arith, p, one_le (ltb f.bound.wait 2 && ltb 1 b.wait))),
  ),
  omega (
    arith,
    q,
    one_le (loses f.bound b),
    capped_is (f.unbounded + one (loses f.bound b)) (omega (arith, q, one_le (loses f.bound b))),
  ),
)

with_bound : (n : ℕ) (f : Figures) (b : Bound) → (figures_with n f b).bound ≡ b
unfolding figures_with
with_bound n f b = refl

went-none : (k n : ℕ) (f : Figures) (s : Aic) → Went k n f s [] f
unfolding bound_over best_over begun_over unbounded_over first_over
went-none k n f s =
    record { stands = refl; largest = refl; begun = omega arith; unbounded = omega arith; first = told (ℕ_discrete f.first 0) }
  where
    told : Dec (f.first ≡ 0) → f.first ≡ pick (eqb f.first 0) 0 f.first
    told (yes e) = rw e (unfold pick in refl)
    told (no z) = rw (ne_eqb f.first 0 z) (unfold pick in refl)

went : (k n : ℕ) (f : Figures) (s : Aic) (xs : List Step) → Room f.bound (32 * length xs) → Spare f (length xs) → Went k n f s xs (figures_over k n f s xs)
unfolding figures_over
went k n f s [] r p = went-none k n f s
went k n f s (x ∷ xs) r p =
    rw (by-is k (wait_after k f.bound.wait s x) (n + 1) f.bound s x (less f.bound (32 * length (x ∷ xs)) 32 (omega arith) r))
    (went-step k n f s x xs _ (omega (arith, p.0)) (omega (arith, p.1))
    (went k (n + 1) (figures_with (n + 1) f (bound_after k (n + 1) f.bound s x)) (step s x).aic xs
    (rw (with_bound (n + 1) f (bound_after k (n + 1) f.bound s x))
    (after-room k (n + 1) f.bound s x (32 * length xs) (less f.bound (32 * length (x ∷ xs)) (32 + 32 * length xs) (omega arith) r)))
    (spare_next (n + 1) f (bound_after k (n + 1) f.bound s x) (length xs) (omega (arith, p.0), omega (arith, p.1)))))

pub figures-tell : (s : Aic) (k : ℕ) (xs : List Step) → length xs ≤ 134217727 → Tells k s xs (figures_of k s xs)
unfolding bound_at largest_of waits_begun waits_unended waits_unbounded first_unbounded
figures-tell s k xs l =
    let w = went k 0 no_figures s xs (omega (arith, l), omega (arith, l), omega (arith, l), omega (arith, l), omega (arith, l))
    (omega (arith, l), omega (arith, l)) in
    let b = ap₂ better w.largest w.stands in
    record {
      stands = w.stands;
      largest = b;
      most = ap bound_of b ∙ (Bounds.kept).largest_sum s k xs;
      begun = omega (arith, w.begun);
      unended = ap (λ (v : ℕ). one (ltb 1 v)) (ap (λ (c : Bound). c.wait) w.stands ∙ over-wait k 0 (idle 0) s xs);
      unbounded = omega (arith, w.unbounded);
      first = w.first ∙ none;
    }
  where
    none : pick (eqb no_figures.first 0) (first_over k 0 (idle 0) s xs) 0 ≡ first_over k 0 (idle 0) s xs
    none = unfold pick in refl

-- ---- of the functions

pub better_second : (c b : Bound) {h : Bool} {p q : ℕ} → h ≡ bounds b → p ≡ bound_of c → q ≡ bound_of b → (h && ltb p q) ≡ true → b ≡ better c b
unfolding better pick
better_second c b eh ep eq e = rw (sym eh, sym ep, sym eq, e)

pub better-first : (c b : Bound) {h : Bool} {p q : ℕ} → h ≡ bounds b → p ≡ bound_of c → q ≡ bound_of b → (h && ltb p q) ≡ false → c ≡ better c b
unfolding better pick
better-first c b eh ep eq e = rw (sym eh, sym ep, sym eq, e)

pub figures-from : (n : ℕ) (f : Figures) (b : Bound) {l : Bound} {o g p u r : ℕ} {c : Bool}
    → l ≡ pick (ltb b.wait 2) (better f.largest f.bound) f.largest
    → o ≡ one (ltb f.bound.wait 2 && ltb 1 b.wait) → g ≡ capped (f.begun + o) → c ≡ loses f.bound b → p ≡ one c → u ≡ capped (f.unbounded + p)
    → r ≡ pick (c && eqb f.first 0) n f.first
    → record { bound = b; largest = l; begun = g; unbounded = u; first = r } ≡ figures_with n f b
unfolding figures_with
figures-from n f b el eo eg ec ep eu er = rw (er, eu, ep, ec, eg, eo, el)
