-- One step: whether a wait begins with it, goes on over it or ends.
use Prim.Native.Nat.{ℕ, ◌+◌, ◌≤◌, ◌<◌}
use mathlib.Core.Path.{◌≡◌, refl, sym, ap, ◌∙◌}
use mathlib.Core.Bool.{Bool, true, false, not, ◌&&◌}
use mathlib.Core.List.{List, [], ◌∷◌, ◌++◌}
use mathlib.Core.Logic.{◌≢◌, ◌⊎◌, inl, inr}
use native.Mathlib.Omega.{arith}
use native.Mathlib.Decide.{ℕ_discrete, dec_lt}
use lib.Dec.{eqb, ltb}
use lib.ListN.{length}
use borrow.Author.Tests.{ltb-true, ltb-false, ne_eqb, lt-ltb, le-ltb}
use Rattle.words.specs.Choice.{pick}
use Rattle.words.specs.Counting.{one}
use Rattle.words.proofs.ChoiceLaws.{pick_cases}
use Rattle.steps.specs.declared.Step.{Step}
use Rattle.aic_record.specs.declared.Aic.{Aic}
use Rattle.aic_sources.specs.Normal.{waiting}
use Rattle.aic.specs.Model.{step}
use Rattle.aic_runs.specs.Counted.{starts_of, starts_other}
use Rattle.aic_runs.specs.Runs.{run}
use Rattle.aic_waits.specs.Figures.{wait_next, wait_after, standing}
use Rattle.aic_bounds.specs.declared.Bound.{Bound}
use Rattle.aic_bounds.specs.Bounds.{idle, fresh, grown, bound_next, bound_after, bound_over}

-- ---- how it stands after a step

-- a source that does not wait has at most begun to
next_small : (w : ℕ) (waits own other : Bool) → w < 2 → wait_next w waits own other ≤ 2
unfolding wait_next
next_small w waits own other h =
    pick_cases (λ n. n ≤ 2) (not waits) (λ _. omega arith)
    (λ _. pick_cases (λ n. n ≤ 2) own (λ _. omega arith)
    (λ _. pick_cases (λ n. n ≤ 2) (eqb w 0) (λ _. omega arith) (λ _. rw (le-ltb 1 w (omega (arith, h))) (omega (arith, h)))))

-- one that waits, and is not started, waits on
pub next_on : (w : ℕ) (waits own other : Bool) → 2 ≤ w → waits ≡ true → own ≡ false → wait_next w waits own other ≡ w + one other
unfolding wait_next pick
next_on w waits own other h e f = rw (e, f, ne_eqb w 0 (λ z. absurd (omega (arith, z, h))), lt-ltb 1 w (omega (arith, h)))

-- one that waits after a step waits then, is not started by it, and waited before or began to
pub next_back : (w : ℕ) (waits own other : Bool) → 2 ≤ wait_next w waits own other → (waits ≡ true) × (own ≡ false) × ((w ≡ 0) ⊎ (2 ≤ w))
unfolding wait_next pick
next_back w false own other h = absurd (omega (arith, h))
next_back w true true other h = absurd (omega (arith, h))
next_back w true false other h = (refl, refl, go (ℕ_discrete w 0) (dec_lt w 2))
  where
    served : (w : ℕ) → w < 2 → w ≢ 0 → pick (eqb w 0) 2 (w + one (ltb 1 w && other)) ≡ w
    served w l z = rw (ne_eqb w 0 z, le-ltb 1 w (omega (arith, l))) (omega arith)

    go : Dec (w ≡ 0) → Dec (w < 2) → (w ≡ 0) ⊎ (2 ≤ w)
    go (yes z) d = inl z
    go (no z) (yes l) = absurd (omega (arith, h, l, served w l z))
    go (no z) (no g) = inr (omega (arith, g))

-- ---- the three ways of a step

module _ (k n : ℕ) (b : Bound) (s : Aic) (x : Step) where
  abbrev w' : ℕ
  w' = wait_after k b.wait s x

  pub step_cases : (P : Bound → Type 0) → (w' < 2 → P (idle w')) → (w' ≡ 2 → b.wait ≡ 0 → P (fresh k (step s x).aic))
      → (2 ≤ w' → 2 ≤ b.wait → P (grown w' b n s x))
      → P (bound_after k n b s x)
  unfolding bound_next
  step_cases P f g h =
      pick_cases P (ltb w' 2) (λ e. f (ltb-true w' 2 e))
      (λ e. pick_cases P (ltb b.wait 2)
      (λ c. begin (ltb-false w' 2 e) (ltb-true b.wait 2 c))
      (λ c. h (ltb-false w' 2 e) (ltb-false b.wait 2 c)))
    where
      begin : 2 ≤ w' → b.wait < 2 → P (fresh k (step s x).aic)
      begin l c =
          g (omega (arith, l, next_small b.wait (waiting (step s x).aic k) (starts_of k s x) (starts_other k s x) c))
          (from (next_back b.wait (waiting (step s x).aic k) (starts_of k s x) (starts_other k s x) l).2)
        where
          from : (b.wait ≡ 0) ⊎ (2 ≤ b.wait) → b.wait ≡ 0
          from (inl z) = z
          from (inr o) = absurd (omega (arith, o, c))

  pub after-wait : (bound_after k n b s x).wait ≡ w'
  after-wait = step_cases (λ r. r.wait ≡ w') (λ l. refl) (λ e z. sym e) (λ l o. refl)

  pub after-begun : w' ≡ 2 → b.wait ≡ 0 → bound_after k n b s x ≡ fresh k (step s x).aic
  unfolding bound_next pick
  after-begun e z = rw (le-ltb w' 2 (omega (arith, e)), lt-ltb b.wait 2 (omega (arith, z)))

  pub after_on : 2 ≤ b.wait → waiting (step s x).aic k ≡ true → starts_of k s x ≡ false
      → bound_after k n b s x ≡ grown (b.wait + one (starts_other k s x)) b n s x
  unfolding bound_next pick
  after_on l e f =
      let q : w' ≡ b.wait + one (starts_other k s x) = next_on b.wait (waiting (step s x).aic k) (starts_of k s x) (starts_other k s x) l e f in
      rw (q, le-ltb (b.wait + one (starts_other k s x)) 2 (omega (arith, l)), le-ltb b.wait 2 l)

-- ---- over a run

pub over-wait : (k n : ℕ) (b : Bound) (s : Aic) (xs : List Step) → (bound_over k n b s xs).wait ≡ standing k b.wait s xs
unfolding bound_over standing
over-wait k n b s [] = refl
over-wait k n b s (x ∷ xs) =
    over-wait k (n + 1) (bound_after k (n + 1) b s x) (step s x).aic xs ∙ ap (λ (w : ℕ). standing k w (step s x).aic xs) (after-wait k (n + 1) b s x)

pub over_append : (k n : ℕ) (b : Bound) (s : Aic) (xs ys : List Step)
    → bound_over k n b s (xs ++ ys) ≡ bound_over k (n + length xs) (bound_over k n b s xs) (run s xs) ys
unfolding bound_over run
over_append k n b s [] ys = ap (λ (m : ℕ). bound_over k m b s ys) (omega arith)
over_append k n b s (x ∷ xs) ys =
    over_append k (n + 1) (bound_after k (n + 1) b s x) (step s x).aic xs ys
    ∙ ap (λ (m : ℕ). bound_over k m (bound_over k (n + 1) (bound_after k (n + 1) b s x) (step s x).aic xs) (run (step s x).aic xs) ys) (omega arith)
