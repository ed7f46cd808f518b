-- How many waits begin, and where the first loses its bound.
use Prim.Native.Nat.{ℕ, ◌+◌, ◌≤◌, ◌<◌}
use mathlib.Core.Path.{◌≡◌, refl, ap, ◌∙◌}
use mathlib.Core.Bool.{Bool, true, false, not, ◌&&◌, and-false}
use mathlib.Core.List.{List, [], ◌∷◌, ◌++◌}
use mathlib.Core.Logic.{◌↔◌, ◌≢◌, ◌⊎◌, inl, inr}
use native.Mathlib.Omega.{arith}
use lib.Dec.{eqb, ltb}
use lib.ListN.{length}
use borrow.Author.Tests.{lt-ltb, le-ltb}
use Rattle.words.specs.Choice.{pick}
use Rattle.words.specs.Counting.{one}
use Rattle.words.proofs.TruthLaws.{and_left, and_right, and_both, clash, told}
use Rattle.steps.specs.declared.Step.{Step}
use Rattle.aic_record.specs.declared.Aic.{Aic}
use Rattle.aic.specs.Model.{step}
use Rattle.aic_runs.specs.Counted.{rewrites}
use Rattle.aic_runs.specs.Runs.{run}
use Rattle.aic_waits.specs.Figures.{wait_after, standing}
use Rattle.aic_bounds.specs.declared.Bound.{Bound}
use Rattle.aic_bounds.specs.Bounds.{idle, bound_after}
use Rattle.aic_bounds.specs.Over.{begun_over, waits_begun, waits_unended, loses, unbounded_over, waits_unbounded, first_over, first_unbounded}
use Rattle.aic_bounds.specs.Promises.{LostAt}
use Rattle.aic_bounds.proofs.StepLaws.{step_cases, after-wait}

-- ---- waits that begin

standing_next : (k w : ℕ) (s : Aic) (xs : List Step) (x : Step) → standing k w s (xs ++ (x ∷ [])) ≡ wait_after k (standing k w s xs) (run s xs) x
unfolding standing run
standing_next k w s [] x = refl
standing_next k w s (y ∷ ys) x = standing_next k (wait_after k w s y) (step s y).aic ys x

begun_next : (k w : ℕ) (s : Aic) (xs : List Step) (x : Step)
    → begun_over k w s (xs ++ (x ∷ [])) ≡ begun_over k w s xs + one (ltb (standing k w s xs) 2 && ltb 1 (standing k w s (xs ++ (x ∷ []))))
unfolding begun_over standing
begun_next k w s [] x = omega arith
begun_next k w s (y ∷ ys) x = omega (arith, begun_next k (wait_after k w s y) (step s y).aic ys x)

pub begun-none : (s : Aic) (k : ℕ) → waits_begun k s [] ≡ 0
unfolding waits_begun begun_over
begun-none s k = refl

pub begun_more : (s : Aic) (k : ℕ) (xs : List Step) (x : Step) → standing k 0 s xs < 2 → 2 ≤ standing k 0 s (xs ++ (x ∷ []))
    → waits_begun k s (xs ++ (x ∷ [])) ≡ waits_begun k s xs + 1
unfolding waits_begun
begun_more s k xs x l m =
    begun_next k 0 s xs x ∙ ap (λ (c : Bool). begun_over k 0 s xs + one c)
    (and_both (lt-ltb (standing k 0 s xs) 2 l) (lt-ltb 1 (standing k 0 s (xs ++ (x ∷ []))) m))

pub begun-same : (s : Aic) (k : ℕ) (xs : List Step) (x : Step) → (2 ≤ standing k 0 s xs) ⊎ (standing k 0 s (xs ++ (x ∷ [])) < 2)
    → waits_begun k s (xs ++ (x ∷ [])) ≡ waits_begun k s xs
unfolding waits_begun
begun-same s k xs x h = begun_next k 0 s xs x ∙ ap (λ (c : Bool). begun_over k 0 s xs + one c) (go h) ∙ none (begun_over k 0 s xs)
  where
    none : (n : ℕ) → n + 0 ≡ n
    none n = omega arith

    go : (2 ≤ standing k 0 s xs) ⊎ (standing k 0 s (xs ++ (x ∷ [])) < 2) → (ltb (standing k 0 s xs) 2 && ltb 1 (standing k 0 s (xs ++ (x ∷ [])))) ≡ false
    go (inl l) = rw (le-ltb (standing k 0 s xs) 2 l)
    go (inr m) = rw (le-ltb 1 (standing k 0 s (xs ++ (x ∷ []))) (omega (arith, m)), and-false (ltb (standing k 0 s xs) 2))

pub unended-one : (s : Aic) (k : ℕ) (xs : List Step) → 2 ≤ standing k 0 s xs → waits_unended k s xs ≡ 1
unfolding waits_unended
unended-one s k xs l = rw (lt-ltb 1 (standing k 0 s xs) l)

pub unended-none : (s : Aic) (k : ℕ) (xs : List Step) → standing k 0 s xs < 2 → waits_unended k s xs ≡ 0
unfolding waits_unended
unended-none s k xs l = rw (le-ltb 1 (standing k 0 s xs) (omega (arith, l)))

-- ---- the first place where a wait loses its bound

none-lost : (k n : ℕ) (b : Bound) (s : Aic) (xs : List Step) → (first_over k n b s xs ≡ 0) ↔ (unbounded_over k n b s xs ≡ 0)
unfolding first_over unbounded_over
none-lost k n b s [] = (λ e. e, λ e. e)
none-lost k n b s (x ∷ xs) = go (loses b (bound_after k (n + 1) b s x)) (none-lost k (n + 1) (bound_after k (n + 1) b s x) (step s x).aic xs)
  where
    go : (c : Bool) {f u : ℕ} → (f ≡ 0) ↔ (u ≡ 0) → (pick c (n + 1) f ≡ 0) ↔ (one c + u ≡ 0)
    go true h = unfold pick in (λ e. absurd (omega (arith, e)), λ e. absurd (omega (arith, e)))
    go false h = unfold pick in (λ e. omega (arith, h.0 e), λ e. h.1 (omega (arith, e)))

pub first-none : (s : Aic) (k : ℕ) (xs : List Step) → (first_unbounded k s xs ≡ 0) ↔ (waits_unbounded k s xs ≡ 0)
unfolding first_unbounded waits_unbounded
first-none s k xs = none-lost k 0 (idle 0) s xs

-- a step by which a wait loses its bound rewrites, and it waits before and after it
loses-is : (k n : ℕ) (b : Bound) (s : Aic) (x : Step) → loses b (bound_after k n b s x) ≡ true
    → (rewrites s x ≡ true) × (2 ≤ b.wait) × (2 ≤ wait_after k b.wait s x)
unfolding loses
loses-is k n b s x =
    step_cases k n b s x (λ r. (eqb b.broke 0 && not (eqb r.broke 0)) ≡ true → (rewrites s x ≡ true) × (2 ≤ b.wait) × (2 ≤ wait_after k b.wait s x))
    (λ l h. clash (and_right (eqb b.broke 0) _ h) refl)
    (λ e z h. clash (and_right (eqb b.broke 0) _ h) refl)
    (λ l o h. (rewrote (told (rewrites s x)) h, o, l))
  where
    rewrote : (rewrites s x ≡ true) ⊎ (rewrites s x ≡ false)
        → (eqb b.broke 0 && not (eqb (pick (eqb b.broke 0 && rewrites s x) n b.broke) 0)) ≡ true → rewrites s x ≡ true
    rewrote (inl e) h = e
    rewrote (inr e) h =
        let z = and_left (eqb b.broke 0) _ h in
        clash (and_right (eqb b.broke 0) _ h) (rw (e, and-false (eqb b.broke 0)) (unfold pick in (ap not z)))

-- the same of a run from any moment
pub record Lost (k n : ℕ) (b : Bound) (u : Aic) (xs : List Step) (m : ℕ) : Type 0 where
  pub before : List Step
  pub by : Step
  pub after : List Step
  pub parts : xs ≡ before ++ (by ∷ after)
  pub number : m ≡ n + length before + 1
  pub earlier : unbounded_over k n b u before ≡ 0
  pub rewrote : rewrites (run u before) by ≡ true
  pub waited : 2 ≤ standing k b.wait u before
  pub waits : 2 ≤ standing k b.wait u (before ++ (by ∷ []))

lost_here : (k n : ℕ) (b : Bound) (u : Aic) (x : Step) (xs : List Step) → loses b (bound_after k (n + 1) b u x) ≡ true → Lost k n b u (x ∷ xs) (n + 1)
unfolding unbounded_over run standing
lost_here k n b u x xs e =
    let h = loses-is k (n + 1) b u x e in
    record { before = []; by = x; after = xs; parts = refl; number = omega arith; earlier = refl; rewrote = h.0; waited = h.1; waits = h.2 }

lost-later : (k n : ℕ) (b : Bound) (u : Aic) (x : Step) (xs : List Step) (m : ℕ) → loses b (bound_after k (n + 1) b u x) ≡ false
    → Lost k (n + 1) (bound_after k (n + 1) b u x) (step u x).aic xs m → Lost k n b u (x ∷ xs) m
unfolding unbounded_over run standing
lost-later k n b u x xs m e r =
    let w = after-wait k (n + 1) b u x in
    record {
      before = x ∷ r.before;
      by = r.by;
      after = r.after;
      parts = ap (λ (l : List Step). x ∷ l) r.parts;
      number = omega (arith, r.number);
      earlier = omega (arith, ap one e, r.earlier);
      rewrote = r.rewrote;
      waited = omega (arith, r.waited, ap (λ (v : ℕ). standing k v (step u x).aic r.before) w);
      waits = omega (arith, r.waits, ap (λ (v : ℕ). standing k v (step u x).aic (r.before ++ (r.by ∷ []))) w);
    }

lost-from : (k n : ℕ) (b : Bound) (u : Aic) (xs : List Step) → first_over k n b u xs ≢ 0 → Lost k n b u xs (first_over k n b u xs)
unfolding first_over
lost-from k n b u [] h = absurd (h refl)
lost-from k n b u (x ∷ xs) h =
    go (loses b (bound_after k (n + 1) b u x)) refl h (lost-from k (n + 1) (bound_after k (n + 1) b u x) (step u x).aic xs)
  where
    go : (c : Bool) {f : ℕ} → loses b (bound_after k (n + 1) b u x) ≡ c → pick c (n + 1) f ≢ 0
        → (f ≢ 0 → Lost k (n + 1) (bound_after k (n + 1) b u x) (step u x).aic xs f) → Lost k n b u (x ∷ xs) (pick c (n + 1) f)
    go true e z r = unfold pick in (lost_here k n b u x xs e)
    go false {f} e z r = later z r
      where
        later : pick false (n + 1) f ≢ 0 → (f ≢ 0 → Lost k (n + 1) (bound_after k (n + 1) b u x) (step u x).aic xs f)
            → Lost k n b u (x ∷ xs) (pick false (n + 1) f)
        later z r = unfold pick in (lost-later k n b u x xs f e (r z))

pub first-is : (s : Aic) (k : ℕ) (xs : List Step) → first_unbounded k s xs ≢ 0 → LostAt k s xs (first_unbounded k s xs)
unfolding first_unbounded waits_unbounded
first-is s k xs h =
    let r = lost-from k 0 (idle 0) s xs h in
    record {
      before = r.before;
      by = r.by;
      after = r.after;
      parts = r.parts;
      number = omega (arith, r.number);
      earlier = r.earlier;
      rewrote = r.rewrote;
      waited = r.waited;
      waits = r.waits;
    }
