-- The largest number of a run is that of one of its waits, and no wait has more.
use Prim.Native.Nat.{ℕ, ◌+◌, ◌-◌, ◌≤◌, ◌<◌, max}
use mathlib.Core.Path.{◌≡◌, refl, ap, ◌∙◌}
use mathlib.Core.Bool.{Bool, true, false}
use mathlib.Core.List.{List, [], ◌∷◌, ◌++◌}
use mathlib.Core.Logic.{◌≢◌, ◌⊎◌, inl, inr}
use native.Mathlib.Omega.{arith}
use native.Mathlib.Decide.{ℕ_discrete, dec_lt}
use borrow.Author.Tests.{ne_eqb, lt-ltb}
use Rattle.words.specs.Choice.{pick}
use Rattle.words.specs.Counting.{one}
use Rattle.steps.specs.declared.Step.{Step}
use Rattle.aic_record.specs.declared.Aic.{Aic}
use Rattle.aic_sources.specs.Normal.{waiting}
use Rattle.aic.specs.Model.{step}
use Rattle.aic_runs.specs.Counted.{starts_of, starts_other}
use Rattle.aic_runs.specs.Runs.{run, count, always}
use Rattle.aic_waits.specs.Figures.{wait_next, wait_after, standing, wait_most, waited_of}
use Rattle.aic_waits.specs.Promises.{Waits, Wait}
use Rattle.aic_waits.proofs.PromiseLaws.{begins, stretch}

-- ---- one step

next-none : (w : ℕ) (other : Bool) → w ≡ 0 → wait_next w true false other ≡ 2
unfolding wait_next pick
next-none w other z = rw z

next_served : (w : ℕ) (other : Bool) → w ≡ 1 → wait_next w true false other ≡ 1
unfolding wait_next pick
next_served w other z = rw z

next_more : (w : ℕ) (other : Bool) → w ≢ 0 → w ≢ 1 → wait_next w true false other ≡ w + one other
unfolding wait_next pick
next_more w other z o = rw (ne_eqb w 0 z, lt-ltb 1 w (omega (arith, z, o)))

-- a source that waits after a step waited before it, or began to wait with it
abbrev Before : ℕ → Bool → ℕ → Type 0
Before w other n = ((w ≡ 0) × (n ≡ 0)) ⊎ ((k : ℕ) × (w ≡ k + 2) × (n ≡ k + one other))

grown : (w : ℕ) (waits own other : Bool) (n : ℕ) → wait_next w waits own other ≡ n + 2 → (waits ≡ true) × (own ≡ false) × Before w other n
unfolding wait_next pick
grown w false own other n e = absurd (omega (arith, e))
grown w true true other n e = absurd (omega (arith, e))
grown w true false other n e = (refl, refl, go (ℕ_discrete w 0) (ℕ_discrete w 1))
  where
    go : Dec (w ≡ 0) → Dec (w ≡ 1) → Before w other n
    go (yes z) d = inl (z, omega (arith, e, next-none w other z))
    go (no z) (yes o) = absurd (omega (arith, e, next_served w other o))
    go (no z) (no o) = inr (w - 2, omega (arith, z, o), omega (arith, e, z, o, next_more w other z o))

more-waits : (i : ℕ) (s : Aic) (x : Step) (xs : List Step) → waiting (step s x).aic i ≡ true → starts_of i s x ≡ false → Waits i (step s x).aic xs → Waits i s (x ∷ xs)
unfolding always count
more-waits i s x xs a o h = (rw a h.0, rw o (omega (arith, h.1)))

no-waits : (i : ℕ) (s : Aic) → Waits i s []
unfolding always count
no-waits i s = (refl, refl)

-- ---- some wait has it

-- a wait that goes on from here, n handlers having been started in it before
abbrev Going : ℕ → ℕ → Aic → List Step → ℕ → Type 0
Going i w s xs r =
    (n : ℕ) × (during : List Step) × (after : List Step) × (w ≡ n + 2) × (xs ≡ during ++ after) × Waits i s during × (r ≡ n + count (starts_other i) s during)

-- and one that begins later
abbrev Later : ℕ → ℕ → Aic → List Step → ℕ → Type 0
Later i w s xs r =
    (before : List Step) × (x : Step) × (during : List Step) × (after : List Step) × (xs ≡ before ++ (x ∷ (during ++ after)))
    × (standing i w s before ≡ 0) × (wait_after i 0 (run s before) x ≡ 2) × Waits i (step (run s before) x).aic during
    × (r ≡ count (starts_other i) (step (run s before) x).aic during)

abbrev Found : ℕ → ℕ → ℕ → Aic → List Step → ℕ → Type 0
Found i w m s xs r = (r ≡ m) ⊎ (Going i w s xs r ⊎ Later i w s xs r)

module _ (i w m : ℕ) (s : Aic) (x : Step) (xs : List Step) (r : ℕ) where
  abbrev t : Aic
  t = (step s x).aic

  abbrev w' : ℕ
  w' = wait_after i w s x

  -- the step itself has it
  at-step : m < w' - 2 → r ≡ w' - 2 → Going i w s (x ∷ xs) r
  unfolding count
  at-step l e = let g = grown w (waiting t i) (starts_of i s x) (starts_other i s x) (w' - 2) (omega (arith, l)) in go g.0 g.1 g.2
    where
      go : waiting t i ≡ true → starts_of i s x ≡ false → Before w (starts_other i s x) (w' - 2) → Going i w s (x ∷ xs) r
      go a o (inl h) = absurd (omega (arith, h.1, l))
      go a o (inr h) = (h.0, x ∷ [], xs, h.1, refl, more-waits i s x [] a o (no-waits i t), omega (arith, e, h.2))

  -- the wait went on before, or began here
  on_going : Going i w' t xs r → Going i w s (x ∷ xs) r ⊎ Later i w s (x ∷ xs) r
  unfolding count standing run
  on_going f = let g = grown w (waiting t i) (starts_of i s x) (starts_other i s x) f.0 f.3 in go g.0 g.1 g.2
    where
      go : waiting t i ≡ true → starts_of i s x ≡ false → Before w (starts_other i s x) f.0 → Going i w s (x ∷ xs) r ⊎ Later i w s (x ∷ xs) r
      go a o (inl h) = inr ([], x, f.1, f.2, ap (λ (l : List Step). x ∷ l) f.4, h.0, begins s i x a o, f.5, omega (arith, f.6, h.1))
      go a o (inr h) = inl (h.0, x ∷ f.1, f.2, h.1, ap (λ (l : List Step). x ∷ l) f.4, more-waits i s x f.1 a o f.5, omega (arith, f.6, h.2))

  on-later : Later i w' t xs r → Later i w s (x ∷ xs) r
  unfolding standing run
  on-later f = (x ∷ f.0, f.1, f.2, f.3, ap (λ (l : List Step). x ∷ l) f.4, f.5, f.6, f.7, f.8)

  here : Found i w' (max m (w' - 2)) t xs r → Found i w m s (x ∷ xs) r
  here (inl e) = go (dec_lt m (w' - 2))
    where
      go : Dec (m < w' - 2) → Found i w m s (x ∷ xs) r
      go (yes l) = inr (inl (at-step l (omega (arith, e, l))))
      go (no n) = inl (omega (arith, e, n))
  here (inr (inl f)) = inr (on_going f)
  here (inr (inr f)) = inr (inr (on-later f))

found : (i w m : ℕ) (s : Aic) (xs : List Step) → Found i w m s xs (wait_most i w m s xs)
unfolding wait_most
found i w m s [] = inl refl
found i w m s (x ∷ xs) = here i w m s x xs _ (found i (wait_after i w s x) (max m (wait_after i w s x - 2)) (step s x).aic xs)

pub reached : (s : Aic) (i : ℕ) (xs : List Step) → (waited_of i s xs ≡ 0) ⊎ Wait i s xs (waited_of i s xs)
unfolding waited_of
reached s i xs = go (found i 0 0 s xs)
  where
    go : Found i 0 0 s xs (wait_most i 0 0 s xs) → (wait_most i 0 0 s xs ≡ 0) ⊎ Wait i s xs (wait_most i 0 0 s xs)
    go (inl e) = inl e
    go (inr (inl f)) = absurd (omega (arith, f.3))
    go (inr (inr f)) = inr f

-- ---- none has more

most_append : (i w m : ℕ) (s : Aic) (xs ys : List Step) → wait_most i w m s (xs ++ ys) ≡ wait_most i (standing i w s xs) (wait_most i w m s xs) (run s xs) ys
unfolding wait_most standing run
most_append i w m s [] ys = refl
most_append i w m s (x ∷ xs) ys = most_append i (wait_after i w s x) (max m (wait_after i w s x - 2)) (step s x).aic xs ys

most_grows : (i w m : ℕ) (s : Aic) (xs : List Step) → m ≤ wait_most i w m s xs
unfolding wait_most
most_grows i w m s [] = omega arith
most_grows i w m s (x ∷ xs) = omega (arith, most_grows i (wait_after i w s x) (max m (wait_after i w s x - 2)) (step s x).aic xs)

most-begun : (i m : ℕ) (s : Aic) (x : Step) (xs : List Step) → wait_after i 0 s x ≡ 2 → wait_most i 0 m s (x ∷ xs) ≡ wait_most i 2 (max m 0) (step s x).aic xs
unfolding wait_most
most-begun i m s x xs e = rw e

pub largest : (s : Aic) (i n : ℕ) (xs : List Step) → Wait i s xs n → n ≤ waited_of i s xs
unfolding waited_of
largest s i n xs h =
    let r = run s h.0 in
    let t = (step r h.1).aic in
    let m = wait_most i 0 0 s h.0 in
    let e = ap (wait_most i 0 0 s) h.4 ∙ most_append i 0 0 s h.0 (h.1 ∷ (h.2 ++ h.3)) ∙ ap (λ (w : ℕ). wait_most i w m r (h.1 ∷ (h.2 ++ h.3))) h.5
    ∙ most-begun i m r h.1 (h.2 ++ h.3) h.6 ∙ most_append i 2 (max m 0) t h.2 h.3 in
    omega (arith, e, h.8, stretch t i 0 (max m 0) h.2 h.7 (omega arith), most_grows i (standing i 2 t h.2) (wait_most i 2 (max m 0) t h.2) (run t h.2) h.3)
