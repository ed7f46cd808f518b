-- The deepest nesting of a run is that of one of its records, and none has more.
use Prim.Native.Nat.{ℕ, ◌≤◌, ◌<◌, max}
use mathlib.Core.Path.{◌≡◌, refl, ap}
use mathlib.Core.List.{List, [], ◌∷◌, ◌++◌}
use mathlib.Core.Logic.{◌⊎◌, inl, inr}
use native.Mathlib.Omega.{arith}
use native.Mathlib.Decide.{dec_lt}
use Rattle.steps.specs.declared.Step.{Step}
use Rattle.aic_record.specs.declared.Aic.{Aic}
use Rattle.aic.specs.Model.{step}
use Rattle.aic_runs.specs.Runs.{run}
use Rattle.aic_waits.specs.Figures.{entries_now, entries_most, entries_of}

-- ---- one record has it

abbrev Reached : ℕ → Aic → List Step → ℕ → Type 0
Reached i s xs r = (before : List Step) × (after : List Step) × (xs ≡ before ++ after) × (r ≡ entries_now (run s before) i)

abbrev Found : ℕ → ℕ → Aic → List Step → ℕ → Type 0
Found i m s xs r = (r ≡ m) ⊎ Reached i s xs r

module _ (i m : ℕ) (s : Aic) (x : Step) (xs : List Step) (r : ℕ) where
  abbrev t : Aic
  t = (step s x).aic

  at-step : r ≡ entries_now t i → Reached i s (x ∷ xs) r
  unfolding run
  at-step e = (x ∷ [], xs, refl, e)

  later : Reached i t xs r → Reached i s (x ∷ xs) r
  unfolding run
  later f = (x ∷ f.0, f.1, ap (λ (l : List Step). x ∷ l) f.2, f.3)

  here : Found i (max m (entries_now t i)) t xs r → Found i m s (x ∷ xs) r
  here (inl e) = go (dec_lt m (entries_now t i))
    where
      go : Dec (m < entries_now t i) → Found i m s (x ∷ xs) r
      go (yes l) = inr (at-step (omega (arith, e, l)))
      go (no n) = inl (omega (arith, e, n))
  here (inr f) = inr (later f)

found : (i m : ℕ) (s : Aic) (xs : List Step) → Found i m s xs (entries_most i m s xs)
unfolding entries_most
found i m s [] = inl refl
found i m s (x ∷ xs) = here i m s x xs _ (found i (max m (entries_now (step s x).aic i)) (step s x).aic xs)

pub deepest-reached : (s : Aic) (i : ℕ) (xs : List Step) → Reached i s xs (entries_of i s xs)
unfolding entries_of run
deepest-reached s i xs = go (found i (entries_now s i) s xs)
  where
    go : Found i (entries_now s i) s xs (entries_most i (entries_now s i) s xs) → Reached i s xs (entries_most i (entries_now s i) s xs)
    go (inl e) = ([], xs, refl, e)
    go (inr f) = f

-- ---- none has more

most_grows : (i m : ℕ) (s : Aic) (xs : List Step) → m ≤ entries_most i m s xs
unfolding entries_most
most_grows i m s [] = omega arith
most_grows i m s (x ∷ xs) = omega (arith, most_grows i (max m (entries_now (step s x).aic i)) (step s x).aic xs)

none_more : (i m : ℕ) (s : Aic) (xs ys : List Step) → entries_now s i ≤ m → entries_now (run s xs) i ≤ entries_most i m s (xs ++ ys)
unfolding entries_most run
none_more i m s [] ys l = omega (arith, l, most_grows i m s ys)
none_more i m s (x ∷ xs) ys l = none_more i (max m (entries_now (step s x).aic i)) (step s x).aic xs ys (omega arith)

pub deepest-largest : (s : Aic) (i : ℕ) (before after : List Step) → entries_now (run s before) i ≤ entries_of i s (before ++ after)
unfolding entries_of
deepest-largest s i before after = none_more i (entries_now s i) s before after (omega arith)
