-- Sums over the rivals that count, and what a step adds to each of them.
use Prim.Native.Nat.{ℕ, ◌+◌, ◌<◌}
use mathlib.Core.Path.{◌≡◌, refl, sym, ◌∙◌}
use mathlib.Core.Bool.{Bool, true, false, not, ◌&&◌, ◌||◌}
use mathlib.Core.List.{List, [], ◌∷◌}
use mathlib.Core.Logic.{◌⊎◌, inl, inr}
use native.Mathlib.Omega.{arith}
use Rattle.words.specs.Choice.{pick}
use Rattle.words.specs.Counting.{one}
use Rattle.words.specs.Word.{bit}
use Rattle.words.proofs.CountingLaws.{sum_le}
use Rattle.words.proofs.TruthLaws.{clash, told}
use Rattle.steps.specs.declared.Step.{Step}
use Rattle.aic_record.specs.declared.Aic.{Aic}
use Rattle.aic_record.specs.Mode.{edge}
use Rattle.aic.specs.Model.{step}
use Rattle.aic_runs.specs.Counted.{rises, edges, commands}
use Rattle.aic_runs.specs.Runs.{count, sum_over}
use Rattle.aic_runs.proofs.RunLaws.{over_le}
use Rattle.aic_runs.specs.Turns.{closes_hot, gains, gained, due}
use Rattle.aic_runs.specs.Rivals.{chances, once_on, allowed}
use Rattle.aic_runs.proofs.OnLaws.{once-first, once-off}
use Rattle.aic_bounds.specs.Bounds.{sets, lifts}

-- ---- sums

pub over-same : (t : ℕ → Bool) (f g : ℕ → ℕ) → ((i : ℕ) → i < 32 → t i ≡ true → f i ≡ g i) → sum_over t f ≡ sum_over t g
over-same t f g h = omega (arith, over_le t f g (λ i l r. omega (arith, h i l r)), over_le t g f (λ i l r. omega (arith, h i l r)))

-- over two tests that agree
pub over_tests : (t u : ℕ → Bool) (f : ℕ → ℕ) → ((i : ℕ) → i < 32 → t i ≡ u i) → sum_over t f ≡ sum_over u f
unfolding sum_over pick
over_tests t u f h =
    omega (
      arith,
      sum_le 32 (λ i. pick (t i) (f i) 0) (λ i. pick (u i) (f i) 0) (λ i l. rw (h i l) (omega arith)),
      sum_le 32 (λ i. pick (u i) (f i) 0) (λ i. pick (t i) (f i) 0) (λ i l. rw (h i l) (omega arith)),
    )

-- over those that pass a test within another
pub over-within : (o r : ℕ → Bool) (f : ℕ → ℕ) → ((i : ℕ) → i < 32 → o i ≡ true → r i ≡ true) → sum_over o f ≡ sum_over r (λ i. pick (o i) (f i) 0)
unfolding sum_over
over-within o r f h =
    omega (
      arith,
      sum_le 32 (λ i. pick (o i) (f i) 0) (λ i. pick (r i) (pick (o i) (f i) 0) 0) (λ i l. omega (arith, each (o i) (r i) (f i) (h i l))),
      sum_le 32 (λ i. pick (r i) (pick (o i) (f i) 0) 0) (λ i. pick (o i) (f i) 0) (λ i l. omega (arith, each (o i) (r i) (f i) (h i l))),
    )
  where
    each : (a b : Bool) (n : ℕ) → (a ≡ true → b ≡ true) → pick a n 0 ≡ pick b (pick a n 0) 0
    each true true n q = unfold pick in refl
    each true false n q = clash (q refl) refl
    each false true n q = unfold pick in refl
    each false false n q = unfold pick in refl

-- ---- from the first record in which a source is enabled

-- of a source that counts already, and else from there
abbrev pub since : Bool → ℕ → (Aic → List Step → ℕ) → Aic → List Step → ℕ
since o i f s xs = pick o (f s xs) (once_on i f s xs)

-- what is left to be due of it
abbrev pub due_left : Bool → ℕ → Aic → List Step → ℕ
due_left o i s xs = pick o 0 (once_on i (λ u ys. due u i) s xs)

module _ (i : ℕ) (s : Aic) (x : Step) (xs : List Step) (o : Bool) (fits : bit s.enabled i ≡ true → o ≡ true) where
  abbrev t : Aic
  t = (step s x).aic

  off_here : o ≡ false → bit s.enabled i ≡ false
  off_here e = go (told (bit s.enabled i))
    where
      go : (bit s.enabled i ≡ true) ⊎ (bit s.enabled i ≡ false) → bit s.enabled i ≡ false
      go (inl q) = clash (fits q) e
      go (inr q) = q

  -- whatever f says: if it counts before the step, it counts after it
  since-off : (f : Aic → List Step → ℕ) → o ≡ false → since (bit t.enabled i) i f t xs ≡ once_on i f s (x ∷ xs)
  since-off f e = go (told (bit t.enabled i)) ∙ sym (once-off i f s x xs (off_here e))
    where
      go : (bit t.enabled i ≡ true) ⊎ (bit t.enabled i ≡ false) → since (bit t.enabled i) i f t xs ≡ once_on i f t xs
      go (inl q) = rw q (unfold pick in (sym (once-first i f t xs q)))
      go (inr q) = rw q (unfold pick in refl)

  pub since-count : (g : Aic → Step → Bool) → pick o (one (g s x)) 0 + since (o || bit t.enabled i) i (count g) t xs ≡ since o i (count g) s (x ∷ xs)
  since-count g = go o refl
    where
      go : (b : Bool) → o ≡ b → pick b (one (g s x)) 0 + since (b || bit t.enabled i) i (count g) t xs ≡ since b i (count g) s (x ∷ xs)
      go true e = unfold pick count in refl
      go false e = unfold pick in (omega (arith, since-off (count g) e))

  pub since-one : since (o || bit t.enabled i) i (λ u ys. 1) t xs ≡ since o i (λ u ys. 1) s (x ∷ xs)
  since-one = go o refl
    where
      go : (b : Bool) → o ≡ b → since (b || bit t.enabled i) i (λ u ys. 1) t xs ≡ since b i (λ u ys. 1) s (x ∷ xs)
      go true e = unfold pick in refl
      go false e = unfold pick in (since-off (λ u ys. 1) e)

  pub since-due : pick (bit t.enabled i && not o) (due t i) 0 + due_left (o || bit t.enabled i) i t xs ≡ due_left o i s (x ∷ xs)
  since-due = go o refl (told (bit t.enabled i))
    where
      go : (b : Bool) → o ≡ b → (bit t.enabled i ≡ true) ⊎ (bit t.enabled i ≡ false)
          → pick (bit t.enabled i && not b) (due t i) 0 + due_left (b || bit t.enabled i) i t xs ≡ due_left b i s (x ∷ xs)
      go true e (inl q) = rw q (unfold pick in refl)
      go true e (inr q) = rw q (unfold pick in refl)
      go false e (inl q) =
          rw (q, once-off i (λ u ys. due u i) s x xs (off_here e), once-first i (λ u ys. due u i) t xs q) (unfold pick in (omega arith))
      go false e (inr q) = rw (q, once-off i (λ u ys. due u i) s x xs (off_here e)) (unfold pick in (omega arith))

-- of a source that counts exactly if it is enabled
pub since_now : (o : Bool) (i : ℕ) (f : Aic → List Step → ℕ) (s : Aic) (xs : List Step) → o ≡ bit s.enabled i → since o i f s xs ≡ once_on i f s xs
since_now o i f s xs e = go o e
  where
    go : (b : Bool) → b ≡ bit s.enabled i → since b i f s xs ≡ once_on i f s xs
    go true q = unfold pick in (sym (once-first i f s xs (sym q)))
    go false q = unfold pick in refl

pub due_now : (o : Bool) (i : ℕ) (s : Aic) (xs : List Step) → o ≡ bit s.enabled i → pick o (due s i) 0 + due_left o i s xs ≡ once_on i (λ u ys. due u i) s xs
due_now o i s xs e = go o e
  where
    go : (b : Bool) → b ≡ bit s.enabled i → pick b (due s i) 0 + due_left b i s xs ≡ once_on i (λ u ys. due u i) s xs
    go true q = unfold pick in (omega (arith, once-first i (λ u ys. due u i) s xs (sym q)))
    go false q = unfold pick in (omega arith)

-- ---- what a source is allowed, by its five terms

-- what a source gains by a step is an edge, a set command, or a turn
gains-parts : (i : ℕ) (s : Aic) (x : Step) → gains i s x ≡ one (edges i s x) + one (sets i s x) + one (lifts i s x)
unfolding gains edges sets lifts pick
gains-parts i s x = go (edge s i) (rises i s x) (commands i s x)
  where
    go : (e r c : Bool) → pick e (one (r && e) + one c) (one r) ≡ one (r && e) + one (c && e) + one (r && not e)
    go true true true = refl
    go true true false = refl
    go true false true = refl
    go true false false = refl
    go false true true = refl
    go false true false = refl
    go false false true = refl
    go false false false = refl

gained-parts : (i : ℕ) (s : Aic) (xs : List Step) → gained i s xs ≡ count (edges i) s xs + count (sets i) s xs + count (lifts i) s xs
unfolding gained count
gained-parts i s [] = refl
gained-parts i s (x ∷ xs) = omega (arith, gains-parts i s x, gained-parts i (step s x).aic xs)

pub allowed-parts : (i : ℕ) (s : Aic) (xs : List Step)
    → allowed i s xs ≡ once_on i (λ u ys. due u i) s xs + once_on i (count (edges i)) s xs + once_on i (count (sets i)) s xs + once_on i (count (lifts i)) s xs
    + once_on i (count (closes_hot i)) s xs
unfolding allowed
allowed-parts i s xs = parts s xs
  where
    whole : (u : Aic) (ys : List Step) → chances i u ys
        ≡ due u i + count (edges i) u ys + count (sets i) u ys + count (lifts i) u ys + count (closes_hot i) u ys
    whole u ys = unfold chances in (omega (arith, gained-parts i u ys))

    here : (u : Aic) (ys : List Step) → bit u.enabled i ≡ true → once_on i (chances i) u ys
        ≡ once_on i (λ v zs. due v i) u ys + once_on i (count (edges i)) u ys + once_on i (count (sets i)) u ys + once_on i (count (lifts i)) u ys
        + once_on i (count (closes_hot i)) u ys
    here u ys e =
        omega (
          arith,
          whole u ys,
          once-first i (chances i) u ys e,
          once-first i (λ v zs. due v i) u ys e,
          once-first i (count (edges i)) u ys e,
          once-first i (count (sets i)) u ys e,
          once-first i (count (lifts i)) u ys e,
          once-first i (count (closes_hot i)) u ys e,
        )

    parts : (u : Aic) (ys : List Step) → once_on i (chances i) u ys
        ≡ once_on i (λ v zs. due v i) u ys + once_on i (count (edges i)) u ys + once_on i (count (sets i)) u ys + once_on i (count (lifts i)) u ys
        + once_on i (count (closes_hot i)) u ys
    parts u [] = go (told (bit u.enabled i))
      where
        go : (bit u.enabled i ≡ true) ⊎ (bit u.enabled i ≡ false) → once_on i (chances i) u []
            ≡ once_on i (λ v zs. due v i) u [] + once_on i (count (edges i)) u [] + once_on i (count (sets i)) u [] + once_on i (count (lifts i)) u []
            + once_on i (count (closes_hot i)) u []
        go (inl e) = here u [] e
        go (inr e) = unfold once_on pick in (rw e)
    parts u (y ∷ ys) = go (told (bit u.enabled i)) (parts (step u y).aic ys)
      where
        go : (bit u.enabled i ≡ true) ⊎ (bit u.enabled i ≡ false)
            → once_on i (chances i) (step u y).aic ys
            ≡ once_on i (λ v zs. due v i) (step u y).aic ys + once_on i (count (edges i)) (step u y).aic ys + once_on i (count (sets i)) (step u y).aic ys
            + once_on i (count (lifts i)) (step u y).aic ys + once_on i (count (closes_hot i)) (step u y).aic ys
            → once_on i (chances i) u (y ∷ ys)
            ≡ once_on i (λ v zs. due v i) u (y ∷ ys) + once_on i (count (edges i)) u (y ∷ ys) + once_on i (count (sets i)) u (y ∷ ys)
            + once_on i (count (lifts i)) u (y ∷ ys) + once_on i (count (closes_hot i)) u (y ∷ ys)
        go (inl e) ih = here u (y ∷ ys) e
        go (inr e) ih =
            omega (
              arith,
              ih,
              once-off i (chances i) u y ys e,
              once-off i (λ v zs. due v i) u y ys e,
              once-off i (count (edges i)) u y ys e,
              once-off i (count (sets i)) u y ys e,
              once-off i (count (lifts i)) u y ys e,
              once-off i (count (closes_hot i)) u y ys e,
            )
