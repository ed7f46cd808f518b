-- A source that is off starts nothing but what is remembered, so it counts from the first record in which it is enabled.
use Prim.Native.Nat.{ℕ, ◌+◌, ◌≤◌, ◌<◌}
use mathlib.Core.Path.{◌≡◌, refl, sym, ap, ◌∙◌}
use mathlib.Core.Bool.{Bool, true, false, not, ◌&&◌, and-false}
use mathlib.Core.List.{List, [], ◌∷◌, ◌++◌}
use mathlib.Core.Logic.{◌⊎◌, inl, inr}
use native.Mathlib.Omega.{arith}
use lib.Dec.{eqb, ltb}
use borrow.Author.Tests.{eqb-true, ne_eqb, lt-ltb, not-true}
use Rattle.words.specs.Choice.{pick}
use Rattle.words.specs.Counting.{one}
use Rattle.words.specs.Word.{bit}
use Rattle.words.proofs.TruthLaws.{and_left, and_right, clash, told}
use Rattle.steps.specs.declared.Step.{Step}
use Rattle.aic_record.specs.declared.Aic.{Aic}
use Rattle.aic_record.specs.Promises.{Shaped}
use Rattle.aic_sources.specs.Fast.{fast}
use Rattle.aic_sources.specs.Normal.{candidates, chosen}
use Rattle.aic_sources.proofs.HandlerLaws.{candidate-waits, waiting-is}
use Rattle.aic_sources.proofs.OrderLaws.{chosen_is}
use Rattle.aic.specs.Model.{step}
use Rattle.aic.proofs.Promises as Controller
use Rattle.aic_runs.specs.Counted.{started_by, recalls, carries, starts_of, starts_other, strays, steady, waits}
use Rattle.aic_runs.specs.Runs.{run, count, always, sum_over}
use Rattle.aic_runs.specs.Promises.{rival_of}
use Rattle.aic_runs.proofs.StepLaws.{lost, stray_law, modes_law, fast_forcing}
use Rattle.aic_runs.proofs.RunLaws.{not_rewritten, over_le, waits-steady}
use Rattle.aic_runs.specs.Turns.{closes_hot, cool, Cool, gained, due}
use Rattle.aic_runs.specs.Rivals.{chances, once_on, allowed}
use Rattle.aic_runs.specs.RivalsPromises.{allowed_before, levels_before, AllOn}
use Rattle.aic_runs.proofs.HotLaws.{per_source_hot, bound-over}

-- ---- one step of a source that is off

-- what is chosen is enabled
chosen_on : (s : Aic) → candidates s ≡ true → bit s.enabled (chosen s) ≡ true
chosen_on s c = (waiting-is s (chosen s) (candidate-waits s (chosen s) (chosen_is s c).fit)).1

-- any source but i
abbrev but : ℕ → ℕ → Bool
but i j = not (eqb i j)

small-not : (i j : ℕ) → i < 32 → eqb i j ≡ true → eqb 32 j ≡ false
small-not i j l e = ne_eqb 32 j (λ q. absurd (omega (arith, q, l, eqb-true i j e)))

lost-recalls : (i : ℕ) (s : Aic) → i < 32 → lost (but i) 32 s ≡ recalls i s
unfolding lost recalls
lost-recalls i s l = go (eqb s.seen.what 1) (eqb i s.seen.source) refl
  where
    go : (w e : Bool) → eqb i s.seen.source ≡ e → (w && (not (eqb 32 s.seen.source) && not (not e))) ≡ (w && e)
    go false e q = refl
    go true true q = rw (small-not i s.seen.source l q)
    go true false q = and-false (not (eqb 32 s.seen.source))

strays-starts : (i : ℕ) (s : Aic) (x : Step) → i < 32 → strays (but i) 32 s x ≡ starts_of i s x
unfolding strays starts_other starts_of
strays-starts i s x l = go (eqb i (started_by s x)) refl
  where
    go : (e : Bool) → eqb i (started_by s x) ≡ e → (ltb (started_by s x) 32 && not (eqb 32 (started_by s x)) && not (not e)) ≡ e
    go true q = rw (lt-ltb (started_by s x) 32 (omega (arith, l, eqb-true i (started_by s x) q)), small-not i (started_by s x) l q)
    go false q = and-false (ltb (started_by s x) 32 && not (eqb 32 (started_by s x)))

pub off_law : (i : ℕ) (s : Aic) (x : Step) → i < 32 → bit s.enabled i ≡ false → one (starts_of i s x) + one (recalls i (step s x).aic) ≤ one (recalls i s)
off_law i s x l e =
    omega (
      arith,
      stray_law (but i) 32 s (λ c d. ap not (ne_eqb i (chosen s) (λ q. clash (chosen_on s c) (ap (bit s.enabled) (sym q) ∙ e)))) x,
      ap one (lost-recalls i s l),
      ap one (lost-recalls i (step s x).aic l),
      ap one (strays-starts i s x l),
    )

-- ---- from the first record in which it is enabled

pub once-first : (i : ℕ) (f : Aic → List Step → ℕ) (s : Aic) (xs : List Step) → bit s.enabled i ≡ true → once_on i f s xs ≡ f s xs
unfolding once_on pick
once-first i f s [] e = rw e
once-first i f s (x ∷ xs) e = rw e

pub once-off : (i : ℕ) (f : Aic → List Step → ℕ) (s : Aic) (x : Step) (xs : List Step) → bit s.enabled i ≡ false
    → once_on i f s (x ∷ xs) ≡ once_on i f (step s x).aic xs
unfolding once_on pick
once-off i f s x xs e = rw e

pub once-later : (i : ℕ) (f : Aic → List Step → ℕ) (s : Aic) (ys zs : List Step)
    → ((us vs : List Step) (y : Step) → ys ≡ us ++ (y ∷ vs) → bit (run s us).enabled i ≡ false) → once_on i f s (ys ++ zs) ≡ once_on i f (run s ys) zs
unfolding run
once-later i f s [] zs h = refl
once-later i f s (x ∷ xs) zs h =
    once-off i f s x (xs ++ zs) (h [] xs x refl)
    ∙ once-later i f (step s x).aic xs zs (λ us vs y e. h (x ∷ us) vs y (ap (λ (l : List Step). x ∷ l) e))

pub once_never : (i : ℕ) (f : Aic → List Step → ℕ) (s : Aic) (xs : List Step)
    → ((us vs : List Step) → xs ≡ us ++ vs → bit (run s us).enabled i ≡ false) → once_on i f s xs ≡ 0
unfolding run
once_never i f s [] h = unfold once_on pick in (rw (h [] [] refl))
once_never i f s (x ∷ xs) h =
    once-off i f s x xs (h [] (x ∷ xs) refl)
    ∙ once_never i f (step s x).aic xs (λ us vs e. h (x ∷ us) vs (ap (λ (l : List Step). x ∷ l) e))

-- ---- a run

pub per_source_on : (i : ℕ) → i < 32 → (s : Aic) (xs : List Step) → Shaped s → fast s i ≡ false → always steady s xs ≡ true
    → count (starts_of i) s xs ≤ once_on i (chances i) s xs + one (recalls i s)
per_source_on i l s [] h f a = unfold count in (omega arith)
per_source_on i l s (x ∷ xs) h f a = go (told (bit s.enabled i)) (per_source_on i l (step s x).aic xs ((Controller.kept).step_shaped s x h))
  where
    go : (bit s.enabled i ≡ true) ⊎ (bit s.enabled i ≡ false)
        → (fast (step s x).aic i ≡ false → always steady (step s x).aic xs ≡ true
        → count (starts_of i) (step s x).aic xs ≤ once_on i (chances i) (step s x).aic xs + one (recalls i (step s x).aic))
        → count (starts_of i) s (x ∷ xs) ≤ once_on i (chances i) s (x ∷ xs) + one (recalls i s)
    go (inl e) ih = omega (arith, once-first i (chances i) s (x ∷ xs) e, per_source_hot s i (x ∷ xs) h l f a)
    go (inr e) ih = unfold count always in (
        let r = modes_law s x (not_rewritten s x (and_left (steady s x) _ a)) in
        omega (
          arith,
          once-off i (chances i) s x xs e,
          off_law i s x l e,
          ih (fast_forcing s (step s x).aic i r.1 ∙ f) (and_right (steady s x) _ a),
        ))

pub bound_on : (s : Aic) (k : ℕ) (xs : List Step) → Shaped s → k < 32 → always (waits k) s xs ≡ true
    → count (starts_other k) s xs ≤ sum_over (rival_of s k) (λ i. allowed i s xs) + one (carries k s)
unfolding allowed
bound_on s k xs h l w = bound-over s k xs (λ i. once_on i (chances i) s xs) l w (λ i m f. per_source_on i m s xs h f (waits-steady k s xs w))

-- ---- with all of them enabled, and none closed while its line is active

cool-none : (i : ℕ) (s : Aic) (xs : List Step) → always (cool i) s xs ≡ true → count (closes_hot i) s xs ≡ 0
unfolding always count
cool-none i s [] h = refl
cool-none i s (x ∷ xs) h =
    let n : closes_hot i s x ≡ false = unfold cool in (not-true (closes_hot i s x) (and_left (cool i s x) _ h)) in
    omega (arith, ap one n, cool-none i (step s x).aic xs (and_right (cool i s x) _ h))

pub same-levels : (s : Aic) (k : ℕ) (xs : List Step) → AllOn s k → Cool s (rival_of s k) xs → allowed_before s k xs ≡ levels_before s k xs
unfolding allowed chances
same-levels s k xs on cold =
    omega (
      arith,
      over_le (rival_of s k) (λ i. once_on i (chances i) s xs) (λ i. due s i + gained i s xs) (λ i l r. omega (arith, each i l r)),
      over_le (rival_of s k) (λ i. due s i + gained i s xs) (λ i. once_on i (chances i) s xs) (λ i l r. omega (arith, each i l r)),
    )
  where
    each : (i : ℕ) → i < 32 → rival_of s k i ≡ true → once_on i (chances i) s xs ≡ due s i + gained i s xs
    each i l r = once-first i (chances i) s xs (on i l r) ∙ unfold chances in (omega (arith, cool-none i s xs (cold i l r)))
