-- What is seen of a run, brought down to its records.
use Prim.Native.Nat.{ℕ, ◌+◌, ◌<◌}
use mathlib.Core.Path.{◌≡◌, refl, sym, ap, ◌∙◌}
use mathlib.Core.Bool.{true, false, ◌&&◌}
use mathlib.Core.List.{List, [], ◌∷◌, ◌++◌}
use mathlib.Core.Logic.{◌↔◌, ◌≢◌, ◌⊎◌, inl, inr}
use native.Mathlib.Omega.{arith}
use lib.Dec.{eqb, ltb}
use lib.ListN.{get_or, length}
use borrow.Author.Tests.{eq-eqb, eqb-true, lt-ltb, ltb-true}
use Rattle.words.specs.Choice.{pick}
use Rattle.words.specs.Word.{bit}
use Rattle.words.proofs.ChoiceLaws.{pick_true, pick-false}
use Rattle.words.proofs.TruthLaws.{told, clash, and_left, and_right, and_both, or-either, or_left, or_right}
use Rattle.words.proofs.WordLaws.{bit-either}
use Rattle.steps.specs.declared.Step.{Step}
use Rattle.steps.specs.declared.Step.TheVariants.{Read, Write, Line}
use Rattle.aic_record.specs.declared.Aic.{Aic}
use Rattle.aic_registers.specs.Map.{eoicr}
use Rattle.aic.specs.Model.{step}
use Rattle.aic_runs.specs.Counted.{carried}
use Rattle.aic_runs.specs.Runs.{run}
use Rattle.stack.specs.declared.Table.{Table}
use Rattle.stack.specs.Kept.{keeps, unkept, keeps_along}
use Rattle.stack.proofs.KeptLaws.{unkept-is, unkept-none}
use Rattle.sheet_traces.specs.Watched.{opens_mark, idle_end, used_in, strays_in, astray_from}
use Rattle.sheet_traces.specs.Left.{Left}

-- ---- one step

pub mark_exactly : (s : Aic) (x : Step) → (opens_mark s x ≡ true) ↔ ((s.depth < (step s x).aic.depth) × (get_or (step s x).aic.source s.depth 0 ≡ 0))
unfolding opens_mark
mark_exactly s x =
    let p = ltb s.depth (step s x).aic.depth in
    let q = eqb (get_or (step s x).aic.source s.depth 0) 0 in (
      (λ e. (ltb-true s.depth (step s x).aic.depth (and_left p q e), eqb-true (get_or (step s x).aic.source s.depth 0) 0 (and_right p q e))),
      (λ h. and_both (lt-ltb s.depth (step s x).aic.depth h.0) (eq-eqb (get_or (step s x).aic.source s.depth 0) 0 h.1)),
    )

idle-told : (s : Aic) (x : Step) → idle_end s x ≡ true → (v : ℕ) × (x ≡ Write 0x130 v) × ((step s x).refusal ≡ 0) × (s.depth ≡ 0)
unfolding idle_end carried
idle-told s (Read o) e = clash e refl
idle-told s (Line k l) e = clash e refl
idle-told s (Write o v) e =
    let c = eqb (step s (Write o v)).refusal 0 in
    let d = eqb s.depth 0 in
    let a = and_left (c && eqb o eoicr) d e in
    let o_is = eqb-true o eoicr (and_right c (eqb o eoicr) a) in
    (v, ap (λ (p : ℕ). Write p v) o_is, eqb-true (step s (Write o v)).refusal 0 (and_left c (eqb o eoicr) a), eqb-true s.depth 0 (and_right (c && eqb o eoicr) d e))

told-idle : (s : Aic) (v : ℕ) → (step s (Write 0x130 v)).refusal ≡ 0 → s.depth ≡ 0 → idle_end s (Write 0x130 v) ≡ true
unfolding idle_end carried
told-idle s v r d = and_both (and_both (eq-eqb (step s (Write 0x130 v)).refusal 0 r) (eq-eqb 0x130 eoicr refl)) (eq-eqb s.depth 0 d)

pub idle_exactly : (s : Aic) (x : Step) → (idle_end s x ≡ true) ↔ ((v : ℕ) × (x ≡ Write 0x130 v) × ((step s x).refusal ≡ 0) × (s.depth ≡ 0))
idle_exactly s x = (
  idle-told s x,
  (λ h. ap (idle_end s) h.1 ∙ told-idle s h.0 (ap (λ (y : Step). (step s y).refusal) (sym h.1) ∙ h.2) h.3),
)

-- ---- the sources used

abbrev Enabled : Aic → List Step → ℕ → Type 0
Enabled s xs i = (ys : List Step) × (zs : List Step) × (xs ≡ ys ++ zs) × (bit (run s ys).enabled i ≡ true)

used-some : (s : Aic) (xs : List Step) (i : ℕ) → i < 32 → bit (used_in s xs) i ≡ true → Enabled s xs i
unfolding used_in run
used-some s [] i l e = ([], [], refl, e)
used-some s (x ∷ xs) i l e =
    go (or-either (bit s.enabled i) (bit (used_in (step s x).aic xs) i) (sym (bit-either s.enabled (used_in (step s x).aic xs) i l) ∙ e)) (used-some (step s x).aic xs i l)
  where
    go : (bit s.enabled i ≡ true) ⊎ (bit (used_in (step s x).aic xs) i ≡ true) → (bit (used_in (step s x).aic xs) i ≡ true → Enabled (step s x).aic xs i) → Enabled s (x ∷ xs) i
    go (inl h) rest = ([], x ∷ xs, refl, h)
    go (inr h) rest = let r = rest h in (x ∷ r.0, r.1, ap (λ (us : List Step). x ∷ us) r.2, r.3)

some_used : (s : Aic) (ys zs : List Step) (i : ℕ) → i < 32 → bit (run s ys).enabled i ≡ true → bit (used_in s (ys ++ zs)) i ≡ true
unfolding used_in run
some_used s [] [] i l e = e
some_used s [] (z ∷ zs) i l e = bit-either s.enabled (used_in (step s z).aic zs) i l ∙ or_left (bit (used_in (step s z).aic zs) i) e
some_used s (y ∷ ys) zs i l e = bit-either s.enabled (used_in (step s y).aic (ys ++ zs)) i l ∙ or_right (bit s.enabled i) (some_used (step s y).aic ys zs i l e)

pub used_exactly : (s : Aic) (xs : List Step) (i : ℕ) → i < 32 → (bit (used_in s xs) i ≡ true) ↔ Enabled s xs i
used_exactly s xs i l = (used-some s xs i l, λ h. ap (λ (us : List Step). bit (used_in s us) i) h.2 ∙ some_used s h.0 h.1 i l h.3)

-- ---- the table

module _ (t : Table) where
  pub strays-keep : (s : Aic) (xs : List Step) → strays_in t s xs ≡ 32 → keeps_along t s xs ≡ true
  unfolding strays_in keeps_along
  strays-keep s [] e = (unkept-none t s).1 e
  strays-keep s (x ∷ xs) e = go (told (keeps t s)) (strays-keep (step s x).aic xs)
    where
      go : (keeps t s ≡ true) ⊎ (keeps t s ≡ false) → (strays_in t (step s x).aic xs ≡ 32 → keeps_along t (step s x).aic xs ≡ true)
          → (keeps t s && keeps_along t (step s x).aic xs) ≡ true
      go (inl h) rest = and_both h (rest (pick_true _ h ∙ e))
      go (inr h) rest = clash ((unkept-none t s).1 (pick-false _ h ∙ e)) h

  keep-strays : (s : Aic) (xs : List Step) → keeps_along t s xs ≡ true → strays_in t s xs ≡ 32
  unfolding strays_in keeps_along
  keep-strays s [] e = (unkept-none t s).0 e
  keep-strays s (x ∷ xs) e =
      sym (pick_true _ (and_left (keeps t s) (keeps_along t (step s x).aic xs) e)) ∙ keep-strays (step s x).aic xs (and_right (keeps t s) (keeps_along t (step s x).aic xs) e)

  pub strays-none : (s : Aic) (xs : List Step) → (strays_in t s xs ≡ 32) ↔ (keeps_along t s xs ≡ true)
  strays-none s xs = (strays-keep s xs, keep-strays s xs)

  -- the run leaves the table at once
  at_once : (n : ℕ) (s : Aic) (xs : List Step) → keeps t s ≡ false → (unkept t s < 32) × Left t s xs (unkept t s) n n
  unfolding run
  at_once n s xs h = (
    (unkept-is t s h).0,
    record { steps = []; rest = xs; parts = refl; number = omega arith; breaks = h; source = refl; before = λ ys z zs e. absurd (empty ys z zs e) },
  )
    where
      empty : (ys : List Step) (z : Step) (zs : List Step) → ◌≡◌ {A = List Step} [] (ys ++ (z ∷ zs)) → ⊥
      empty [] z zs e = omega (arith, ap length e)
      empty (y ∷ ys) z zs e = omega (arith, ap length e)

  -- or after a step that keeps it
  later : (n : ℕ) (s : Aic) (x : Step) (xs : List Step) (i after : ℕ) → keeps t s ≡ true → Left t (step s x).aic xs i (n + 1) after → Left t s (x ∷ xs) i n after
  unfolding run
  later n s x xs i after h l =
      record {
        steps = x ∷ l.steps;
        rest = l.rest;
        parts = ap (λ (us : List Step). x ∷ us) l.parts;
        number = omega (arith, l.number);
        breaks = l.breaks;
        source = l.source;
        before = before;
      }
    where
      before : (ys : List Step) (z : Step) (zs : List Step) → x ∷ l.steps ≡ ys ++ (z ∷ zs) → keeps t (run s ys) ≡ true
      before [] z zs e = h
      before (y ∷ ys) z zs e = ap (λ (u : Step). keeps t (run (step s u).aic ys)) (sym (head-is e)) ∙ l.before ys z zs (tail-is e)
        where
          head-is : x ∷ l.steps ≡ y ∷ (ys ++ (z ∷ zs)) → x ≡ y
          head-is e = ap (λ (us : List Step). head_or us) e
            where
              head_or : List Step → Step
              head_or [] = x
              head_or (u ∷ us) = u

          tail-is : x ∷ l.steps ≡ y ∷ (ys ++ (z ∷ zs)) → l.steps ≡ ys ++ (z ∷ zs)
          tail-is e = ap (λ (us : List Step). tail_of us) e
            where
              tail_of : List Step → List Step
              tail_of [] = []
              tail_of (u ∷ us) = us

  pub strays-some : (n : ℕ) (s : Aic) (xs : List Step) → strays_in t s xs ≢ 32 → (strays_in t s xs < 32) × Left t s xs (strays_in t s xs) n (astray_from t n s xs)
  unfolding strays_in astray_from pick
  strays-some n s [] d = go (told (keeps t s))
    where
      go : (keeps t s ≡ true) ⊎ (keeps t s ≡ false) → (unkept t s < 32) × Left t s [] (unkept t s) n (pick (keeps t s) 0 n)
      go (inl h) = absurd (d ((unkept-none t s).0 h))
      go (inr h) = rw (h) (at_once n s [] h)
  strays-some n s (x ∷ xs) d = go (told (keeps t s)) (strays-some (n + 1) (step s x).aic xs)
    where
      go : (keeps t s ≡ true) ⊎ (keeps t s ≡ false)
          → (strays_in t (step s x).aic xs ≢ 32 → (strays_in t (step s x).aic xs < 32) × Left t (step s x).aic xs (strays_in t (step s x).aic xs) (n + 1) (astray_from t (n + 1) (step s x).aic xs))
          → (pick (keeps t s) (strays_in t (step s x).aic xs) (unkept t s) < 32)
          × Left t s (x ∷ xs) (pick (keeps t s) (strays_in t (step s x).aic xs) (unkept t s)) n (pick (keeps t s) (astray_from t (n + 1) (step s x).aic xs) n)
      go (inl h) rest = let r = rest (λ z. d (sym (pick_true _ h) ∙ z)) in rw (h) (r.0, later n s x xs _ _ h r.1)
      go (inr h) rest = rw (h) (at_once n s (x ∷ xs) h)
