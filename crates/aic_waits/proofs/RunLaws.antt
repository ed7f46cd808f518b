-- The figures of each source, step by step, are their definitions over the run.
use Prim.Native.Nat.{ℕ, zero, suc, ◌+◌, ◌-◌, ◌≤◌, ◌<◌, max}
use mathlib.Core.Path.{◌≡◌, refl, sym, ap, ap₂, ◌∙◌}
use mathlib.Core.Bool.{Bool, not, ◌&&◌}
use mathlib.Core.List.{List, [], ◌∷◌}
use native.Mathlib.Omega.{arith}
use native.Mathlib.Decide.{ℕ_discrete}
use lib.Dec.{eqb, ltb}
use lib.ListN.{get_or, set, length, length-set}
use lib.Seq.{get_or-set_other, get_or-set_same}
use Rattle.words.specs.Counting.{one, upto}
use Rattle.words.proofs.CountingLaws.{one_le}
use Rattle.words.proofs.ChoiceLaws.{pick_cases}
use Rattle.steps.specs.declared.Step.{Step}
use Rattle.aic_record.specs.declared.Aic.{Aic}
use Rattle.aic_sources.specs.Normal.{waiting}
use Rattle.aic.specs.Model.{step}
use Rattle.aic_runs.specs.Counted.{started_by, starts_of, starts_other}
use Rattle.aic_runs.specs.Runs.{count}
use Rattle.aic_waits.specs.Figures.{wait_next, wait_after, wait_most, is_open, entries_now, entries_most}
use Rattle.aic_waits.specs.Following.{Figures, capped, figures_with, figures_by, followed, figures_over}
use Rattle.aic_waits.proofs.FigureLaws.{capped_is}

-- ---- a table in which each turn puts one place anew

module _ (F : Figures → ℕ → Figures) (p : Figures → List ℕ) (g : Figures → ℕ → ℕ) (put : (f : Figures) (i : ℕ) → p (F f i) ≡ set (p f) i (g f i)) where
  turns-length : (f : Figures) (n : ℕ) → length (p (upto F f n)) ≡ length (p f)
  unfolding upto
  turns-length f zero = refl
  turns-length f (suc n) = ap length (put (upto F f n) n) ∙ length-set (p (upto F f n)) n _ ∙ turns-length f n

  -- a place from n on is as it was, one below n is put anew
  turns-past : (f : Figures) (n i : ℕ) → n ≤ i → get_or (p (upto F f n)) i 0 ≡ get_or (p f) i 0
  unfolding upto
  turns-past f zero i l = refl
  turns-past f (suc n) i l =
      ap (λ (a : List ℕ). get_or a i 0) (put (upto F f n) n) ∙ get_or-set_other (p (upto F f n)) n i _ 0 (λ e. absurd (omega (arith, e, l))) ∙ turns-past f n i (omega arith)

  turns_at : (f : Figures) (n i : ℕ) → n ≤ length (p f) → i < n → get_or (p (upto F f n)) i 0 ≡ g (upto F f i) i
  unfolding upto
  turns_at f zero i m l = absurd (omega arith)
  turns_at f (suc n) i m l = ap (λ (a : List ℕ). get_or a i 0) (put (upto F f n) n) ∙ go (ℕ_discrete i n) (turns_at f n i (omega arith))
    where
      go : Dec (i ≡ n) → (i < n → get_or (p (upto F f n)) i 0 ≡ g (upto F f i) i) → get_or (set (p (upto F f n)) n (g (upto F f n) n)) i 0 ≡ g (upto F f i) i
      go (yes e) ih = rw e (get_or-set_same (p (upto F f n)) n _ 0 (omega (arith, turns-length f n, m)))
      go (no d) ih = get_or-set_other (p (upto F f n)) n i _ 0 d ∙ ih (omega arith)

-- ---- one step, one source

-- the arrays have their lengths
abbrev pub Whole : Figures → Type 0
Whole f = (length f.started ≡ 32) × (length f.wait ≡ 32) × (length f.waited ≡ 32) × (length f.entries ≡ 32)

module _ (f : Figures) (s : Aic) (x : Step) where
  abbrev F : Figures → ℕ → Figures
  F = figures_with (started_by s x) (waiting (step s x).aic) (is_open (step s x).aic) (step s x).aic.depth

  abbrev gs : Figures → ℕ → ℕ
  gs h i = capped (get_or h.started i 0 + one (eqb i (started_by s x)))

  abbrev gw : Figures → ℕ → ℕ
  gw h i = capped (wait_next (get_or h.wait i 0) (waiting (step s x).aic i) (eqb i (started_by s x)) (ltb (started_by s x) 32 && not (eqb i (started_by s x))))

  abbrev gm : Figures → ℕ → ℕ
  gm h i = max (get_or h.waited i 0) (gw h i - 2)

  abbrev ge : Figures → ℕ → ℕ
  ge h i = max (get_or h.entries i 0) (entries_now (step s x).aic i)

  pub whole-followed : Whole f → Whole (followed f s x)
  unfolding followed figures_by
  whole-followed w = (
    turns-length F (λ h. h.started) gs (λ h i. refl) f 32 ∙ w.0,
    turns-length F (λ h. h.wait) gw (λ h i. refl) f 32 ∙ w.1,
    turns-length F (λ h. h.waited) gm (λ h i. refl) f 32 ∙ w.2,
    turns-length F (λ h. h.entries) ge (λ h i. refl) f 32 ∙ w.3,
  )

  module _ (w : Whole f) (i : ℕ) (l : i < 32) where
    pub started-followed : get_or (followed f s x).started i 0 ≡ capped (get_or f.started i 0 + one (starts_of i s x))
    unfolding followed figures_by starts_of
    started-followed =
        turns_at F (λ h. h.started) gs (λ h i. refl) f 32 i (omega (arith, w.0)) l
        ∙ ap (λ (n : ℕ). capped (n + one (eqb i (started_by s x)))) (turns-past F (λ h. h.started) gs (λ h i. refl) f i i (omega arith))

    pub wait-followed : get_or (followed f s x).wait i 0 ≡ capped (wait_after i (get_or f.wait i 0) s x)
    unfolding followed figures_by starts_of starts_other
    wait-followed =
        turns_at F (λ h. h.wait) gw (λ h i. refl) f 32 i (omega (arith, w.1)) l
        ∙ ap (λ (n : ℕ). capped (wait_next n (waiting (step s x).aic i) (eqb i (started_by s x)) (ltb (started_by s x) 32 && not (eqb i (started_by s x))))) (turns-past F (λ h. h.wait) gw (λ h i. refl) f i i (omega arith))

    pub waited-followed : get_or (followed f s x).waited i 0 ≡ max (get_or f.waited i 0) (capped (wait_after i (get_or f.wait i 0) s x) - 2)
    unfolding followed figures_by starts_of starts_other
    waited-followed =
        turns_at F (λ h. h.waited) gm (λ h i. refl) f 32 i (omega (arith, w.2)) l
        ∙ ap₂ (λ (m n : ℕ). max m (capped (wait_next n (waiting (step s x).aic i) (eqb i (started_by s x)) (ltb (started_by s x) 32 && not (eqb i (started_by s x)))) - 2))
        (turns-past F (λ h. h.waited) gm (λ h i. refl) f i i (omega arith)) (turns-past F (λ h. h.wait) gw (λ h i. refl) f i i (omega arith))

    pub entries-followed : get_or (followed f s x).entries i 0 ≡ max (get_or f.entries i 0) (entries_now (step s x).aic i)
    unfolding followed figures_by
    entries-followed =
        turns_at F (λ h. h.entries) ge (λ h i. refl) f 32 i (omega (arith, w.3)) l
        ∙ ap (λ (n : ℕ). max n (entries_now (step s x).aic i)) (turns-past F (λ h. h.entries) ge (λ h i. refl) f i i (omega arith))

-- ---- a run

pub wait-most : (w : ℕ) (waits own other : Bool) → wait_next w waits own other ≤ w + 2
unfolding wait_next
wait-most w waits own other =
    pick_cases (λ n. n ≤ w + 2) (not waits) (λ _. omega arith)
    (λ _. pick_cases (λ n. n ≤ w + 2) own (λ _. omega arith)
    (λ _. pick_cases (λ n. n ≤ w + 2) (eqb w 0) (λ _. omega arith) (λ _. omega (arith, one_le (ltb 1 w && other)))))

module _ (i : ℕ) (l : i < 32) where
  pub started-run : (f : Figures) (s : Aic) (xs : List Step) → Whole f → get_or f.started i 0 + length xs ≤ 4294967295
      → get_or (figures_over f s xs).started i 0 ≡ get_or f.started i 0 + count (starts_of i) s xs
  unfolding figures_over count
  started-run f s [] w m = omega arith
  started-run f s (x ∷ xs) w m =
      let e : get_or (followed f s x).started i 0 ≡ get_or f.started i 0 + one (starts_of i s x) =
      started-followed f s x w i l ∙ sym (capped_is _ (omega (arith, m, one_le (starts_of i s x)))) in
      started-run (followed f s x) (step s x).aic xs (whole-followed f s x w) (omega (arith, e, m, one_le (starts_of i s x))) ∙ omega (arith, e)

  pub entries-run : (f : Figures) (s : Aic) (xs : List Step) → Whole f → get_or (figures_over f s xs).entries i 0 ≡ entries_most i (get_or f.entries i 0) s xs
  unfolding figures_over entries_most
  entries-run f s [] w = refl
  entries-run f s (x ∷ xs) w =
      entries-run (followed f s x) (step s x).aic xs (whole-followed f s x w) ∙ ap (λ (m : ℕ). entries_most i m (step s x).aic xs) (entries-followed f s x w i l)

  pub waited-run : (f : Figures) (s : Aic) (xs : List Step) → Whole f → get_or f.wait i 0 + length xs + length xs ≤ 4294967295
      → get_or (figures_over f s xs).waited i 0 ≡ wait_most i (get_or f.wait i 0) (get_or f.waited i 0) s xs
  unfolding figures_over wait_most
  waited-run f s [] w m = refl
  waited-run f s (x ∷ xs) w m =
      let k = wait_after i (get_or f.wait i 0) s x in
      let b = wait-most (get_or f.wait i 0) (waiting (step s x).aic i) (starts_of i s x) (starts_other i s x) in
      let c : k ≡ capped k = capped_is k (omega (arith, m, b)) in
      let e : get_or (followed f s x).wait i 0 ≡ k = wait-followed f s x w i l ∙ sym c in
      let g : get_or (followed f s x).waited i 0 ≡ max (get_or f.waited i 0) (k - 2) = waited-followed f s x w i l ∙ ap (λ (n : ℕ). max (get_or f.waited i 0) (n - 2)) (sym c) in
      waited-run (followed f s x) (step s x).aic xs (whole-followed f s x w) (omega (arith, e, m, b)) ∙ ap₂ (λ (a b : ℕ). wait_most i a b (step s x).aic xs) e g
