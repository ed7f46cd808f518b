-- What holds of every run: one induction for each law of a step, and the sum over sources once, at the end.
use Prim.Native.Nat.{ℕ, zero, suc, ◌+◌, ◌≤◌, ◌<◌}
use mathlib.Core.Path.{◌≡◌, refl, sym, ap, ◌∙◌}
use mathlib.Core.Bool.{Bool, true, false, not, ◌&&◌}
use mathlib.Core.List.{List, [], ◌∷◌}
use mathlib.Core.Logic.{◌≢◌, ◌⊎◌, inl, inr, ⊎_elim}
use native.Mathlib.Omega.{arith}
use native.Mathlib.Decide.{ℕ_discrete}
use lib.Dec.{eqb, ltb}
use borrow.Author.Tests.{eq-eqb, ne_eqb, ltb-true, lt-ltb, not-true}
use Rattle.words.specs.Choice.{pick}
use Rattle.words.specs.Counting.{one, sum_below}
use Rattle.words.proofs.ChoiceLaws.{pick_true}
use Rattle.words.proofs.TruthLaws.{and_left, and_right, and_both, clash, told}
use Rattle.words.proofs.CountingLaws.{sum_le, sum-add, sum_at, one_le}
use Rattle.steps.specs.declared.Step.{Step}
use Rattle.aic_record.specs.declared.Aic.{Aic}
use Rattle.aic_record.specs.Mode.{edge}
use Rattle.aic_sources.specs.Fast.{fast}
use Rattle.aic_sources.specs.Normal.{waiting, candidates, chosen}
use Rattle.aic_sources.proofs.HandlerLaws.{candidate-waits, waiting-is}
use Rattle.aic_sources.proofs.OrderLaws.{chosen_is, chosen-ahead}
use Rattle.aic.specs.Model.{step}
use Rattle.aic_runs.specs.Counted.{starts, started_by, recalls, carries, starts_of, starts_other, strays, closes, rewrites, steady, waits}
use Rattle.aic_runs.specs.Runs.{run, count, always, EachStart, owed, received, sum_over}
use Rattle.aic_runs.specs.Promises.{EdgeTriggered, rival_of}
use Rattle.aic_runs.proofs.StepLaws.{modes_law, depth_law, demand, demand-owed, demand_law, lost, stray_law, stray_who, edge_modes, ahead_modes, fast_forcing}

-- ---- the open entries

pub balance : (s : Aic) (xs : List Step) → (run s xs).depth + count closes s xs ≡ s.depth + count starts s xs
unfolding run count
balance s [] = refl
balance s (x ∷ xs) = omega (arith, balance (step s x).aic xs, depth_law s x)

-- ---- what one edge-triggered source starts

pub not_rewritten : (s : Aic) (x : Step) → steady s x ≡ true → rewrites s x ≡ false
unfolding steady
not_rewritten s x h = not-true (rewrites s x) h

pub source_law : (i : ℕ) → i < 32 → (s : Aic) (xs : List Step) → edge s i ≡ true → always steady s xs ≡ true
    → one (demand (run s xs) i) + count (starts_of i) s xs ≤ one (demand s i) + received i s xs
unfolding run count always received
source_law i l s [] e h = omega arith
source_law i l s (x ∷ xs) e h =
    let r = not_rewritten s x (and_left (steady s x) _ h) in
    omega (
      arith,
      demand_law s i l e x r,
      source_law i l (step s x).aic xs (edge_modes s (step s x).aic i (modes_law s x r).0 ∙ e) (and_right (steady s x) _ h),
    )

-- a run that rewrites no mode keeps them
run_modes : (s : Aic) (xs : List Step) → always steady s xs ≡ true → (run s xs).mode ≡ s.mode
unfolding run always
run_modes s [] h = refl
run_modes s (x ∷ xs) h =
    run_modes (step s x).aic xs (and_right (steady s x) _ h) ∙ (modes_law s x (not_rewritten s x (and_left (steady s x) _ h))).0

pub per_source : (i : ℕ) → i < 32 → (s : Aic) (xs : List Step) → edge s i ≡ true → always steady s xs ≡ true
    → count (starts_of i) s xs + owed (run s xs) i ≤ owed s i + received i s xs + one (recalls i s)
per_source i l s xs e h =
    omega (
      arith,
      source_law i l s xs e h,
      (demand-owed s i e).1,
      (demand-owed (run s xs) i (edge_modes s (run s xs) i (run_modes s xs h) ∙ e)).0,
    )

-- ---- sums over some of the sources

pub over_le : (t : ℕ → Bool) (f g : ℕ → ℕ) → ((i : ℕ) → i < 32 → t i ≡ true → f i ≤ g i) → sum_over t f ≤ sum_over t g
unfolding sum_over pick
over_le t f g h = sum_le 32 (λ i. pick (t i) (f i) 0) (λ i. pick (t i) (g i) 0) (λ i l. go i l (t i) refl)
  where
    go : (i : ℕ) → i < 32 → (b : Bool) → t i ≡ b → pick b (f i) 0 ≤ pick b (g i) 0
    go i l true e = h i l e
    go i l false e = omega arith

pub over_add : (t : ℕ → Bool) (f g : ℕ → ℕ) → sum_over t (λ i. f i + g i) ≡ sum_over t f + sum_over t g
unfolding sum_over pick
over_add t f g = ap (sum_below 32) (λ i k. go k (t k) i) ∙ sum-add 32 _ _
  where
    go : (k : ℕ) (b : Bool) → pick b (f k + g k) 0 ≡ pick b (f k) 0 + pick b (g k) 0
    go k true = refl
    go k false = refl

over_at : (t : ℕ → Bool) (f : ℕ → ℕ) (j : ℕ) → j < 32 → t j ≡ true → f j ≤ sum_over t f
unfolding sum_over
over_at t f j l e =
    let p : f j ≡ pick (t j) (f j) 0 = pick_true 0 e in
    omega (arith, p, sum_at 32 (λ i. pick (t i) (f i) 0) j l)

-- ---- the starts of other sources than k: of sources that pass a test, and the others

module _ (k : ℕ) (t : ℕ → Bool) where
  -- one start is counted for its source, or as one of the others
  start-over : (s : Aic) (x : Step) → one (starts_other k s x) ≤ sum_over t (λ i. one (starts_of i s x)) + one (strays t k s x)
  unfolding strays starts_other starts_of
  start-over s x = go (ltb (started_by s x) 32) refl (eqb k (started_by s x)) (t (started_by s x)) refl
    where
      go : (b : Bool) → ltb (started_by s x) 32 ≡ b → (c d : Bool) → t (started_by s x) ≡ d
          → one (b && not c) ≤ sum_over t (λ i. one (eqb i (started_by s x))) + one (b && not c && not d)
      go false e c d f = omega arith
      go true e true d f = omega arith
      go true e false false f = omega arith
      go true e false true f =
          let l : started_by s x < 32 = ltb-true (started_by s x) 32 e in
          let o : one (eqb (started_by s x) (started_by s x)) ≡ 1 = ap one (eq-eqb (started_by s x) (started_by s x) refl) in
          omega (arith, o, over_at t (λ i. one (eqb i (started_by s x))) (started_by s x) l f)

  pub starts-over : (s : Aic) (xs : List Step) → count (starts_other k) s xs ≤ sum_over t (λ i. count (starts_of i) s xs) + count (strays t k) s xs
  unfolding count
  starts-over s [] = omega arith
  starts-over s (x ∷ xs) =
      omega (
        arith,
        start-over s x,
        starts-over (step s x).aic xs,
        over_add t (λ i. one (starts_of i s x)) (λ i. count (starts_of i) (step s x).aic xs),
      )

  -- what is remembered is one source: it passes, or it is lost, or it is k, which does not pass
  once : (n j : ℕ) → (n ≤ j → sum_below n (λ i. pick (t i) (one (eqb i j)) 0) ≡ 0) × (sum_below n (λ i. pick (t i) (one (eqb i j)) 0) ≤ one (t j))
  unfolding sum_below pick
  once zero j = (λ _. refl, omega arith)
  once (suc n) j = go (ℕ_discrete n j) (once n j)
    where
      none : (b : Bool) → eqb n j ≡ false → pick b (one (eqb n j)) 0 ≡ 0
      none true e = rw e
      none false e = refl

      some : (b : Bool) → pick b (one (eqb n j)) 0 ≤ one b
      some true = omega (arith, one_le (eqb n j))
      some false = omega arith

      go : Dec (n ≡ j) → (n ≤ j → sum_below n (λ i. pick (t i) (one (eqb i j)) 0) ≡ 0) × (sum_below n (λ i. pick (t i) (one (eqb i j)) 0) ≤ one (t j))
          → (suc n ≤ j → sum_below n (λ i. pick (t i) (one (eqb i j)) 0) + pick (t n) (one (eqb n j)) 0 ≡ 0)
          × (sum_below n (λ i. pick (t i) (one (eqb i j)) 0) + pick (t n) (one (eqb n j)) 0 ≤ one (t j))
      go (yes e) h = (λ l. absurd (omega arith), omega (arith, h.0 (omega arith), some (t n), ap (λ (i : ℕ). one (t i)) e))
      go (no d) h = (λ l. omega (arith, h.0 (omega arith), none (t n) (ne_eqb n j d)), omega (arith, h.1, none (t n) (ne_eqb n j d)))

  nothing : (n : ℕ) → sum_below n (λ i. pick (t i) 0 0) ≡ 0
  unfolding sum_below pick
  nothing zero = refl
  nothing (suc n) = go (t n) (nothing n)
    where
      go : (b : Bool) → sum_below n (λ i. pick (t i) 0 0) ≡ 0 → sum_below n (λ i. pick (t i) 0 0) + pick b 0 0 ≡ 0
      go true e = omega arith
      go false e = omega arith

  pub remembered_once : (s : Aic) → t k ≡ false → sum_over t (λ i. one (recalls i s)) + one (lost t k s) ≤ one (carries k s)
  unfolding recalls lost carries sum_over
  remembered_once s z = go (eqb s.seen.what 1)
    where
      last : Dec (k ≡ s.seen.source) → (b : Bool) → t s.seen.source ≡ b → one b + one (not (eqb k s.seen.source) && not b) ≤ one (not (eqb k s.seen.source))
      last (yes e) true f = clash f (ap t (sym e) ∙ z)
      last (yes e) false f = rw (eq-eqb k s.seen.source e) (omega arith)
      last (no d) true f = rw (ne_eqb k s.seen.source d) (omega arith)
      last (no d) false f = rw (ne_eqb k s.seen.source d) (omega arith)

      go : (b : Bool) → sum_below 32 (λ i. pick (t i) (one (b && eqb i s.seen.source)) 0) + one (b && (not (eqb k s.seen.source) && not (t s.seen.source)))
          ≤ one (b && not (eqb k s.seen.source))
      go true = omega (arith, (once 32 s.seen.source).1, last (ℕ_discrete k s.seen.source) (t s.seen.source) refl)
      go false = omega (arith, nothing 32)

  -- and each source starts no more than it is owed and receives, and one more if it is remembered
  pub bound-over : (s : Aic) (xs : List Step) → t k ≡ false → count (strays t k) s xs ≤ one (lost t k s) → always steady s xs ≡ true → EdgeTriggered s t
      → count (starts_other k) s xs ≤ sum_over t (λ i. owed s i + received i s xs) + one (carries k s)
  bound-over s xs z h a e =
      omega (
        arith,
        h,
        starts-over s xs,
        remembered_once s z,
        over_add t (λ i. owed s i + received i s xs) (λ i. one (recalls i s)),
        over_le t (λ i. count (starts_of i) s xs) (λ i. owed s i + received i s xs + one (recalls i s))
            (λ i l p. omega (arith, source_law i l s xs (e i l p) a, (demand-owed s i (e i l p)).1)),
      )

-- ---- who is started while source k waits

-- what is lost is a source other than k
lost-carried : (t : ℕ → Bool) (k : ℕ) (s : Aic) → lost t k s ≡ true → carries k s ≡ true
unfolding lost carries
lost-carried t k s e =
    and_both (and_left (eqb s.seen.what 1) _ e) (and_left (not (eqb k s.seen.source)) _ (and_right (eqb s.seen.what 1) _ e))

pub lost_le : (t : ℕ → Bool) (k : ℕ) (s : Aic) → one (lost t k s) ≤ one (carries k s)
lost_le t k s = go (lost t k s) (carries k s) (lost-carried t k s)
  where
    go : (a b : Bool) → (a ≡ true → b ≡ true) → one a ≤ one b
    go true b h = rw (h refl) (omega arith)
    go false b h = omega arith

-- what is chosen is not fast
chosen-normal : (s : Aic) → candidates s ≡ true → fast s (chosen s) ≡ false
chosen-normal s c = (waiting-is s (chosen s) (candidate-waits s (chosen s) (chosen_is s c).fit)).2

module _ (s : Aic) (k : ℕ) (small : k < 32) where
  -- what is chosen in a record with the modes and the forcing of s is k or a rival of k
  step_rival : (u : Aic) → u.mode ≡ s.mode → u.forced ≡ s.forced → waiting u k ≡ true → candidates u ≡ true → chosen u ≢ k → rival_of s k (chosen u) ≡ true
  step_rival u m f w c d =
      and_both (sym (ahead_modes s u (chosen u) k m) ∙ chosen-ahead u k small w c d) (ap not (sym (fast_forcing s u (chosen u) f) ∙ chosen-normal u c))

  -- a test that every rival passes
  module _ (t : ℕ → Bool) (wide : (j : ℕ) → rival_of s k j ≡ true → t j ≡ true) where
    fair : (u : Aic) → u.mode ≡ s.mode → u.forced ≡ s.forced → waiting u k ≡ true → candidates u ≡ true → chosen u ≢ k → t (chosen u) ≡ true
    fair u m f w c d = wide (chosen u) (step_rival u m f w c d)

    -- at most one start is of none that passes: that of what is remembered
    stray_bound : (u : Aic) (xs : List Step) → u.mode ≡ s.mode → u.forced ≡ s.forced → always (waits k) u xs ≡ true → count (strays t k) u xs ≤ one (lost t k u)
    unfolding always count waits
    stray_bound u [] m f w = omega arith
    stray_bound u (x ∷ xs) m f w =
        let h = and_left (waits k u x) (always (waits k) (step u x).aic xs) w in
        let r = modes_law u x (not_rewritten u x (and_right (waiting u k) (steady u x) h)) in
        omega (
          arith,
          stray_law t k u (fair u m f (and_left (waiting u k) (steady u x) h)) x,
          stray_bound (step u x).aic xs (r.0 ∙ m) (r.1 ∙ f) (and_right (waits k u x) (always (waits k) (step u x).aic xs) w),
        )

    -- and every other start passes
    passes : (u : Aic) (x : Step) → started_by u x < 32 → started_by u x ≢ k → (t (started_by u x) ≡ true) ⊎ (strays t k u x ≡ true)
    unfolding strays starts_other starts_of
    passes u x l d = go (told (t (started_by u x)))
      where
        go : (t (started_by u x) ≡ true) ⊎ (t (started_by u x) ≡ false)
            → (t (started_by u x) ≡ true) ⊎ ((ltb (started_by u x) 32 && not (eqb k (started_by u x)) && not (t (started_by u x))) ≡ true)
        go (inl e) = inl e
        go (inr e) = inr (rw (lt-ltb (started_by u x) 32 l, ne_eqb k (started_by u x) (λ q. d (sym q)), e))

    each_who : (who : ℕ) (u : Aic) (xs : List Step) → u.mode ≡ s.mode → u.forced ≡ s.forced → always (waits k) u xs ≡ true
        → (lost t k u ≡ true → (carries k s ≡ true) × (u.seen.source ≡ who))
        → EachStart (λ j. j ≢ k → (t j ≡ true) ⊎ ((carries k s ≡ true) × (j ≡ who))) u xs
    unfolding always EachStart waits
    each_who who u [] m f w g = tt
    each_who who u (x ∷ xs) m f w g =
        let h = and_left (waits k u x) (always (waits k) (step u x).aic xs) w in
        let r = modes_law u x (not_rewritten u x (and_right (waiting u k) (steady u x) h)) in
        let q = stray_who t k u (fair u m f (and_left (waiting u k) (steady u x) h)) x in
        let b = stray_law t k u (fair u m f (and_left (waiting u k) (steady u x) h)) x in (
          λ l d. ⊎_elim (λ (e : t (started_by u x) ≡ true). inl e)
              (λ (e : strays t k u x ≡ true). let p = g (was (lost t k u) (strays t k u x) e (omega (arith, b))) in inr (p.0, q.1 e ∙ p.1)) (passes u x l d),
          each_who who (step u x).aic xs (r.0 ∙ m) (r.1 ∙ f) (and_right (waits k u x) (always (waits k) (step u x).aic xs) w)
              (λ e. let p = g (was (lost t k u) (lost t k (step u x).aic) e (omega (arith, b))) in (p.0, q.0 e ∙ p.1)),
        )
      where
        was : (a b : Bool) → b ≡ true → one b ≤ one a → a ≡ true
        was true b e l = refl
        was false b e l = absurd (omega (arith, ap one e))

    pub wide_order : (xs : List Step) → always (waits k) s xs ≡ true → count (strays t k) s xs ≤ one (lost t k s)
    wide_order xs w = stray_bound s xs refl refl w

    pub wide_who : (xs : List Step) → always (waits k) s xs ≡ true → EachStart (λ j. j ≢ k → (t j ≡ true) ⊎ ((carries k s ≡ true) × (j ≡ s.seen.source))) s xs
    wide_who xs w = each_who s.seen.source s xs refl refl w (λ e. (lost-carried t k s e, refl))

-- ---- weaker conclusions, weaker premises

pub each_start : (P Q : ℕ → Type 0) → ((j : ℕ) → P j → Q j) → (s : Aic) (xs : List Step) → EachStart P s xs → EachStart Q s xs
unfolding EachStart
each_start P Q f s [] h = tt
each_start P Q f s (x ∷ xs) h = (λ l. f (started_by s x) (h.0 l), each_start P Q f (step s x).aic xs h.1)

pub waits-steady : (k : ℕ) (s : Aic) (xs : List Step) → always (waits k) s xs ≡ true → always steady s xs ≡ true
unfolding always waits
waits-steady k s [] h = refl
waits-steady k s (x ∷ xs) h =
    and_both (and_right (waiting s k) (steady s x) (and_left (waits k s x) (always (waits k) (step s x).aic xs) h))
    (waits-steady k (step s x).aic xs (and_right (waits k s x) (always (waits k) (step s x).aic xs) h))
