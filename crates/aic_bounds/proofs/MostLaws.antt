-- The largest bound of a run is that of one of its waits, and no wait has more; where all have one it bounds what was seen.
use Prim.Native.Nat.{ℕ, ◌+◌, ◌-◌, ◌≤◌, ◌<◌, max}
use mathlib.Core.Path.{◌≡◌, refl, sym, ap, ap₂, ◌∙◌, subst}
use mathlib.Core.Bool.{Bool, true, false, not, ◌&&◌, and-false}
use mathlib.Core.List.{List, [], ◌∷◌, ◌++◌, append-nil, append_assoc}
use mathlib.Core.Logic.{◌≢◌, ◌⊎◌, inl, inr}
use native.Mathlib.Omega.{arith}
use native.Mathlib.Decide.{ℕ_discrete, dec_lt}
use lib.Dec.{eqb, ltb}
use lib.ListN.{length, length-append}
use borrow.Author.Tests.{eqb-true, eq-eqb, ne_eqb, ltb-true, lt-ltb, le-ltb}
use Rattle.words.specs.Choice.{pick}
use Rattle.words.specs.Counting.{one}
use Rattle.words.proofs.ChoiceLaws.{pick_cases}
use Rattle.words.proofs.TruthLaws.{and_left, and_right, and_both, clash}
use Rattle.steps.specs.declared.Step.{Step}
use Rattle.aic_record.specs.declared.Aic.{Aic}
use Rattle.aic_record.specs.Promises.{Shaped}
use Rattle.aic_sources.specs.Normal.{waiting}
use Rattle.aic.specs.Model.{step}
use Rattle.aic_runs.specs.Counted.{starts_of, starts_other, rewrites, steady}
use Rattle.aic_runs.specs.Runs.{run, always}
use Rattle.aic_waits.specs.Figures.{wait_next, wait_after, wait_most, waited_of}
use Rattle.aic_bounds.specs.declared.Bound.{Bound}
use Rattle.aic_bounds.specs.Bounds.{idle, fresh, grown, bound_after, bound_over, bound_at, bound_of}
use Rattle.aic_bounds.specs.Over.{bounds, with_bound, most_over, bounded_of, begun_over, waits_begun, loses, unbounded_over, waits_unbounded}
use Rattle.aic_bounds.specs.Promises.{outset, Waiting, Ends, Whole}
use Rattle.aic_bounds.proofs.StepLaws.{next_on, step_cases, after-wait, over_append}
use Rattle.aic_bounds.proofs.TermLaws.{stuck_here, terms_of, wait_where, every-moment}

-- ---- the bound of the wait that stands

pub bounds-is : (b : Bound) → bounds b ≡ true → (2 ≤ b.wait) × (b.broke ≡ 0)
unfolding bounds
bounds-is b h = (ltb-true 1 b.wait (and_left (ltb 1 b.wait) _ h), eqb-true b.broke 0 (and_right (ltb 1 b.wait) _ h))

is-bounds : (b : Bound) → 2 ≤ b.wait → b.broke ≡ 0 → bounds b ≡ true
unfolding bounds
is-bounds b l z = and_both (lt-ltb 1 b.wait l) (eq-eqb b.broke 0 z)

with-more : (m : ℕ) (b : Bound) → m ≤ with_bound m b
unfolding with_bound
with-more m b = pick_cases (λ r. m ≤ r) (bounds b) (λ _. omega arith) (λ _. omega arith)

with_bound_lem : (m : ℕ) (b : Bound) → 2 ≤ b.wait → b.broke ≡ 0 → with_bound m b ≡ max m (bound_of b)
unfolding with_bound pick
with_bound_lem m b l z = rw (is-bounds b l z)

with-most : (m : ℕ) (b : Bound) → with_bound m b ≤ max m (bound_of b)
unfolding with_bound
with-most m b = pick_cases (λ r. r ≤ max m (bound_of b)) (bounds b) (λ _. omega arith) (λ _. omega arith)

-- one that does not wait adds nothing
pub with_none : (m : ℕ) (b : Bound) → b.wait < 2 → with_bound m b ≡ m
unfolding with_bound
with_none m b l = pick_cases (λ r. r ≡ m) (bounds b) (λ e. absurd (omega (arith, l, (bounds-is b e).0))) (λ _. refl)

with_which : (m r : ℕ) (b : Bound) → r ≡ with_bound m b → (r ≡ m) ⊎ ((bounds b ≡ true) × (r ≡ bound_of b))
unfolding with_bound
with_which m r b =
    pick_cases (λ q. r ≡ q → (r ≡ m) ⊎ ((bounds b ≡ true) × (r ≡ bound_of b))) (bounds b) (λ e q. go e (dec_lt m (bound_of b)) q) (λ e q. inl q)
  where
    go : bounds b ≡ true → Dec (m < bound_of b) → r ≡ max m (bound_of b) → (r ≡ m) ⊎ ((bounds b ≡ true) × (r ≡ bound_of b))
    go e (yes l) q = inr (e, omega (arith, q, l))
    go e (no g) q = inl (omega (arith, q, g))

-- ---- part of a run, then the rest

run_next : (s : Aic) (ps : List Step) (x : Step) → run s (ps ++ (x ∷ [])) ≡ (step (run s ps) x).aic
unfolding run
run_next s [] x = refl
run_next s (p ∷ ps) x = run_next (step s p).aic ps x

pub most_append : (k n : ℕ) (b : Bound) (m : ℕ) (s : Aic) (xs ys : List Step)
    → most_over k n b m s (xs ++ ys) ≡ most_over k (n + length xs) (bound_over k n b s xs) (most_over k n b m s xs) (run s xs) ys
unfolding most_over bound_over run
most_append k n b m s [] ys = ap (λ (i : ℕ). most_over k i b m s ys) (omega arith)
most_append k n b m s (x ∷ xs) ys =
    most_append k (n + 1) (bound_after k (n + 1) b s x) _ (step s x).aic xs ys
    ∙ ap (λ (i : ℕ). most_over k i (bound_over k (n + 1) (bound_after k (n + 1) b s x) (step s x).aic xs)
    (most_over k (n + 1) (bound_after k (n + 1) b s x) (pick (ltb (bound_after k (n + 1) b s x).wait 2) (with_bound m b) m) (step s x).aic xs)
    (run (step s x).aic xs) ys) (omega arith)

no_less : (c : Bool) (m r : ℕ) → m ≤ r → m ≤ pick c r m
unfolding pick
no_less true m r h = h
no_less false m r h = omega arith

pub most_grows : (k n : ℕ) (b : Bound) (m : ℕ) (s : Aic) (xs : List Step) → m ≤ most_over k n b m s xs
unfolding most_over
most_grows k n b m s [] = omega arith
most_grows k n b m s (x ∷ xs) =
    omega (
      arith,
      most_grows k (n + 1) (bound_after k (n + 1) b s x) (pick (ltb (bound_after k (n + 1) b s x).wait 2) (with_bound m b) m) (step s x).aic xs,
      no_less (ltb (bound_after k (n + 1) b s x).wait 2) m (with_bound m b) (with-more m b),
    )

-- ---- none has more

-- a step that ends a wait leaves none
ends-none : (w : ℕ) (waits own other : Bool) → (waits ≡ false) ⊎ (own ≡ true) → wait_next w waits own other < 2
unfolding wait_next pick
ends-none w false own other h = omega arith
ends-none w true own other (inl e) = clash refl e
ends-none w true own other (inr e) = rw e (omega arith)

module _ (k n : ℕ) (b : Bound) (m : ℕ) (u : Aic) (l : 2 ≤ b.wait) (z : b.broke ≡ 0) where
  ended-most : (after : List Step) → Ends k u after → bound_of b ≤ with_bound (most_over k n b m u after) (bound_over k n b u after)
  unfolding most_over bound_over
  ended-most [] e = omega (arith, with_bound_lem m b l z)
  ended-most (y ∷ ys) e =
      let w = after-wait k (n + 1) b u y in
      let d : (bound_after k (n + 1) b u y).wait < 2 = omega (arith, w, ends-none b.wait (waiting (step u y).aic k) (starts_of k u y) (starts_other k u y) e) in
      let c : pick (ltb (bound_after k (n + 1) b u y).wait 2) (with_bound m b) m ≡ with_bound m b =
      rw (lt-ltb (bound_after k (n + 1) b u y).wait 2 d) (unfold pick in refl) in
      omega (
        arith,
        c,
        with_bound_lem m b l z,
        most_grows k (n + 1) (bound_after k (n + 1) b u y) (pick (ltb (bound_after k (n + 1) b u y).wait 2) (with_bound m b) m) (step u y).aic ys,
        with-more (most_over k (n + 1) (bound_after k (n + 1) b u y) (pick (ltb (bound_after k (n + 1) b u y).wait 2) (with_bound m b) m) (step u y).aic ys)
            (bound_over k (n + 1) (bound_after k (n + 1) b u y) (step u y).aic ys),
      )

run_append : (s : Aic) (xs ys : List Step) → run s (xs ++ ys) ≡ run (run s xs) ys
unfolding run
run_append s [] ys = refl
run_append s (x ∷ xs) ys = run_append (step s x).aic xs ys

-- the record after a wait
pub outset-run : (s : Aic) (before : List Step) (x : Step) (during : List Step) → run s (before ++ (x ∷ during)) ≡ run (outset s before x) during
unfolding run
outset-run s before x during = run_append s before (x ∷ during)

pub most-largest : (s : Aic) (k : ℕ) (xs before : List Step) (x : Step) (during after : List Step) → Whole k s xs before x during after
    → always steady (outset s before x) during ≡ true → bound_of (bound_at k s (before ++ (x ∷ during))) ≤ bounded_of k s xs
most-largest s k xs before x during after w h = rw (w.parts ∙ sym (append_assoc before (x ∷ during) after)) parted
  where
    ps : List Step
    ps = before ++ (x ∷ during)

    parted : bound_of (bound_at k s (before ++ (x ∷ during))) ≤ bounded_of k s ((before ++ (x ∷ during)) ++ after)
    parted = unfold bounded_of bound_at in (
        let c = terms_of k s before x during w.waits in
        let e = outset-run s before x during in
        rw (over_append k 0 (idle 0) s (before ++ (x ∷ during)) after, most_append k 0 (idle 0) 0 s (before ++ (x ∷ during)) after)
        (ended-most k (0 + length (before ++ (x ∷ during))) (bound_over k 0 (idle 0) s (before ++ (x ∷ during)))
        (most_over k 0 (idle 0) 0 s (before ++ (x ∷ during))) (run s (before ++ (x ∷ during)))
        (omega (arith, c.started)) (c.holds.1 h) after (rw e w.ends)))

-- ---- some wait has it

abbrev Found : Aic → ℕ → List Step → ℕ → Type 0
Found s k xs r =
    (before : List Step) × (x : Step) × (during : List Step) × (after : List Step) × Whole k s xs before x during after
    × (always steady (outset s before x) during ≡ true) × (r ≡ bound_of (bound_at k s (before ++ (x ∷ during))))

-- the wait that stands after part of a run, and ends there
whole_now : (s : Aic) (k : ℕ) (ps rest : List Step) → 2 ≤ (bound_at k s ps).wait → (bound_at k s ps).broke ≡ 0 → Ends k (run s ps) rest
    → Found s k (ps ++ rest) (bound_of (bound_at k s ps))
whole_now s k ps rest l z e = go (wait_where s k ps l)
  where
    go : (before : List Step) × (x : Step) × (during : List Step) × (ps ≡ before ++ (x ∷ during)) × Waiting k s before x during
        → Found s k (ps ++ rest) (bound_of (bound_at k s ps))
    go (before, x, during, q, w) = (
      before,
      x,
      during,
      rest,
      record {
        parts = ap (λ (a : List Step). a ++ rest) q ∙ append_assoc before (x ∷ during) rest;
        waits = w;
        ends = rw (sym (outset-run s before x during), sym q) e;
      },
      (terms_of k s before x during w).holds.0 (ap (λ (a : List Step). (bound_at k s a).broke) (sym q) ∙ z),
      ap (λ (a : List Step). bound_of (bound_at k s a)) q,
    )

-- part of a run, and what is observed after it
pub record At (s : Aic) (k : ℕ) (ps : List Step) (n : ℕ) (b : Bound) (u : Aic) : Type 0 where
  pub seen : b ≡ bound_at k s ps
  pub reached : u ≡ run s ps
  pub passed : n ≡ length ps

pub at_next : (s : Aic) (k : ℕ) (ps : List Step) (n : ℕ) (b : Bound) (u : Aic) (x : Step) → At s k ps n b u
    → At s k (ps ++ (x ∷ [])) (n + 1) (bound_after k (n + 1) b u x) (step u x).aic
unfolding bound_at bound_over
at_next s k ps n b u x a =
    record {
      seen =
          ap₂ (λ (c : Bound) (v : Aic). bound_after k (n + 1) c v x) a.seen a.reached
          ∙ ap (λ (i : ℕ). bound_after k i (bound_over k 0 (idle 0) s ps) (run s ps) x) (omega (arith, a.passed))
          ∙ sym (over_append k 0 (idle 0) s ps (x ∷ []));
      reached = ap (λ (v : Aic). (step v x).aic) a.reached ∙ sym (run_next s ps x);
      passed = omega (arith, a.passed, length-append ps (x ∷ []));
    }

-- a step after which a source that waited does not ends its wait
pub none-ends : (w : ℕ) (waits own other : Bool) → 2 ≤ w → wait_next w waits own other < 2 → (waits ≡ false) ⊎ (own ≡ true)
none-ends w false own other l h = inl refl
none-ends w true true other l h = inr refl
none-ends w true false other l h = absurd (omega (arith, l, h, next_on w true false other l refl refl))

module _ (s : Aic) (k : ℕ) (ps : List Step) (n : ℕ) (b : Bound) (u : Aic) (m : ℕ) (x : Step) (xs : List Step) (a : At s k ps n b u) (r : ℕ) where
  abbrev b' : Bound
  b' = bound_after k (n + 1) b u x

  ended_here : bounds b ≡ true → b'.wait < 2 → r ≡ bound_of b → Found s k (ps ++ (x ∷ xs)) r
  ended_here e l q =
      let o = bounds-is b e in
      let w : wait_after k b.wait u x < 2 = omega (arith, l, after-wait k (n + 1) b u x) in
      let f = none-ends b.wait (waiting (step u x).aic k) (starts_of k u x) (starts_other k u x) o.0 w in
      rw (q ∙ ap bound_of a.seen)
      (whole_now s k ps (x ∷ xs) (rw (← a.seen) o.0) (rw (← a.seen) o.1) (rw (← a.reached) f))

  found_here : r ≡ pick (ltb b'.wait 2) (with_bound m b) m → (r ≡ m) ⊎ Found s k (ps ++ (x ∷ xs)) r
  found_here =
      pick_cases (λ q. r ≡ q → (r ≡ m) ⊎ Found s k (ps ++ (x ∷ xs)) r) (ltb b'.wait 2) (λ c q. sort (ltb-true b'.wait 2 c) (with_which m r b q))
      (λ c q. inl q)
    where
      sort : b'.wait < 2 → (r ≡ m) ⊎ ((bounds b ≡ true) × (r ≡ bound_of b)) → (r ≡ m) ⊎ Found s k (ps ++ (x ∷ xs)) r
      sort l (inl e) = inl e
      sort l (inr (e, q)) = inr (ended_here e l q)

  found-more : (r ≡ pick (ltb b'.wait 2) (with_bound m b) m) ⊎ Found s k ((ps ++ (x ∷ [])) ++ xs) r → (r ≡ m) ⊎ Found s k (ps ++ (x ∷ xs)) r
  found-more (inl e) = found_here e
  found-more (inr f) = inr (rw (← append_assoc ps (x ∷ []) xs) f)

found : (s : Aic) (k : ℕ) (ps : List Step) (n : ℕ) (b : Bound) (u : Aic) (m : ℕ) (xs : List Step) → At s k ps n b u
    → (most_over k n b m u xs ≡ m) ⊎ Found s k (ps ++ xs) (most_over k n b m u xs)
unfolding most_over
found s k ps n b u m [] a = inl refl
found s k ps n b u m (x ∷ xs) a =
    found-more s k ps n b u m x xs a _
    (found s k (ps ++ (x ∷ [])) (n + 1) (bound_after k (n + 1) b u x) (step u x).aic
    (pick (ltb (bound_after k (n + 1) b u x).wait 2) (with_bound m b) m) xs (at_next s k ps n b u x a))

pub at_first : (s : Aic) (k : ℕ) → At s k [] 0 (idle 0) s
unfolding bound_at bound_over run
at_first s k = record { seen = refl; reached = refl; passed = refl }

pub most-reached : (s : Aic) (k : ℕ) (xs : List Step) → (bounded_of k s xs ≡ 0) ⊎ Found s k xs (bounded_of k s xs)
unfolding bounded_of
most-reached s k xs = go (with_which (most_over k 0 (idle 0) 0 s xs) (with_bound (most_over k 0 (idle 0) 0 s xs) (bound_at k s xs)) (bound_at k s xs) refl)
  where
    before : (r : ℕ) → r ≡ most_over k 0 (idle 0) 0 s xs → (most_over k 0 (idle 0) 0 s xs ≡ 0) ⊎ Found s k xs (most_over k 0 (idle 0) 0 s xs)
        → (r ≡ 0) ⊎ Found s k xs r
    before r e f = rw e f

    last : (r : ℕ) → bounds (bound_at k s xs) ≡ true → r ≡ bound_of (bound_at k s xs) → Found s k xs r
    last r e q =
        let o = bounds-is (bound_at k s xs) e in
        rw q (subst (λ (l : List Step). Found s k l (bound_of (bound_at k s xs))) (append-nil xs) (whole_now s k xs [] o.0 o.1 tt))

    go : (with_bound (most_over k 0 (idle 0) 0 s xs) (bound_at k s xs) ≡ most_over k 0 (idle 0) 0 s xs)
        ⊎ ((bounds (bound_at k s xs) ≡ true) × (with_bound (most_over k 0 (idle 0) 0 s xs) (bound_at k s xs) ≡ bound_of (bound_at k s xs)))
        → (with_bound (most_over k 0 (idle 0) 0 s xs) (bound_at k s xs) ≡ 0) ⊎ Found s k xs (with_bound (most_over k 0 (idle 0) 0 s xs) (bound_at k s xs))
    go (inl e) = before _ e (found s k [] 0 (idle 0) s 0 xs (at_first s k))
    go (inr (e, q)) = inr (last _ e q)

-- ---- a wait loses its bound once at most

once : (m r : ℕ) → (m ≢ 0 → r ≡ m) → one (eqb m 0 && not (eqb r 0)) + one (eqb r 0) ≤ one (eqb m 0)
once m r h = go (ℕ_discrete m 0) (ℕ_discrete r 0)
  where
    go : Dec (m ≡ 0) → Dec (r ≡ 0) → one (eqb m 0 && not (eqb r 0)) + one (eqb r 0) ≤ one (eqb m 0)
    go (yes e) (yes f) = rw (eq-eqb m 0 e, eq-eqb r 0 f) (omega arith)
    go (yes e) (no f) = rw (eq-eqb m 0 e, ne_eqb r 0 f) (omega arith)
    go (no e) (yes f) = absurd (omega (arith, f, e, h e))
    go (no e) (no f) = rw (ne_eqb m 0 e, ne_eqb r 0 f) (omega arith)

loses-step : (k n : ℕ) (b : Bound) (s : Aic) (x : Step)
    → one (loses b (bound_after k n b s x)) + one (bounds (bound_after k n b s x)) ≤ one (ltb b.wait 2 && ltb 1 (wait_after k b.wait s x)) + one (bounds b)
unfolding bounds loses
loses-step k n b s x =
    step_cases k n b s x
    (λ r. one (eqb b.broke 0 && not (eqb r.broke 0)) + one (ltb 1 r.wait && eqb r.broke 0)
    ≤ one (ltb b.wait 2 && ltb 1 (wait_after k b.wait s x)) + one (ltb 1 b.wait && eqb b.broke 0))
    (λ l. rw (le-ltb 1 (wait_after k b.wait s x) (omega (arith, l)), and-false (eqb b.broke 0)) (omega arith))
    (λ e z. rw (e, z, and-false (eqb b.broke 0)) (omega arith))
    (λ l o. rw (lt-ltb 1 (wait_after k b.wait s x) l, le-ltb b.wait 2 o, lt-ltb 1 b.wait o)
    (omega (arith, once b.broke (pick (eqb b.broke 0 && rewrites s x) n b.broke) (stuck_here b.broke n (rewrites s x)))))

fewer : (k n : ℕ) (b : Bound) (s : Aic) (xs : List Step) → unbounded_over k n b s xs ≤ begun_over k b.wait s xs + one (bounds b)
unfolding unbounded_over begun_over
fewer k n b s [] = omega arith
fewer k n b s (x ∷ xs) =
    omega (
      arith,
      loses-step k (n + 1) b s x,
      fewer k (n + 1) (bound_after k (n + 1) b s x) (step s x).aic xs,
      ap (λ (w : ℕ). begun_over k w (step s x).aic xs) (after-wait k (n + 1) b s x),
    )

pub fewer_unbounded : (s : Aic) (k : ℕ) (xs : List Step) → waits_unbounded k s xs ≤ waits_begun k s xs
unfolding bounds waits_unbounded waits_begun
fewer_unbounded s k xs = omega (arith, fewer k 0 (idle 0) s xs)

-- ---- what was seen

grown-more : (w n : ℕ) (b : Bound) (s : Aic) (x : Step) → bound_of b ≤ bound_of (grown w b n s x)
unfolding bound_of
grown-more w n b s x = omega arith

-- a step by which no wait loses its bound
unbroken-step : (m r : ℕ) → m ≡ 0 → one (eqb m 0 && not (eqb r 0)) ≡ 0 → r ≡ 0
unbroken-step m r z h = go (ℕ_discrete r 0)
  where
    go : Dec (r ≡ 0) → r ≡ 0
    go (yes e) = e
    go (no d) = absurd (omega (arith, h, ap one (and_both (eq-eqb m 0 z) (ap not (ne_eqb r 0 d)))))

seen_step : (k n : ℕ) (b : Bound) (s : Aic) (x : Step) (m o : ℕ) → o ≤ with_bound m b → (bound_after k n b s x).broke ≡ 0
    → (2 ≤ (bound_after k n b s x).wait → (bound_after k n b s x).wait ≤ bound_of (bound_after k n b s x) + 2)
    → max o (wait_after k b.wait s x - 2) ≤ with_bound (pick (ltb (bound_after k n b s x).wait 2) (with_bound m b) m) (bound_after k n b s x)
seen_step k n b s x m o h =
    step_cases k n b s x
    (λ r. r.broke ≡ 0 → (2 ≤ r.wait → r.wait ≤ bound_of r + 2)
    → max o (wait_after k b.wait s x - 2) ≤ with_bound (pick (ltb r.wait 2) (with_bound m b) m) r)
    (λ l z q. rw (lt-ltb (wait_after k b.wait s x) 2 l) (unfold pick in (omega (arith, l, h, with-more (with_bound m b) (idle (wait_after k b.wait s x))))))
    (λ e v z q. rw e (unfold pick in (omega (arith, h, with_none m b (omega (arith, v)), with-more m (fresh k (step s x).aic)))))
    (λ l v z q. rw (le-ltb (wait_after k b.wait s x) 2 l)
    (unfold pick in (omega (
      arith,
      h,
      with-most m b,
      with_bound_lem m (grown (wait_after k b.wait s x) b n s x) l z,
      grown-more (wait_after k b.wait s x) n b s x,
      q l,
    ))))

module _ (s : Aic) (k : ℕ) (h : Shaped s) (small : k < 32) where
  seen-run : (ps : List Step) (n : ℕ) (b : Bound) (u : Aic) (m o : ℕ) (xs : List Step) → At s k ps n b u → b.broke ≡ 0 → o ≤ with_bound m b
      → unbounded_over k n b u xs ≡ 0
      → wait_most k b.wait o u xs ≤ with_bound (most_over k n b m u xs) (bound_over k n b u xs)
  unfolding wait_most most_over bound_over unbounded_over loses
  seen-run ps n b u m o [] a z l q = l
  seen-run ps n b u m o (x ∷ xs) a z l q =
      let a' = at_next s k ps n b u x a in
      let z' = unbroken-step b.broke (bound_after k (n + 1) b u x).broke z (omega (arith, q)) in
      let w = after-wait k (n + 1) b u x in
      let e : 2 ≤ (bound_after k (n + 1) b u x).wait → (bound_after k (n + 1) b u x).wait ≤ bound_of (bound_after k (n + 1) b u x) + 2 =
      rw a'.seen (λ g. every-moment s k (ps ++ (x ∷ [])) h small g (ap (λ (c : Bound). c.broke) (sym a'.seen) ∙ z')) in
      omega (
        arith,
        ap (λ (v : ℕ). wait_most k v (max o (wait_after k b.wait u x - 2)) (step u x).aic xs) w,
        seen-run (ps ++ (x ∷ [])) (n + 1) (bound_after k (n + 1) b u x) (step u x).aic (pick (ltb (bound_after k (n + 1) b u x).wait 2) (with_bound m b) m)
            (max o (wait_after k b.wait u x - 2)) xs a' z' (seen_step k (n + 1) b u x m o l z' e) (omega (arith, q)),
      )

  pub seen-bounded : (xs : List Step) → waits_unbounded k s xs ≡ 0 → waited_of k s xs ≤ bounded_of k s xs
  unfolding waited_of bounded_of bound_at waits_unbounded
  seen-bounded xs q = seen-run [] 0 (idle 0) s 0 0 xs (at_first s k) refl (omega arith) q
