-- The wait whose terms are told with the largest bound is the first that has it.
use Prim.Native.Nat.{ℕ, ◌+◌, ◌≤◌, ◌<◌, max}
use mathlib.Core.Path.{◌≡◌, refl, sym, ap, ap₂, ◌∙◌, subst}
use mathlib.Core.Bool.{Bool, true, false, ◌&&◌}
use mathlib.Core.List.{List, [], ◌∷◌, ◌++◌, append-nil, append_assoc}
use mathlib.Core.Logic.{◌≢◌, ◌⊎◌, inl, inr}
use native.Mathlib.Omega.{arith}
use native.Mathlib.Decide.{dec_lt}
use lib.Dec.{ltb}
use lib.ListN.{length}
use borrow.Author.Tests.{ltb-true, lt-ltb, le-ltb}
use Rattle.words.specs.Choice.{pick}
use Rattle.words.proofs.ChoiceLaws.{pick_cases}
use Rattle.words.proofs.TruthLaws.{and_left, and_right}
use Rattle.steps.specs.declared.Step.{Step}
use Rattle.aic_record.specs.declared.Aic.{Aic}
use Rattle.aic_sources.specs.Normal.{waiting}
use Rattle.aic.specs.Model.{step}
use Rattle.aic_runs.specs.Counted.{starts_of, starts_other}
use Rattle.aic_runs.specs.Runs.{run}
use Rattle.aic_waits.specs.Figures.{wait_after}
use Rattle.aic_bounds.specs.declared.Bound.{Bound}
use Rattle.aic_bounds.specs.Bounds.{idle, bound_after, bound_over, bound_at, bound_of}
use Rattle.aic_bounds.specs.Over.{bounds, with_bound, most_over, bounded_of, better, best_over, largest_of}
use Rattle.aic_bounds.specs.Promises.{Waiting, Ends, First}
use Rattle.aic_bounds.proofs.StepLaws.{after-wait, over-wait}
use Rattle.aic_bounds.proofs.TermLaws.{terms_of, wait_where}
use Rattle.aic_bounds.proofs.MostLaws.{bounds-is, with_none, most_append, most_grows, outset-run, At, at_next, at_first, none-ends}

-- ---- its bound is the largest

better_sum : (c b : Bound) → bound_of (better c b) ≡ with_bound (bound_of c) b
unfolding better with_bound
better_sum c b = go (bounds b) (dec_lt (bound_of c) (bound_of b))
  where
    go : (d : Bool) → Dec (bound_of c < bound_of b) → bound_of (pick (d && ltb (bound_of c) (bound_of b)) b c) ≡ pick d (max (bound_of c) (bound_of b)) (bound_of c)
    go true (yes l) = rw (lt-ltb (bound_of c) (bound_of b) l) (unfold pick in (omega (arith, l)))
    go true (no g) = rw (le-ltb (bound_of c) (bound_of b) (omega (arith, g))) (unfold pick in (omega (arith, g)))
    go false d = unfold pick in refl

choice_sum : (t : Bool) (c b : Bound) → bound_of (pick t (better c b) c) ≡ pick t (with_bound (bound_of c) b) (bound_of c)
choice_sum true c b = unfold pick in (better_sum c b)
choice_sum false c b = unfold pick in refl

best_sum : (k n : ℕ) (b c : Bound) (s : Aic) (xs : List Step) → bound_of (best_over k n b c s xs) ≡ most_over k n b (bound_of c) s xs
unfolding best_over most_over
best_sum k n b c s [] = refl
best_sum k n b c s (x ∷ xs) =
    best_sum k (n + 1) (bound_after k (n + 1) b s x) (pick (ltb (bound_after k (n + 1) b s x).wait 2) (better c b) c) (step s x).aic xs
    ∙ ap (λ (m : ℕ). most_over k (n + 1) (bound_after k (n + 1) b s x) m (step s x).aic xs) (choice_sum (ltb (bound_after k (n + 1) b s x).wait 2) c b)

nothing : bound_of (idle 0) ≡ 0
unfolding bound_of
nothing = refl

pub largest_sum : (s : Aic) (k : ℕ) (xs : List Step) → bound_of (largest_of k s xs) ≡ bounded_of k s xs
unfolding largest_of bounded_of
largest_sum s k xs =
    better_sum (best_over k 0 (idle 0) (idle 0) s xs) (bound_at k s xs)
    ∙ ap (λ (m : ℕ). with_bound m (bound_at k s xs)) (best_sum k 0 (idle 0) (idle 0) s xs ∙ ap (λ (m : ℕ). most_over k 0 (idle 0) m s xs) nothing)

-- ---- it is the first that has it

-- the largest bound before a wait begins is at most that of the waits that have ended later
earlier-most : (s : Aic) (k : ℕ) (before : List Step) (x : Step) (during : List Step) → Waiting k s before x during
    → bounded_of k s before ≤ most_over k 0 (idle 0) 0 s (before ++ (x ∷ during))
unfolding bounded_of bound_at
earlier-most s k before x during w =
    omega (
      arith,
      with_none (most_over k 0 (idle 0) 0 s before) (bound_over k 0 (idle 0) s before) (omega (arith, over-wait k 0 (idle 0) s before, w.none)),
      most_append k 0 (idle 0) 0 s before (x ∷ during),
      most_grows k (0 + length before) (bound_over k 0 (idle 0) s before) (most_over k 0 (idle 0) 0 s before) (run s before) (x ∷ during),
    )

-- the wait that stands after part of a run, and ends there, if its bound is larger than those before
first_now : (s : Aic) (k : ℕ) (ps rest : List Step) → bounds (bound_at k s ps) ≡ true → Ends k (run s ps) rest
    → most_over k 0 (idle 0) 0 s ps < bound_of (bound_at k s ps) → First k s (ps ++ rest) (bound_at k s ps)
first_now s k ps rest o e l = go (wait_where s k ps (bounds-is (bound_at k s ps) o).0)
  where
    go : (before : List Step) × (x : Step) × (during : List Step) × (ps ≡ before ++ (x ∷ during)) × Waiting k s before x during
        → First k s (ps ++ rest) (bound_at k s ps)
    go (before, x, during, q, w) =
        record {
          before = before;
          by = x;
          during = during;
          after = rest;
          whole =
              record {
                parts = ap (λ (a : List Step). a ++ rest) q ∙ append_assoc before (x ∷ during) rest;
                waits = w;
                ends = rw (sym (outset-run s before x during), sym q) e;
              };
          held = (terms_of k s before x during w).holds.0 (ap (λ (a : List Step). (bound_at k s a).broke) (sym q) ∙ (bounds-is (bound_at k s ps) o).1);
          is = ap (bound_at k s) q;
          smaller = omega (arith, l, earlier-most s k before x during w, ap (most_over k 0 (idle 0) 0 s) q);
        }

-- with one step more
most_next : (s : Aic) (k : ℕ) (ps : List Step) (n : ℕ) (b : Bound) (u : Aic) (x : Step) (m : ℕ) → At s k ps n b u → m ≡ most_over k 0 (idle 0) 0 s ps
    → most_over k 0 (idle 0) 0 s (ps ++ (x ∷ [])) ≡ pick (ltb (bound_after k (n + 1) b u x).wait 2) (with_bound m b) m
unfolding bound_at most_over
most_next s k ps n b u x m a e =
    most_append k 0 (idle 0) 0 s ps (x ∷ [])
    ∙ ap (λ (i : ℕ). P i (bound_over k 0 (idle 0) s ps) (run s ps) (most_over k 0 (idle 0) 0 s ps)) (omega (arith, a.passed))
    ∙ ap (λ (c : Bound). P n c (run s ps) (most_over k 0 (idle 0) 0 s ps)) (sym a.seen)
    ∙ ap₂ (λ (v : Aic) (j : ℕ). P n b v j) (sym a.reached) (sym e)
  where
    P : ℕ → Bound → Aic → ℕ → ℕ
    P i c v j = pick (ltb (bound_after k (i + 1) c v x).wait 2) (with_bound j c) j

module _ (s : Aic) (k : ℕ) (ps : List Step) (n : ℕ) (b : Bound) (u : Aic) (c : Bound) (x : Step) (xs : List Step) (a : At s k ps n b u)
    (e : bound_of c ≡ most_over k 0 (idle 0) 0 s ps) (r : Bound) where
  abbrev b' : Bound
  b' = bound_after k (n + 1) b u x

  best_here : (bounds b && ltb (bound_of c) (bound_of b)) ≡ true → b'.wait < 2 → r ≡ b → First k s (ps ++ (x ∷ xs)) r
  best_here h l q =
      let o = and_left (bounds b) _ h in
      let w : wait_after k b.wait u x < 2 = omega (arith, l, after-wait k (n + 1) b u x) in
      let f = none-ends b.wait (waiting (step u x).aic k) (starts_of k u x) (starts_other k u x) (bounds-is b o).0 w in
      let m = ltb-true (bound_of c) (bound_of b) (and_right (bounds b) _ h) in
      rw (q ∙ a.seen) (first_now s k ps (x ∷ xs) (rw (← a.seen) o) (rw (← a.reached) f) (rw (← a.seen) (omega (arith, m, e))))

  best_which : r ≡ pick (ltb b'.wait 2) (better c b) c → (r ≡ c) ⊎ First k s (ps ++ (x ∷ xs)) r
  unfolding better
  best_which =
      pick_cases (λ q. r ≡ q → (r ≡ c) ⊎ First k s (ps ++ (x ∷ xs)) r) (ltb b'.wait 2)
      (λ l. pick_cases (λ q. r ≡ q → (r ≡ c) ⊎ First k s (ps ++ (x ∷ xs)) r) (bounds b && ltb (bound_of c) (bound_of b))
      (λ h q. inr (best_here h (ltb-true b'.wait 2 l) q))
      (λ h q. inl q))
      (λ l q. inl q)

  best-more : (r ≡ pick (ltb b'.wait 2) (better c b) c) ⊎ First k s ((ps ++ (x ∷ [])) ++ xs) r → (r ≡ c) ⊎ First k s (ps ++ (x ∷ xs)) r
  best-more (inl q) = best_which q
  best-more (inr f) = inr (rw (← append_assoc ps (x ∷ []) xs) f)

best_found : (s : Aic) (k : ℕ) (ps : List Step) (n : ℕ) (b : Bound) (u : Aic) (c : Bound) (xs : List Step) → At s k ps n b u
    → bound_of c ≡ most_over k 0 (idle 0) 0 s ps → (best_over k n b c u xs ≡ c) ⊎ First k s (ps ++ xs) (best_over k n b c u xs)
unfolding best_over
best_found s k ps n b u c [] a e = inl refl
best_found s k ps n b u c (x ∷ xs) a e =
    best-more s k ps n b u c x xs a e _
    (best_found s k (ps ++ (x ∷ [])) (n + 1) (bound_after k (n + 1) b u x) (step u x).aic (pick (ltb (bound_after k (n + 1) b u x).wait 2) (better c b) c) xs
    (at_next s k ps n b u x a)
    (choice_sum (ltb (bound_after k (n + 1) b u x).wait 2) c b ∙ sym (most_next s k ps n b u x (bound_of c) a e)))

nothing_yet : (s : Aic) (k : ℕ) → bound_of (idle 0) ≡ most_over k 0 (idle 0) 0 s []
unfolding most_over
nothing_yet s k = nothing

-- the wait that stands at the end is one of them
largest_found : (s : Aic) (k : ℕ) (xs : List Step) → (largest_of k s xs ≡ idle 0) ⊎ First k s xs (largest_of k s xs)
unfolding largest_of better
largest_found s k xs =
    pick_cases (λ q. (q ≡ idle 0) ⊎ First k s xs q) (bounds (bound_at k s xs) && ltb (bound_of C) (bound_of (bound_at k s xs)))
    (λ h. inr (last (and_left (bounds (bound_at k s xs)) _ h) (ltb-true (bound_of C) (bound_of (bound_at k s xs)) (and_right (bounds (bound_at k s xs)) _ h))))
    (λ h. best_found s k [] 0 (idle 0) s (idle 0) xs (at_first s k) (nothing_yet s k))
  where
    C : Bound
    C = best_over k 0 (idle 0) (idle 0) s xs

    last : bounds (bound_at k s xs) ≡ true → bound_of C < bound_of (bound_at k s xs) → First k s xs (bound_at k s xs)
    last o l =
        subst (λ (ys : List Step). First k s ys (bound_at k s xs)) (append-nil xs)
        (first_now s k xs [] o tt
        (omega (arith, l, best_sum k 0 (idle 0) (idle 0) s xs, ap (λ (m : ℕ). most_over k 0 (idle 0) m s xs) nothing)))

pub largest-none : (s : Aic) (k : ℕ) (xs : List Step) → bounded_of k s xs ≡ 0 → largest_of k s xs ≡ idle 0
largest-none s k xs e = go (largest_found s k xs)
  where
    go : (largest_of k s xs ≡ idle 0) ⊎ First k s xs (largest_of k s xs) → largest_of k s xs ≡ idle 0
    go (inl q) = q
    go (inr f) = absurd (omega (arith, e, largest_sum s k xs, f.smaller))

pub largest-first : (s : Aic) (k : ℕ) (xs : List Step) → bounded_of k s xs ≢ 0 → First k s xs (largest_of k s xs)
largest-first s k xs z = go (largest_found s k xs)
  where
    go : (largest_of k s xs ≡ idle 0) ⊎ First k s xs (largest_of k s xs) → First k s xs (largest_of k s xs)
    go (inl q) = absurd (z (sym (largest_sum s k xs) ∙ ap bound_of q ∙ nothing))
    go (inr f) = f
