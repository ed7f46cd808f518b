-- The figures of all waits of a source over a run: the largest bound, how many waits begin, how many stand at the end, how many have no bound, and
-- where the first of these lost it.
use Rattle.std.specs.Prelude.{ℕ, ◌+◌, max, Bool, not, ◌&&◌, List, [], ◌∷◌, eqb, ltb}
use Rattle.words.specs.Choice.{pick}
use Rattle.words.specs.Counting.{one}
use Rattle.steps.specs.declared.Step.{Step}
use Rattle.aic_record.specs.declared.Aic.{Aic}
use Rattle.aic.specs.Model.{step}
use Rattle.aic_waits.specs.Figures.{wait_after, standing}
use Rattle.aic_bounds.specs.declared.Bound.{Bound}
use Rattle.aic_bounds.specs.Bounds.{idle, bound_after, bound_at, bound_of}

-- the wait that stands has a bound
unfoldable pub bounds : Bound → Bool
bounds b = ltb 1 b.wait && eqb b.broke 0

-- the larger of m and the bound of the wait that stands, if it has one
unfoldable pub with_bound : ℕ → Bound → ℕ
with_bound m b = pick (bounds b) (max m (bound_of b)) m

-- the largest bound of the waits that have one and have ended, each as it is where its wait ends: from how it stands and the largest so far
unfoldable pub most_over : ℕ → ℕ → Bound → ℕ → Aic → List Step → ℕ
most_over k n b m s [] = m
most_over k n b m s (x ∷ xs) =
    most_over k (n + 1) (bound_after k (n + 1) b s x) (pick (ltb (bound_after k (n + 1) b s x).wait 2) (with_bound m b) m) (step s x).aic xs

-- the largest bound of the waits of a run, that which stands at its end among them, from a record in which source k does not wait: handlers
unfoldable pub bounded_of : ℕ → Aic → List Step → ℕ
bounded_of k s xs = with_bound (most_over k 0 (idle 0) 0 s xs) (bound_at k s xs)

-- of two waits the second, if it has a bound and that is larger, else the first
unfoldable pub better : Bound → Bound → Bound
better c b = pick (bounds b && ltb (bound_of c) (bound_of b)) b c

-- what was observed of the first of the waits that have ended with the largest bound, where it ended: from how it stands and the first so far
unfoldable pub best_over : ℕ → ℕ → Bound → Bound → Aic → List Step → Bound
best_over k n b c s [] = c
best_over k n b c s (x ∷ xs) =
    best_over k (n + 1) (bound_after k (n + 1) b s x) (pick (ltb (bound_after k (n + 1) b s x).wait 2) (better c b) c) (step s x).aic xs

-- and of the waits of a run, that which stands at its end among them; as of a source that does not wait where none has a bound over 0
unfoldable pub largest_of : ℕ → Aic → List Step → Bound
largest_of k s xs = better (best_over k 0 (idle 0) (idle 0) s xs) (bound_at k s xs)

-- the waits that begin, from how it stands; and from a record in which it does not wait
unfoldable pub begun_over : ℕ → ℕ → Aic → List Step → ℕ
begun_over k w s [] = 0
begun_over k w s (x ∷ xs) = one (ltb w 2 && ltb 1 (wait_after k w s x)) + begun_over k (wait_after k w s x) (step s x).aic xs

unfoldable pub waits_begun : ℕ → Aic → List Step → ℕ
waits_begun k s xs = begun_over k 0 s xs

-- those of them that do not end: one, if it waits after the run
unfoldable pub waits_unended : ℕ → Aic → List Step → ℕ
waits_unended k s xs = one (ltb 1 (standing k 0 s xs))

-- a wait that had a bound has none after a step
unfoldable pub loses : Bound → Bound → Bool
loses b c = eqb b.broke 0 && not (eqb c.broke 0)

-- the waits that have no bound: those that a step rewrites a mode or a forcing in
unfoldable pub unbounded_over : ℕ → ℕ → Bound → Aic → List Step → ℕ
unbounded_over k n b s [] = 0
unbounded_over k n b s (x ∷ xs) = one (loses b (bound_after k (n + 1) b s x)) + unbounded_over k (n + 1) (bound_after k (n + 1) b s x) (step s x).aic xs

unfoldable pub waits_unbounded : ℕ → Aic → List Step → ℕ
waits_unbounded k s xs = unbounded_over k 0 (idle 0) s xs

-- the number of the first step by which a wait has none, 0 where all have one; the first step of a run is 1
unfoldable pub first_over : ℕ → ℕ → Bound → Aic → List Step → ℕ
first_over k n b s [] = 0
first_over k n b s (x ∷ xs) =
    pick (loses b (bound_after k (n + 1) b s x)) (n + 1) (first_over k (n + 1) (bound_after k (n + 1) b s x) (step s x).aic xs)

unfoldable pub first_unbounded : ℕ → Aic → List Step → ℕ
first_unbounded k s xs = first_over k 0 (idle 0) s xs
