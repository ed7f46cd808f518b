-- What holds of every run where sources ahead may be level-sensitive: one induction for a source, and the sum over sources once, at the end.
use Prim.Native.Nat.{ℕ, ◌+◌, ◌≤◌, ◌<◌}
use mathlib.Core.Path.{◌≡◌, refl, ap, ◌∙◌}
use mathlib.Core.Bool.{Bool, true, false, not, ◌&&◌, ◌||◌, and-true, and-false}
use mathlib.Core.List.{List, [], ◌∷◌}
use mathlib.Core.Logic.{◌≢◌}
use native.Mathlib.Omega.{arith}
use borrow.Author.Tests.{eq-eqb, not-true}
use Rattle.words.specs.Choice.{pick}
use Rattle.words.specs.Counting.{one, sum_below}
use Rattle.words.proofs.TruthLaws.{and_left, and_right, and_both, or_left, clash}
use Rattle.words.proofs.CountingLaws.{sum_le, sum-add}
use Rattle.steps.specs.declared.Step.{Step}
use Rattle.aic_record.specs.declared.Aic.{Aic}
use Rattle.aic_record.specs.Mode.{edge}
use Rattle.aic_record.specs.Promises.{Shaped}
use Rattle.aic_sources.specs.Pending.{pending}
use Rattle.aic_sources.specs.Fast.{fast}
use Rattle.aic_sources.specs.Normal.{ahead}
use Rattle.aic_sources.proofs.OrderLaws.{ahead_irreflexive}
use Rattle.aic.specs.Model.{step}
use Rattle.aic.proofs.Promises as Controller
use Rattle.aic_runs.specs.Counted.{recalls, carries, starts_of, starts_other, rises, edges, commands, steady, waits}
use Rattle.aic_runs.specs.Runs.{run, count, always, owed, received, sum_over}
use Rattle.aic_runs.specs.Promises.{EdgeTriggered, ahead_of, rival_of}
use Rattle.aic_runs.proofs.StepLaws.{modes_law, edge_modes}
use Rattle.aic_runs.proofs.RunLaws.{not_rewritten, over_le, over_add, starts-over, remembered_once, wide_order, waits-steady}
use Rattle.aic_runs.specs.Turns.{closes_of, closes_hot, cool, Cool, gains, gained, held, due}
use Rattle.aic_runs.specs.TurnsPromises.{edge_ahead, level_ahead}
use Rattle.aic_runs.proofs.DueLaws.{claim, claim-low, claim-high, claim_law, ready-due}

-- ---- one source

not_hot : (i : ℕ) (s : Aic) (x : Step) → cool i s x ≡ true → closes_hot i s x ≡ false
unfolding cool
not_hot i s x h = not-true (closes_hot i s x) h

source_law : (i : ℕ) → i < 32 → i ≢ 0 → (s : Aic) (xs : List Step) → Shaped s → always steady s xs ≡ true → always (cool i) s xs ≡ true
    → claim (run s xs) i + count (starts_of i) s xs ≤ claim s i + gained i s xs
unfolding run count always gained
source_law i l z s [] h a c = omega arith
source_law i l z s (x ∷ xs) h a c =
    omega (
      arith,
      claim_law s i l z h x (not_rewritten s x (and_left (steady s x) _ a)) (not_hot i s x (and_left (cool i s x) _ c)),
      source_law i l z (step s x).aic xs ((Controller.kept).step_shaped s x h) (and_right (steady s x) _ a) (and_right (cool i s x) _ c),
    )

-- source 0 is fast
not_nought : (s : Aic) (i : ℕ) → fast s i ≡ false → i ≢ 0
unfolding fast
not_nought s i f e = clash (or_left _ (eq-eqb i 0 e)) f

pub per_source_any : (s : Aic) (i : ℕ) (xs : List Step) → Shaped s → i < 32 → fast s i ≡ false → always steady s xs ≡ true → always (cool i) s xs ≡ true
    → count (starts_of i) s xs + due (run s xs) i ≤ due s i + gained i s xs + one (recalls i s)
per_source_any s i xs h l f a c =
    let z = not_nought s i f in
    omega (arith, claim-high s i, claim-low (run s xs) i, source_law i l z s xs h a c, ready-due s i z, ready-due (run s xs) i z)

-- ---- what a source gains, by its kind

-- modes stand still, and with them what is edge-triggered
edge_stays : (i : ℕ) (s : Aic) (x : Step) → steady s x ≡ true → edge (step s x).aic i ≡ edge s i
edge_stays i s x h = edge_modes s (step s x).aic i (modes_law s x (not_rewritten s x h)).0

pub gained-edge : (s : Aic) (i : ℕ) (xs : List Step) → edge s i ≡ true → always steady s xs ≡ true → gained i s xs ≡ received i s xs
unfolding gained received count always gains
gained-edge s i [] e a = refl
gained-edge s i (x ∷ xs) e a = more (gained-edge (step s x).aic i xs (edge_stays i s x (and_left (steady s x) _ a) ∙ e) (and_right (steady s x) _ a))
  where
    more : gained i (step s x).aic xs ≡ count (edges i) (step s x).aic xs + count (commands i) (step s x).aic xs
        → pick (edge s i) (one (edges i s x) + one (commands i s x)) (one (rises i s x)) + gained i (step s x).aic xs
        ≡ (one (edges i s x) + count (edges i) (step s x).aic xs) + (one (commands i s x) + count (commands i) (step s x).aic xs)
    more q = rw (e, q) (unfold pick in (omega arith))

pub gained_level : (s : Aic) (i : ℕ) (xs : List Step) → edge s i ≡ false → always steady s xs ≡ true → gained i s xs ≡ count (rises i) s xs
unfolding gained count always gains
gained_level s i [] e a = refl
gained_level s i (x ∷ xs) e a = more (gained_level (step s x).aic i xs (edge_stays i s x (and_left (steady s x) _ a) ∙ e) (and_right (steady s x) _ a))
  where
    more : gained i (step s x).aic xs ≡ count (rises i) (step s x).aic xs
        → pick (edge s i) (one (edges i s x) + one (commands i s x)) (one (rises i s x)) + gained i (step s x).aic xs
        ≡ one (rises i s x) + count (rises i) (step s x).aic xs
    more q = rw (e, q) (unfold pick in refl)

-- ---- with no level-sensitive source ahead

-- of an edge-triggered source no close is hot
edge-cool : (i : ℕ) (s : Aic) (x : Step) → edge s i ≡ true → cool i s x ≡ true
unfolding cool closes_hot
edge-cool i s x e = rw (e, and-false (closes_of i s x))

cool-edge : (i : ℕ) (s : Aic) (xs : List Step) → edge s i ≡ true → always steady s xs ≡ true → always (cool i) s xs ≡ true
unfolding always
cool-edge i s [] e a = refl
cool-edge i s (x ∷ xs) e a =
    and_both (edge-cool i s x e) (cool-edge i (step s x).aic xs (edge_stays i s x (and_left (steady s x) _ a) ∙ e) (and_right (steady s x) _ a))

-- the right side is the old one
over-same : (t : ℕ → Bool) (f g : ℕ → ℕ) → ((i : ℕ) → i < 32 → t i ≡ true → f i ≡ g i) → sum_over t f ≡ sum_over t g
over-same t f g h = omega (arith, over_le t f g (λ i l e. omega (arith, h i l e)), over_le t g f (λ i l e. omega (arith, h i l e)))

module _ (s : Aic) (t : ℕ → Bool) (xs : List Step) (a : always steady s xs ≡ true) (e : EdgeTriggered s t) where
  pub cool-by_itself : Cool s t xs
  cool-by_itself i l p = cool-edge i s xs (e i l p) a

  pub same-owed : (i : ℕ) → i < 32 → t i ≡ true → owed s i + gained i s xs ≡ owed s i + received i s xs
  same-owed i l p = ap (λ (n : ℕ). owed s i + n) (gained-edge s i xs (e i l p) a)

  pub same-due : (i : ℕ) → i < 32 → t i ≡ true → due s i + gained i s xs ≡ owed s i + received i s xs
  unfolding due owed
  same-due i l p = rw (e i l p, and-true (pending s i)) (same-owed i l p)

  pub sum_owed : sum_over t (λ i. owed s i + gained i s xs) ≡ sum_over t (λ i. owed s i + received i s xs)
  sum_owed = over-same t (λ i. owed s i + gained i s xs) (λ i. owed s i + received i s xs) same-owed

  pub sum-due : sum_over t (λ i. due s i + gained i s xs) ≡ sum_over t (λ i. owed s i + received i s xs)
  sum-due = over-same t (λ i. due s i + gained i s xs) (λ i. owed s i + received i s xs) same-due

-- ---- the sum over the sources ahead

-- what a source gains, by its kind
by-kind : (s : Aic) (xs : List Step) → always steady s xs ≡ true → (i : ℕ) (t e : Bool) → edge s i ≡ e
    → pick t (gained i s xs) 0 ≡ pick (t && e) (count (edges i) s xs) 0 + pick (t && e) (count (commands i) s xs) 0 + pick (t && not e) (count (rises i) s xs) 0
unfolding pick received
by-kind s xs a i true true e = omega (arith, gained-edge s i xs e a)
by-kind s xs a i true false e = omega (arith, gained_level s i xs e a)
by-kind s xs a i false e q = refl

parted : (s : Aic) (k : ℕ) (xs : List Step) → always steady s xs ≡ true
    → sum_over (ahead_of s k) (λ i. gained i s xs)
    ≡ sum_over (edge_ahead s k) (λ i. count (edges i) s xs) + sum_over (edge_ahead s k) (λ i. count (commands i) s xs)
    + sum_over (level_ahead s k) (λ i. count (rises i) s xs)
unfolding sum_over
parted s k xs a =
    ap (sum_below 32) (λ j i. by-kind s xs a i (ahead s i k) (edge s i) refl j) ∙ sum-add 32 _ _
    ∙ ap (λ (n : ℕ). n + sum_over (level_ahead s k) (λ i. count (rises i) s xs)) (sum-add 32 _ _)

pub figures : (s : Aic) (k : ℕ) (xs : List Step) → always steady s xs ≡ true
    → sum_over (ahead_of s k) (λ i. owed s i + gained i s xs)
    ≡ sum_over (ahead_of s k) (owed s) + sum_over (edge_ahead s k) (λ i. count (edges i) s xs) + sum_over (edge_ahead s k) (λ i. count (commands i) s xs)
    + sum_over (level_ahead s k) (λ i. count (rises i) s xs)
figures s k xs a = omega (arith, over_add (ahead_of s k) (owed s) (λ i. gained i s xs), parted s k xs a)

normal_of : (s : Aic) (k i : ℕ) → rival_of s k i ≡ true → fast s i ≡ false
normal_of s k i r = not-true (fast s i) (and_right (ahead s i k) _ r)

pub bound-normal : (s : Aic) (k : ℕ) (xs : List Step) → Shaped s → k < 32 → always (waits k) s xs ≡ true → Cool s (rival_of s k) xs
    → count (starts_other k) s xs ≤ sum_over (rival_of s k) (λ i. due s i + gained i s xs) + one (carries k s)
bound-normal s k xs h l w c =
    omega (
      arith,
      starts-over k (rival_of s k) s xs,
      wide_order s k l (rival_of s k) (λ j r. r) xs w,
      remembered_once k (rival_of s k) s (rw (ahead_irreflexive s k)),
      over_add (rival_of s k) (λ i. due s i + gained i s xs) (λ i. one (recalls i s)),
      over_le (rival_of s k) (λ i. count (starts_of i) s xs) (λ i. due s i + gained i s xs + one (recalls i s))
          (λ i m r. omega (arith, per_source_any s i xs h m (normal_of s k i r) (waits-steady k s xs w) (c i m r))),
    )

-- what is due is owed
due-owed : (s : Aic) (i : ℕ) → due s i ≤ owed s i
unfolding due owed
due-owed s i = go (pending s i) (edge s i || not (held s i))
  where
    go : (a b : Bool) → one (a && b) ≤ one a
    go true true = omega arith
    go true false = omega arith
    go false b = omega arith

rivals_fewer : (s : Aic) (k : ℕ) (f g : ℕ → ℕ) → ((i : ℕ) → f i ≤ g i) → sum_over (rival_of s k) f ≤ sum_over (ahead_of s k) g
unfolding sum_over pick
rivals_fewer s k f g h = sum_le 32 _ _ (λ i l. go i (ahead s i k) (not (fast s i)))
  where
    go : (i : ℕ) (a n : Bool) → pick (a && n) (f i) 0 ≤ pick a (g i) 0
    go i true true = h i
    go i true false = omega arith
    go i false n = omega arith

pub bound-levels : (s : Aic) (k : ℕ) (xs : List Step) → Shaped s → k < 32 → always (waits k) s xs ≡ true → Cool s (ahead_of s k) xs
    → count (starts_other k) s xs ≤ sum_over (ahead_of s k) (λ i. owed s i + gained i s xs) + one (carries k s)
bound-levels s k xs h l w c =
    omega (
      arith,
      bound-normal s k xs h l w (λ i m r. c i m (and_left (ahead s i k) _ r)),
      rivals_fewer s k (λ i. due s i + gained i s xs) (λ i. owed s i + gained i s xs) (λ i. omega (arith, due-owed s i)),
    )
