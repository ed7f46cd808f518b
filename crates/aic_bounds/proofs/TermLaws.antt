-- The terms of a wait, over its steps, and what they bound.
use Prim.Native.Nat.{ℕ, ◌+◌, ◌≤◌, ◌<◌}
use mathlib.Core.Path.{◌≡◌, refl, sym, ap, ◌∙◌}
use mathlib.Core.Bool.{Bool, true, false, not, ◌&&◌, ◌||◌}
use mathlib.Core.List.{List, [], ◌∷◌, ◌++◌}
use mathlib.Core.Logic.{◌↔◌, ◌≢◌, ◌⊎◌, inl, inr}
use native.Mathlib.Omega.{arith}
use lib.Dec.{eqb}
use lib.ListN.{length}
use borrow.Author.Tests.{ne_eqb, not-true}
use Rattle.words.specs.Choice.{pick}
use Rattle.words.specs.Counting.{one}
use Rattle.words.specs.Word.{bit, either, without}
use Rattle.words.proofs.TruthLaws.{and_left, and_right, and_both, or_right, or-either, clash, told}
use Rattle.words.proofs.WordLaws.{bit-word_of, bit-either, bit-both, bit-without}
use Rattle.steps.specs.declared.Step.{Step}
use Rattle.aic_record.specs.declared.Aic.{Aic}
use Rattle.aic_record.specs.Promises.{Shaped}
use Rattle.aic_sources.specs.Normal.{waiting}
use Rattle.aic.specs.Model.{step}
use Rattle.aic.proofs.Promises as Controller
use Rattle.aic_runs.specs.Counted.{carries, starts_of, starts_other, edges, rewrites, steady, waits}
use Rattle.aic_runs.specs.Runs.{run, count, always, sum_over}
use Rattle.aic_runs.specs.Promises.{rival_of}
use Rattle.aic_runs.proofs.RunLaws.{over_add}
use Rattle.aic_runs.specs.Turns.{closes_hot, Cool, due}
use Rattle.aic_runs.specs.Rivals.{once_on, allowed}
use Rattle.aic_runs.specs.RivalsPromises.{allowed_before, levels_before, AllOn}
use Rattle.aic_runs.proofs.RivalsPromises as Rivals
use Rattle.aic_waits.specs.Figures.{wait_after, standing}
use Rattle.aic_waits.specs.Promises.{Waits}
use Rattle.aic_waits.proofs.Promises as Waited
use Rattle.aic_bounds.specs.declared.Bound.{Bound}
use Rattle.aic_bounds.specs.Bounds.{sets, lifts, idle, rivals_of, enabled_of, fresh, grown, bound_over, bound_at, bound_of}
use Rattle.aic_bounds.specs.Promises.{outset, Waiting, from_on, Terms}
use Rattle.aic_bounds.proofs.StepLaws.{next_back, after-begun, after_on, over-wait, over_append}
use Rattle.aic_bounds.proofs.SumLaws.{over-same, over_tests, over-within, since, due_left}
use Rattle.aic_bounds.proofs.SumLaws.{since-count, since-one, since-due, since_now, due_now, allowed-parts}

-- ---- a stretch in which it waits, and is not started

-- the first step of such a stretch, and the rest
pub stretch-first : (k : ℕ) (s : Aic) (x : Step) (xs : List Step) → Waits k s (x ∷ xs)
    → (waiting (step s x).aic k ≡ true) × (starts_of k s x ≡ false) × Waits k (step s x).aic xs
unfolding always count
stretch-first k s x xs h = go (starts_of k s x) refl
  where
    go : (b : Bool) → starts_of k s x ≡ b → (waiting (step s x).aic k ≡ true) × (starts_of k s x ≡ false) × Waits k (step s x).aic xs
    go true e = absurd (omega (arith, h.1, ap one e))
    go false e = (and_left (waiting (step s x).aic k) _ h.0, e, (and_right (waiting (step s x).aic k) _ h.0, omega (arith, h.1, ap one e)))

-- those that count are rivals, and every rival that is enabled counts
pub record Fit (b : Bound) (s : Aic) : Type 0 where
  pub within : (i : ℕ) → i < 32 → bit b.on i ≡ true → bit b.rivals i ≡ true
  pub lit : (i : ℕ) → i < 32 → bit b.rivals i ≡ true → bit s.enabled i ≡ true → bit b.on i ≡ true

on_bit : (b : Bound) (t : Aic) (i : ℕ) → i < 32
    → bit (either b.on (enabled_of b.rivals t)) i ≡ (bit b.on i || (bit b.rivals i && bit t.enabled i))
on_bit b t i l = bit-either b.on (enabled_of b.rivals t) i l ∙ ap (λ (y : Bool). bit b.on i || y) (bit-both b.rivals t.enabled i l)

-- of a rival
on_rival : (b : Bound) (t : Aic) (i : ℕ) → i < 32 → bit b.rivals i ≡ true
    → bit (either b.on (enabled_of b.rivals t)) i ≡ (bit b.on i || bit t.enabled i)
on_rival b t i l r = on_bit b t i l ∙ ap (λ (y : Bool). bit b.on i || (y && bit t.enabled i)) r

fit-fresh : (k : ℕ) (t : Aic) → Fit (fresh k t) t
fit-fresh k t =
    record {
      within = λ i l h. and_left (bit (rivals_of k t) i) _ (sym (bit-both (rivals_of k t) t.enabled i l) ∙ h);
      lit = λ i l r e. bit-both (rivals_of k t) t.enabled i l ∙ and_both r e;
    }

fit-grown : (w n : ℕ) (b : Bound) (s : Aic) (x : Step) → Fit b s → Fit (grown w b n s x) (step s x).aic
fit-grown w n b s x f =
    record {
      within = λ i l h. go i l (or-either (bit b.on i) _ (sym (on_bit b (step s x).aic i l) ∙ h));
      lit = λ i l r e. on_rival b (step s x).aic i l r ∙ or_right (bit b.on i) e;
    }
  where
    go : (i : ℕ) → i < 32 → (bit b.on i ≡ true) ⊎ ((bit b.rivals i && bit (step s x).aic.enabled i) ≡ true) → bit b.rivals i ≡ true
    go i l (inl o) = f.within i l o
    go i l (inr q) = and_left (bit b.rivals i) _ q

-- what became of b over the steps xs
pub record Grew (k : ℕ) (b : Bound) (s : Aic) (xs : List Step) (r : Bound) : Type 0 where
  pub started : r.wait ≡ b.wait + count (starts_other k) s xs
  pub same : r.rivals ≡ b.rivals
  pub within : (i : ℕ) → i < 32 → bit r.on i ≡ true → bit b.rivals i ≡ true
  pub counts : (i : ℕ) → i < 32 → bit b.rivals i ≡ true → one (bit r.on i) ≡ since (bit b.on i) i (λ u ys. 1) s xs
  pub pended : r.pending ≡ b.pending + sum_over (bit b.rivals) (λ i. due_left (bit b.on i) i s xs)
  pub edged : r.edges ≡ b.edges + sum_over (bit b.rivals) (λ i. since (bit b.on i) i (count (edges i)) s xs)
  pub commanded : r.commands ≡ b.commands + sum_over (bit b.rivals) (λ i. since (bit b.on i) i (count (sets i)) s xs)
  pub turned : r.turns ≡ b.turns + sum_over (bit b.rivals) (λ i. since (bit b.on i) i (count (lifts i)) s xs)
  pub closed_active : r.closed ≡ b.closed + sum_over (bit b.rivals) (λ i. since (bit b.on i) i (count (closes_hot i)) s xs)
  pub carried : r.remembered ≡ b.remembered
  pub holds : b.broke ≡ 0 → (r.broke ≡ 0) ↔ (always steady s xs ≡ true)
  pub stuck : b.broke ≢ 0 → r.broke ≡ b.broke

-- ---- no step

one_none : (i : ℕ) (s : Aic) (o : Bool) → (bit s.enabled i ≡ true → o ≡ true) → one o ≡ since o i (λ u ys. 1) s []
unfolding once_on pick
one_none i s true f = refl
one_none i s false f = go (told (bit s.enabled i))
  where
    go : (bit s.enabled i ≡ true) ⊎ (bit s.enabled i ≡ false) → ◌≡◌ {A = ℕ} 0 (pick (bit s.enabled i) 1 0)
    go (inl e) = clash (f e) refl
    go (inr e) = rw e

count_none : (i : ℕ) (s : Aic) (o : Bool) (g : Aic → Step → Bool) → since o i (count g) s [] ≡ 0
unfolding once_on pick count
count_none i s true g = refl
count_none i s false g = go (bit s.enabled i)
  where
    go : (e : Bool) → ◌≡◌ {A = ℕ} (pick e 0 0) 0
    go true = refl
    go false = refl

due-none : (i : ℕ) (s : Aic) (o : Bool) → (bit s.enabled i ≡ true → o ≡ true) → due_left o i s [] ≡ 0
unfolding once_on pick
due-none i s true f = refl
due-none i s false f = go (told (bit s.enabled i))
  where
    go : (bit s.enabled i ≡ true) ⊎ (bit s.enabled i ≡ false) → pick (bit s.enabled i) (due s i) 0 ≡ 0
    go (inl e) = clash (f e) refl
    go (inr e) = rw e

over_zero : (t : ℕ → Bool) (f : ℕ → ℕ) (n : ℕ) → ((i : ℕ) → i < 32 → t i ≡ true → f i ≡ 0) → n ≡ n + sum_over t f
over_zero t f n h = omega (arith, over-same t f (λ i. f i + f i) (λ i l r. omega (arith, h i l r)), over_add t f f)

-- ---- one step, then the rest

module _ (b : Bound) (s : Aic) (x : Step) (xs : List Step) (f : Fit b s) where
  abbrev t : Aic
  t = (step s x).aic

  abbrev on' : ℕ
  on' = either b.on (enabled_of b.rivals t)

  term-more : (g : ℕ → Aic → Step → Bool) (m : ℕ)
      → (m + sum_over (bit b.on) (λ i. one (g i s x))) + sum_over (bit b.rivals) (λ i. since (bit on' i) i (count (g i)) t xs)
      ≡ m + sum_over (bit b.rivals) (λ i. since (bit b.on i) i (count (g i)) s (x ∷ xs))
  term-more g m =
      omega (
        arith,
        over-within (bit b.on) (bit b.rivals) (λ i. one (g i s x)) f.within,
        over_add (bit b.rivals) (λ i. pick (bit b.on i) (one (g i s x)) 0) (λ i. since (bit on' i) i (count (g i)) t xs),
        over-same (bit b.rivals) (λ i. pick (bit b.on i) (one (g i s x)) 0 + since (bit on' i) i (count (g i)) t xs)
            (λ i. since (bit b.on i) i (count (g i)) s (x ∷ xs)) each,
      )
    where
      each : (i : ℕ) → i < 32 → bit b.rivals i ≡ true
          → pick (bit b.on i) (one (g i s x)) 0 + since (bit on' i) i (count (g i)) t xs ≡ since (bit b.on i) i (count (g i)) s (x ∷ xs)
      each i l r = rw (on_rival b t i l r) (since-count i s x xs (bit b.on i) (f.lit i l r) (g i))

  due-more : (m : ℕ)
      → (m + sum_over (bit (without (enabled_of b.rivals t) b.on)) (due t)) + sum_over (bit b.rivals) (λ i. due_left (bit on' i) i t xs)
      ≡ m + sum_over (bit b.rivals) (λ i. due_left (bit b.on i) i s (x ∷ xs))
  due-more m =
      omega (
        arith,
        over-within (bit (without (enabled_of b.rivals t) b.on)) (bit b.rivals) (due t)
            (λ i l h. and_left (bit b.rivals i) _ (and_left (bit b.rivals i && bit t.enabled i) _ (sym (first_bit i l) ∙ h))),
        over_add (bit b.rivals) (λ i. pick (bit (without (enabled_of b.rivals t) b.on) i) (due t i) 0) (λ i. due_left (bit on' i) i t xs),
        over-same (bit b.rivals) (λ i. pick (bit (without (enabled_of b.rivals t) b.on) i) (due t i) 0 + due_left (bit on' i) i t xs)
            (λ i. due_left (bit b.on i) i s (x ∷ xs)) each,
      )
    where
      first_bit : (i : ℕ) → i < 32 → bit (without (enabled_of b.rivals t) b.on) i ≡ ((bit b.rivals i && bit t.enabled i) && not (bit b.on i))
      first_bit i l =
          bit-without (enabled_of b.rivals t) b.on i l ∙ ap (λ (y : Bool). y && not (bit b.on i)) (bit-both b.rivals t.enabled i l)

      each : (i : ℕ) → i < 32 → bit b.rivals i ≡ true
          → pick (bit (without (enabled_of b.rivals t) b.on) i) (due t i) 0 + due_left (bit on' i) i t xs ≡ due_left (bit b.on i) i s (x ∷ xs)
      each i l r =
          rw (first_bit i l ∙ ap (λ (y : Bool). (y && bit t.enabled i) && not (bit b.on i)) r, on_rival b t i l r)
          (since-due i s x xs (bit b.on i) (f.lit i l r))

  one_more : (i : ℕ) → i < 32 → bit b.rivals i ≡ true → since (bit on' i) i (λ u ys. 1) t xs ≡ since (bit b.on i) i (λ u ys. 1) s (x ∷ xs)
  one_more i l r = rw (on_rival b t i l r) (since-one i s x xs (bit b.on i) (f.lit i l r))

-- whether a step has broken it
broken_here : (m n : ℕ) (c : Bool) → m ≡ 0 → c ≡ true → pick (eqb m 0 && c) n m ≡ n
unfolding pick
broken_here m n c e h = rw (e, h)

held_here : (m n : ℕ) (c : Bool) → c ≡ false → pick (eqb m 0 && c) n m ≡ m
unfolding pick
held_here m n c h = rw h (go (eqb m 0))
  where
    go : (d : Bool) → pick (d && false) n m ≡ m
    go true = refl
    go false = refl

pub stuck_here : (m n : ℕ) (c : Bool) → m ≢ 0 → pick (eqb m 0 && c) n m ≡ m
unfolding pick
stuck_here m n c z = rw (ne_eqb m 0 z)

module _ (k : ℕ) where
  more : (n w : ℕ) (b : Bound) (s : Aic) (x : Step) (xs : List Step) (r : Bound) → w ≡ b.wait + one (starts_other k s x) → Fit b s
      → Grew k (grown w b (n + 1) s x) (step s x).aic xs r → Grew k b s (x ∷ xs) r
  unfolding always
  more n w b s x xs r e f g =
      record {
        started = unfold count in (omega (arith, e, g.started));
        same = g.same;
        within = g.within;
        counts = λ i l q. g.counts i l q ∙ one_more b s x xs f i l q;
        pended = g.pended ∙ due-more b s x xs f b.pending;
        edged = g.edged ∙ term-more b s x xs f edges b.edges;
        commanded = g.commanded ∙ term-more b s x xs f sets b.commands;
        turned = g.turned ∙ term-more b s x xs f lifts b.turns;
        closed_active = g.closed_active ∙ term-more b s x xs f closes_hot b.closed;
        carried = g.carried;
        holds = λ z. both_ways z (rewrites s x) refl;
        stuck = λ z. let q = stuck_here b.broke (n + 1) (rewrites s x) z in g.stuck (λ y. z (sym q ∙ y)) ∙ q;
      }
    where
      both_ways : b.broke ≡ 0 → (c : Bool) → rewrites s x ≡ c → (r.broke ≡ 0) ↔ ((steady s x && always steady (step s x).aic xs) ≡ true)
      both_ways z true q =
          let v = broken_here b.broke (n + 1) (rewrites s x) z q in (
            λ y. absurd (omega (arith, y, g.stuck (λ m. absurd (omega (arith, m, v))), v)),
            λ y. clash (and_left (steady s x) _ y) (unfold steady in (ap not q)),
          )
      both_ways z false q =
          let h = held_here b.broke (n + 1) (rewrites s x) q in
          let v = g.holds (h ∙ z) in
          let u : steady s x ≡ true = unfold steady in (ap not q) in
          (λ y. and_both u (v.0 y), λ y. v.1 (and_right (steady s x) _ y))

  pub along : (n : ℕ) (b : Bound) (s : Aic) (xs : List Step) → 2 ≤ b.wait → Fit b s → Waits k s xs → Grew k b s xs (bound_over k n b s xs)
  unfolding bound_over
  along n b s [] l f h =
      record {
        started = unfold count in (omega arith);
        same = refl;
        within = f.within;
        counts = λ i m q. one_none i s (bit b.on i) (f.lit i m q);
        pended = over_zero (bit b.rivals) _ b.pending (λ i m q. due-none i s (bit b.on i) (f.lit i m q));
        edged = over_zero (bit b.rivals) _ b.edges (λ i m q. count_none i s (bit b.on i) (edges i));
        commanded = over_zero (bit b.rivals) _ b.commands (λ i m q. count_none i s (bit b.on i) (sets i));
        turned = over_zero (bit b.rivals) _ b.turns (λ i m q. count_none i s (bit b.on i) (lifts i));
        closed_active = over_zero (bit b.rivals) _ b.closed (λ i m q. count_none i s (bit b.on i) (closes_hot i));
        carried = refl;
        holds = λ z. (λ _. unfold always in refl, λ _. z);
        stuck = λ z. refl;
      }
  along n b s (x ∷ xs) l f h =
      let q = stretch-first k s x xs h in
      let w : ℕ = b.wait + one (starts_other k s x) in
      rw (after_on k (n + 1) b s x l q.0 q.1)
      (more n (b.wait + one (starts_other k s x)) b s x xs _ refl f
      (along (n + 1) (grown (b.wait + one (starts_other k s x)) b (n + 1) s x) (step s x).aic xs (omega (arith, l))
      (fit-grown (b.wait + one (starts_other k s x)) (n + 1) b s x f) q.2))

-- ---- from the step that begins it

pub run_shaped : (s : Aic) (xs : List Step) → Shaped s → Shaped (run s xs)
unfolding run
run_shaped s [] h = h
run_shaped s (x ∷ xs) h = run_shaped (step s x).aic xs ((Controller.kept).step_shaped s x h)

module _ (k : ℕ) (s : Aic) (before : List Step) (x : Step) where
  abbrev t₀ : Aic
  t₀ = outset s before x

  pub begun-is : (during : List Step) → standing k 0 s before ≡ 0 → wait_after k 0 (run s before) x ≡ 2
      → bound_at k s (before ++ (x ∷ during)) ≡ bound_over k (0 + length before + 1) (fresh k t₀) t₀ during
  unfolding bound_at bound_over
  begun-is during z e =
      over_append k 0 (idle 0) s before (x ∷ during)
      ∙ ap (λ (b : Bound). bound_over k (0 + length before + 1) b t₀ during)
      (let v = over-wait k 0 (idle 0) s before ∙ z in
      after-begun k (0 + length before + 1) (bound_over k 0 (idle 0) s before) (run s before) x (ap (λ (w : ℕ). wait_after k w (run s before) x) v ∙ e) v)

  rival-bit : (i : ℕ) → i < 32 → bit (rivals_of k t₀) i ≡ rival_of t₀ k i
  rival-bit i l = bit-word_of 32 (rival_of t₀ k) i l

  on-first : (i : ℕ) → i < 32 → bit (rivals_of k t₀) i ≡ true → bit (enabled_of (rivals_of k t₀) t₀) i ≡ bit t₀.enabled i
  on-first i l r = bit-both (rivals_of k t₀) t₀.enabled i l ∙ ap (λ (y : Bool). y && bit t₀.enabled i) r

  first-term : (during : List Step) (g : ℕ → Aic → List Step → ℕ)
      → sum_over (bit (rivals_of k t₀)) (λ i. since (bit (enabled_of (rivals_of k t₀) t₀) i) i (g i) t₀ during) ≡ from_on k t₀ during g
  first-term during g =
      over-same (bit (rivals_of k t₀)) _ (λ i. once_on i (g i) t₀ during)
      (λ i l r. since_now (bit (enabled_of (rivals_of k t₀) t₀) i) i (g i) t₀ during (on-first i l r))
      ∙ over_tests (bit (rivals_of k t₀)) (rival_of t₀ k) (λ i. once_on i (g i) t₀ during) rival-bit

  first-due : (during : List Step)
      → sum_over (bit (enabled_of (rivals_of k t₀) t₀)) (due t₀)
      + sum_over (bit (rivals_of k t₀)) (λ i. due_left (bit (enabled_of (rivals_of k t₀) t₀) i) i t₀ during) ≡ from_on k t₀ during (λ i u ys. due u i)
  first-due during =
      omega (
        arith,
        over-within (bit (enabled_of (rivals_of k t₀) t₀)) (bit (rivals_of k t₀)) (due t₀) (fit-fresh k t₀).within,
        over_add (bit (rivals_of k t₀)) (λ i. pick (bit (enabled_of (rivals_of k t₀) t₀) i) (due t₀ i) 0)
            (λ i. due_left (bit (enabled_of (rivals_of k t₀) t₀) i) i t₀ during),
        over-same (bit (rivals_of k t₀))
            (λ i. pick (bit (enabled_of (rivals_of k t₀) t₀) i) (due t₀ i) 0 + due_left (bit (enabled_of (rivals_of k t₀) t₀) i) i t₀ during)
            (λ i. once_on i (λ u ys. due u i) t₀ during) (λ i l r. due_now (bit (enabled_of (rivals_of k t₀) t₀) i) i t₀ during (on-first i l r)),
        over_tests (bit (rivals_of k t₀)) (rival_of t₀ k) (λ i. once_on i (λ u ys. due u i) t₀ during) rival-bit,
      )

  -- what the rivals are allowed, by its five terms
  module _ (during : List Step) where
    abbrev D : ℕ → ℕ
    D i = once_on i (λ u ys. due u i) t₀ during

    abbrev E : ℕ → ℕ
    E i = once_on i (count (edges i)) t₀ during

    abbrev C : ℕ → ℕ
    C i = once_on i (count (sets i)) t₀ during

    abbrev L : ℕ → ℕ
    L i = once_on i (count (lifts i)) t₀ during

    abbrev H : ℕ → ℕ
    H i = once_on i (count (closes_hot i)) t₀ during

    sum-terms : allowed_before t₀ k during ≡ sum_over (rival_of t₀ k) D + sum_over (rival_of t₀ k) E + sum_over (rival_of t₀ k) C + sum_over (rival_of t₀ k) L
        + sum_over (rival_of t₀ k) H
    sum-terms =
        omega (
          arith,
          over-same (rival_of t₀ k) (λ i. allowed i t₀ during) (λ i. D i + E i + C i + L i + H i) (λ i l r. allowed-parts i t₀ during),
          over_add (rival_of t₀ k) (λ i. D i + E i + C i + L i) H,
          over_add (rival_of t₀ k) (λ i. D i + E i + C i) L,
          over_add (rival_of t₀ k) (λ i. D i + E i) C,
          over_add (rival_of t₀ k) D E,
        )

  pub terms_of : (during : List Step) → Waiting k s before x during → Terms k t₀ during (bound_at k s (before ++ (x ∷ during)))
  unfolding bound_of
  terms_of during w =
      rw (begun-is during w.none w.begun) (made (along k (0 + length before + 1) (fresh k t₀) t₀ during (omega arith) (fit-fresh k t₀) w.on))
    where
      counted : {r : Bound} → Grew k (fresh k t₀) t₀ during r → (i : ℕ) → i < 32 → (rival_of t₀ k i ≡ true) ⊎ (rival_of t₀ k i ≡ false)
          → one (bit r.on i) ≡ pick (rival_of t₀ k i) (once_on i (λ u ys. 1) t₀ during) 0
      counted g i l (inl q) =
          let v = rival-bit i l ∙ q in
          g.counts i l v ∙ since_now (bit (enabled_of (rivals_of k t₀) t₀) i) i (λ u ys. 1) t₀ during (on-first i l v) ∙ rw q (unfold pick in refl)
      counted {r} g i l (inr q) = rw q (unfold pick in (off (told (bit r.on i))))
        where
          off : (bit r.on i ≡ true) ⊎ (bit r.on i ≡ false) → one (bit r.on i) ≡ 0
          off (inl o) = clash (sym (rival-bit i l) ∙ g.within i l o) q
          off (inr o) = rw o

      made : {r : Bound} → Grew k (fresh k t₀) t₀ during r → Terms k t₀ during r
      made {r} g =
          let p : r.pending ≡ from_on k t₀ during (λ i u ys. due u i) = g.pended ∙ first-due during in
          let e : r.edges ≡ from_on k t₀ during (λ i. count (edges i)) = omega (arith, g.edged, first-term during (λ i. count (edges i))) in
          let c : r.commands ≡ from_on k t₀ during (λ i. count (sets i)) = omega (arith, g.commanded, first-term during (λ i. count (sets i))) in
          let l : r.turns ≡ from_on k t₀ during (λ i. count (lifts i)) = omega (arith, g.turned, first-term during (λ i. count (lifts i))) in
          let h : r.closed ≡ from_on k t₀ during (λ i. count (closes_hot i)) = omega (arith, g.closed_active, first-term during (λ i. count (closes_hot i))) in
          record {
            started = omega (arith, g.started);
            rival = λ i m. ap (λ (v : ℕ). bit v i) g.same ∙ rival-bit i m;
            counts = λ i m. counted g i m (told (rival_of t₀ k i));
            pended = p;
            edged = e;
            commanded = c;
            turned = l;
            closed_active = h;
            carried = g.carried;
            sum = omega (arith, p, e, c, l, h, g.carried, sum-terms during);
            holds = g.holds refl;
          }

  -- ---- what it bounds

  waits-all : (u : Aic) (xs : List Step) → waiting u k ≡ true → Waits k u xs → always steady u xs ≡ true → always (waits k) u xs ≡ true
  unfolding always waits
  waits-all u [] e h a = refl
  waits-all u (y ∷ ys) e h a =
      let q = stretch-first k u y ys h in
      and_both (and_both e (and_left (steady u y) _ a)) (waits-all (step u y).aic ys q.0 q.2 (and_right (steady u y) _ a))

  pub bounded_of : (during : List Step) → Shaped s → k < 32 → Waiting k s before x during → always steady t₀ during ≡ true
      → count (starts_other k) t₀ during ≤ bound_of (bound_at k s (before ++ (x ∷ during)))
  bounded_of during h l w q =
      let v = next_back 0 (waiting t₀ k) (starts_of k (run s before) x) (starts_other k (run s before) x) (omega (arith, w.begun)) in
      omega (
        arith,
        (terms_of during w).sum,
        (Rivals.kept).bound_on t₀ k during ((Controller.kept).step_shaped (run s before) x (run_shaped s before h)) l (waits-all t₀ during v.0 w.on q),
      )

  pub same-figure : (during : List Step) → Waiting k s before x during → AllOn t₀ k → Cool t₀ (rival_of t₀ k) during
      → bound_of (bound_at k s (before ++ (x ∷ during))) ≡ levels_before t₀ k during + one (carries k t₀)
  same-figure during w a c = omega (arith, (terms_of during w).sum, (Rivals.kept).same_levels t₀ k during a c)

-- ---- a source that waits is in a wait that began

abbrev Where : ℕ → ℕ → Aic → List Step → Type 0
Where k w s xs =
    (before : List Step) × (x : Step) × (during : List Step) × (xs ≡ before ++ (x ∷ during)) × (standing k w s before ≡ 0)
    × (wait_after k 0 (run s before) x ≡ 2) × Waits k (outset s before x) during

more-waits : (k : ℕ) (s : Aic) (x : Step) (xs : List Step) → waiting (step s x).aic k ≡ true → starts_of k s x ≡ false → Waits k (step s x).aic xs
    → Waits k s (x ∷ xs)
unfolding always count
more-waits k s x xs a o h = (rw a h.0, rw o (omega (arith, h.1)))

where-from : (k w : ℕ) (s : Aic) (xs : List Step) → 2 ≤ standing k w s xs → ((2 ≤ w) × Waits k s xs) ⊎ Where k w s xs
unfolding standing run
where-from k w s [] l = inl (l, unfold always count in ((refl, refl)))
where-from k w s (x ∷ xs) l = go (where-from k (wait_after k w s x) (step s x).aic xs l)
  where
    begun : waiting (step s x).aic k ≡ true → starts_of k s x ≡ false → wait_after k 0 s x ≡ 2
    begun a o = (Waited.kept).begins s k x a o

    here : 2 ≤ wait_after k w s x → Waits k (step s x).aic xs → (w ≡ 0) ⊎ (2 ≤ w) → waiting (step s x).aic k ≡ true → starts_of k s x ≡ false
        → ((2 ≤ w) × Waits k s (x ∷ xs)) ⊎ Where k w s (x ∷ xs)
    here m h (inl z) a o = inr ([], x, xs, refl, z, begun a o, h)
    here m h (inr g) a o = inl (g, more-waits k s x xs a o h)

    go : ((2 ≤ wait_after k w s x) × Waits k (step s x).aic xs) ⊎ Where k (wait_after k w s x) (step s x).aic xs
        → ((2 ≤ w) × Waits k s (x ∷ xs)) ⊎ Where k w s (x ∷ xs)
    go (inl (m, h)) =
        let v = next_back w (waiting (step s x).aic k) (starts_of k s x) (starts_other k s x) m in
        here m h v.2 v.0 v.1
    go (inr f) = inr (x ∷ f.0, f.1, f.2, ap (λ (q : List Step). x ∷ q) f.3, f.4, f.5, f.6)

pub wait_where : (s : Aic) (k : ℕ) (xs : List Step) → 2 ≤ (bound_at k s xs).wait
    → (before : List Step) × (x : Step) × (during : List Step) × (xs ≡ before ++ (x ∷ during)) × Waiting k s before x during
unfolding bound_at
wait_where s k xs l = go (where-from k 0 s xs (omega (arith, l, over-wait k 0 (idle 0) s xs)))
  where
    go : ((2 ≤ 0) × Waits k s xs) ⊎ Where k 0 s xs
        → (before : List Step) × (x : Step) × (during : List Step) × (xs ≡ before ++ (x ∷ during)) × Waiting k s before x during
    go (inl (m, h)) = absurd (omega (arith, m))
    go (inr f) = (f.0, f.1, f.2, f.3, record { none = f.4; begun = f.5; on = f.6 })

pub every-moment : (s : Aic) (k : ℕ) (xs : List Step) → Shaped s → k < 32 → 2 ≤ (bound_at k s xs).wait → (bound_at k s xs).broke ≡ 0
    → (bound_at k s xs).wait ≤ bound_of (bound_at k s xs) + 2
every-moment s k xs h l m z = go (wait_where s k xs m)
  where
    go : (before : List Step) × (x : Step) × (during : List Step) × (xs ≡ before ++ (x ∷ during)) × Waiting k s before x during
        → (bound_at k s xs).wait ≤ bound_of (bound_at k s xs) + 2
    go (before, x, during, e, w) =
        let c = terms_of k s before x during w in
        let q = ap (bound_at k s) e in
        let zz : (bound_at k s (before ++ (x ∷ during))).broke ≡ 0 = ap (λ (b : Bound). b.broke) (sym q) ∙ z in
        rw e (omega (arith, c.started, bounded_of k s before x during h l w (c.holds.0 zz)))

-- ---- where it breaks

pub broke-over : (k n : ℕ) (b : Bound) (u : Aic) (ys : List Step) (y : Step) (zs : List Step) → 2 ≤ b.wait → Fit b u → Waits k u (ys ++ (y ∷ zs))
    → b.broke ≡ 0
    → always steady u ys ≡ true → rewrites (run u ys) y ≡ true → (bound_over k n b u (ys ++ (y ∷ zs))).broke ≡ n + length ys + 1
unfolding bound_over run always
broke-over k n b u [] y zs l f h z a q =
    let v = stretch-first k u y zs h in
    let e = broken_here b.broke (n + 1) (rewrites u y) z q in
    let o = after_on k (n + 1) b u y l v.0 v.1 in
    let g = (along k (n + 1) (grown (b.wait + one (starts_other k u y)) b (n + 1) u y) (step u y).aic zs (omega (arith, l))
    (fit-grown (b.wait + one (starts_other k u y)) (n + 1) b u y f) v.2).stuck (λ m. absurd (omega (arith, e, m))) in
    ap (λ (r : Bound). (bound_over k (n + 1) r (step u y).aic zs).broke) o ∙ omega (arith, g, e)
broke-over k n b u (x ∷ ys) y zs l f h z a q =
    let v = stretch-first k u x (ys ++ (y ∷ zs)) h in
    let c : rewrites u x ≡ false = not-true (rewrites u x) (unfold steady in (and_left (steady u x) _ a)) in
    let o = after_on k (n + 1) b u x l v.0 v.1 in
    let g = broke-over k (n + 1) (grown (b.wait + one (starts_other k u x)) b (n + 1) u x) (step u x).aic ys y zs (omega (arith, l))
    (fit-grown (b.wait + one (starts_other k u x)) (n + 1) b u x f) v.2 (held_here b.broke (n + 1) (rewrites u x) c ∙ z) (and_right (steady u x) _ a) q in
    ap (λ (r : Bound). (bound_over k (n + 1) r (step u x).aic (ys ++ (y ∷ zs))).broke) o ∙ omega (arith, g)

pub broke_at : (s : Aic) (k : ℕ) (before : List Step) (x : Step) (ys : List Step) (y : Step) (zs : List Step) → Waiting k s before x (ys ++ (y ∷ zs))
    → always steady (outset s before x) ys ≡ true → rewrites (run (outset s before x) ys) y ≡ true
    → (bound_at k s (before ++ (x ∷ (ys ++ (y ∷ zs))))).broke ≡ length before + length ys + 2
broke_at s k before x ys y zs w h q =
    rw (begun-is k s before x (ys ++ (y ∷ zs)) w.none w.begun)
    (omega (
      arith,
      broke-over k (0 + length before + 1) (fresh k (outset s before x)) (outset s before x) ys y zs (omega arith) (fit-fresh k (outset s before x))
          w.on refl h q,
    ))
