-- The waits that are told are those of the run: each is one, and there are as many as begin.
use Prim.Native.Nat.{ℕ, ◌+◌, ◌≤◌, ◌<◌}
use mathlib.Core.Path.{◌≡◌, refl, sym, ap, ap₂, ◌∙◌}
use mathlib.Core.Bool.{Bool, true, false, ◌&&◌}
use mathlib.Core.List.{List, [], ◌∷◌, ◌++◌, append_assoc}
use mathlib.Core.Logic.{◌⊎◌, inl, inr}
use native.Mathlib.Nat.{zero-add}
use native.Mathlib.Omega.{arith}
use native.Mathlib.Decide.{dec_lt}
use lib.Dec.{ltb}
use lib.ListN.{length, length-append}
use borrow.Author.Tests.{ltb-true, lt-ltb, le-ltb}
use Rattle.words.specs.Choice.{pick}
use Rattle.words.specs.Counting.{one}
use Rattle.words.proofs.TruthLaws.{and_left, and_right, and_both}
use Rattle.steps.specs.declared.Step.{Step}
use Rattle.aic_record.specs.declared.Aic.{Aic}
use Rattle.aic_sources.specs.Normal.{waiting}
use Rattle.aic.specs.Model.{step}
use Rattle.aic_runs.specs.Counted.{starts_of, starts_other}
use Rattle.aic_runs.specs.Runs.{run, count, always}
use Rattle.aic_waits.specs.Figures.{wait_next, wait_after}
use Rattle.aic_waits.specs.Promises.{Waits}
use Rattle.aic_bounds.specs.declared.Bound.{Bound}
use Rattle.aic_bounds.specs.Bounds.{idle, bound_after, bound_over, bound_at}
use Rattle.aic_bounds.specs.Over.{begun_over, waits_begun}
use Rattle.aic_bounds.specs.Promises.{outset, Waiting, Ends}
use Rattle.aic_bounds.proofs.StepLaws.{next_on, next_back, after-wait, over_append}
use Rattle.aic_bounds.proofs.MostLaws.{outset-run}
use Rattle.aic_bounds.proofs.Promises as Bounds
use Rattle.trace_bounds.specs.Waits.{Wait, waited, only_if, ends, waits_from, waits_of}
use Rattle.trace_bounds.specs.Promises.{EndedAt, Told, Each}

-- ---- how many

only-length : (t : Bool) (w : Wait) → length (only_if t w) ≡ one t
unfolding only_if pick
only-length true w = refl
only-length false w = refl

-- a wait ends or stands: a step that ends one begins none
counts : (p q : ℕ) → one (ltb 1 p && ltb q 2) + one (ltb 1 q) ≡ one (ltb 1 p) + one (ltb p 2 && ltb 1 q)
counts p q = go (dec_lt p 2) (dec_lt q 2)
  where
    go : Dec (p < 2) → Dec (q < 2) → one (ltb 1 p && ltb q 2) + one (ltb 1 q) ≡ one (ltb 1 p) + one (ltb p 2 && ltb 1 q)
    go (yes l) (yes m) = rw (le-ltb 1 p (omega (arith, l)), le-ltb 1 q (omega (arith, m)), lt-ltb p 2 l) (omega arith)
    go (yes l) (no m) = rw (le-ltb 1 p (omega (arith, l)), lt-ltb 1 q (omega (arith, m)), lt-ltb p 2 l) (omega arith)
    go (no l) (yes m) = rw (lt-ltb 1 p (omega (arith, l)), le-ltb 1 q (omega (arith, m)), lt-ltb q 2 m, le-ltb p 2 (omega (arith, l))) (omega arith)
    go (no l) (no m) =
        rw (lt-ltb 1 p (omega (arith, l)), lt-ltb 1 q (omega (arith, m)), le-ltb q 2 (omega (arith, m)), le-ltb p 2 (omega (arith, l))) (omega arith)

many-from : (k n began : ℕ) (b : Bound) (s : Aic) (xs : List Step) → length (waits_from k n began b s xs) ≡ one (ltb 1 b.wait) + begun_over k b.wait s xs
unfolding waits_from begun_over
many-from k n began b s [] = omega (arith, only-length (ltb 1 b.wait) (waited began 0 b))
many-from k n began b s (x ∷ xs) =
    let c = bound_after k (n + 1) b s x in
    let v : c.wait ≡ wait_after k b.wait s x = after-wait k (n + 1) b s x in
    let us = only_if (ends b c) (waited began (n + 1) b) in
    let ws = waits_from k (n + 1) (pick (ltb b.wait 2) (n + 1) began) c (step s x).aic xs in
    omega (
      arith,
      length-append us ws,
      only-length (ends b c) (waited began (n + 1) b),
      many-from k (n + 1) (pick (ltb b.wait 2) (n + 1) began) c (step s x).aic xs,
      counts b.wait c.wait,
      ap (λ (w : ℕ). one (ltb b.wait 2 && ltb 1 w)) v,
      ap (λ (w : ℕ). begun_over k w (step s x).aic xs) v,
    )

pub many_are : (s : Aic) (k : ℕ) (xs : List Step) → length (waits_of k s xs) ≡ waits_begun k s xs
unfolding waits_of waits_begun
many_are s k xs = many-from k 0 0 (idle 0) s xs ∙ zero-add _

-- ---- which

each_append : (P : Wait → Type 0) (us ws : List Wait) → Each P us → Each P ws → Each P (us ++ ws)
each_append P [] ws a b = b
each_append P (u ∷ us) ws a b = (a.0, each_append P us ws a.1 b)

each-only : (P : Wait → Type 0) (t : Bool) (w : Wait) → (t ≡ true → P w) → Each P (only_if t w)
unfolding only_if pick
each-only P true w h = (h refl, tt)
each-only P false w h = tt

run_on : (s : Aic) (ps : List Step) (x : Step) → run s (ps ++ (x ∷ [])) ≡ (step (run s ps) x).aic
unfolding run
run_on s [] x = refl
run_on s (p ∷ ps) x = run_on (step s p).aic ps x

-- a wait that goes on for one step more
waits_on : (k : ℕ) (u : Aic) (during : List Step) (x : Step) → Waits k u during → waiting (step (run u during) x).aic k ≡ true → starts_of k (run u during) x ≡ false
    → Waits k u (during ++ (x ∷ []))
unfolding always count run
waits_on k u [] x h e f = (and_both e refl, rw f (omega arith))
waits_on k u (y ∷ ys) x h e f =
    let t = waits_on k (step u y).aic ys x (and_right (waiting (step u y).aic k) _ h.0, omega (arith, h.1)) e f in
    (and_both (and_left (waiting (step u y).aic k) _ h.0) t.0, omega (arith, h.1, t.1))

-- one that stood and is there no more has ended
ended_how : (w : ℕ) (waits own other : Bool) → 2 ≤ w → wait_next w waits own other < 2 → (waits ≡ false) ⊎ (own ≡ true)
ended_how w false own other l h = inl refl
ended_how w true true other l h = inr refl
ended_how w true false other l h = absurd (omega (arith, l, h, next_on w true false other l refl refl))

begun-two : (other : Bool) → wait_next 0 true false other ≡ 2
unfolding wait_next pick
begun-two other = refl

-- the wait that stands after the steps ps of a run began by this step
abbrev Began : ℕ → Aic → List Step → ℕ → Type 0
Began k s ps began =
    (before : List Step) × (x : Step) × (during : List Step) × (ps ≡ before ++ (x ∷ during)) × Waiting k s before x during × (began ≡ length before + 1)

module _ (k : ℕ) (s₀ : Aic) where
  next_at : (ps : List Step) (n : ℕ) (b : Bound) (s : Aic) (x : Step) → n ≡ length ps → b ≡ bound_at k s₀ ps → s ≡ run s₀ ps
      → bound_after k (n + 1) b s x ≡ bound_at k s₀ (ps ++ (x ∷ []))
  unfolding bound_at bound_over
  next_at ps n b s x en eb es =
      rw (en, eb, es)
      (ap (λ (m : ℕ). bound_after k (m + 1) (bound_over k 0 (idle 0) s₀ ps) (run s₀ ps) x) (sym (zero-add (length ps)))
      ∙ sym (over_append k 0 (idle 0) s₀ ps (x ∷ [])))

  next_began : (ps : List Step) (n began : ℕ) (b : Bound) (s : Aic) (x : Step) → n ≡ length ps → b ≡ bound_at k s₀ ps → s ≡ run s₀ ps
      → (2 ≤ b.wait → Began k s₀ ps began) → 2 ≤ wait_after k b.wait s x → Began k s₀ (ps ++ (x ∷ [])) (pick (ltb b.wait 2) (n + 1) began)
  next_began ps n began b s x en eb es h l =
      let v = next_back b.wait (waiting (step s x).aic k) (starts_of k s x) (starts_other k s x) l in
      go v.0 v.1 v.2
    where
      go : waiting (step s x).aic k ≡ true → starts_of k s x ≡ false → (b.wait ≡ 0) ⊎ (2 ≤ b.wait)
          → Began k s₀ (ps ++ (x ∷ [])) (pick (ltb b.wait 2) (n + 1) began)
      go e f (inl z) = (
        ps,
        x,
        [],
        refl,
        record {
          none = sym ((Bounds.kept).wait_is s₀ k ps) ∙ ap (λ (c : Bound). c.wait) (sym eb) ∙ z;
          begun =
              ap (λ (u : Aic). wait_after k 0 u x) (sym es)
              ∙ ap₂ (λ (p q : Bool). wait_next 0 p q (starts_other k s x)) e f
              ∙ begun-two (starts_other k s x);
          on = unfold always count in (refl, refl);
        },
        rw (lt-ltb b.wait 2 (omega (arith, z))) (unfold pick in (ap (λ (m : ℕ). m + 1) en)),
      )
      go e f (inr g) =
          let (before, y, during, p, w, q) = h g in
          let u : run (outset s₀ before y) during ≡ s = sym (outset-run s₀ before y during) ∙ ap (run s₀) (sym p) ∙ sym es in (
            before,
            y,
            during ++ (x ∷ []),
            ap (λ (r : List Step). r ++ (x ∷ [])) p ∙ append_assoc before (y ∷ during) (x ∷ []),
            record {
              none = w.none;
              begun = w.begun;
              on = waits_on k (outset s₀ before y) during x w.on (rw u e) (rw u f);
            },
            rw (le-ltb b.wait 2 g) (unfold pick in q),
          )

  module _ (xs₀ : List Step) where
    told-wait : (ps : List Step) (began n : ℕ) (b : Bound) (after : List Step) → ps ++ after ≡ xs₀ → b ≡ bound_at k s₀ ps → Began k s₀ ps began
        → Ends k (run s₀ ps) after → EndedAt after n (length ps + 1) → Told k s₀ xs₀ (waited began n b)
    told-wait ps began n b after ex eb (before, y, during, p, w, q) e h =
        record {
          before = before;
          by = y;
          during = during;
          after = after;
          whole =
              record {
                parts = sym ex ∙ ap (λ (r : List Step). r ++ after) p ∙ append_assoc before (y ∷ during) after;
                waits = w;
                ends = rw (sym (outset-run s₀ before y during), sym p) e;
              };
          began = q;
          ended = moved after (ap length p ∙ length-append before (y ∷ during)) h;
          bound = eb ∙ ap (bound_at k s₀) p;
        }
      where
        moved : (zs : List Step) → length ps ≡ length before + length (y ∷ during) → EndedAt zs n (length ps + 1) → EndedAt zs n (length before + length during + 2)
        moved [] m z = z
        moved (z ∷ zs) m z' = omega (arith, m, z')

    each_from : (ps : List Step) (n began : ℕ) (b : Bound) (s : Aic) (xs : List Step) → n ≡ length ps → ps ++ xs ≡ xs₀ → b ≡ bound_at k s₀ ps → s ≡ run s₀ ps
        → (2 ≤ b.wait → Began k s₀ ps began) → Each (Told k s₀ xs₀) (waits_from k n began b s xs)
    unfolding waits_from
    each_from ps n began b s [] en ex eb es h =
        each-only _ (ltb 1 b.wait) (waited began 0 b) (λ t. told-wait ps began 0 b [] ex eb (h (ltb-true 1 b.wait t)) tt refl)
    each_from ps n began b s (x ∷ xs) en ex eb es h =
        each_append _ (only_if (ends b c) (waited began (n + 1) b)) _ (each-only _ (ends b c) (waited began (n + 1) b) ended)
        (each_from (ps ++ (x ∷ [])) (n + 1) (pick (ltb b.wait 2) (n + 1) began) c (step s x).aic xs
        (omega (arith, en, length-append ps (x ∷ [])))
        (append_assoc ps (x ∷ []) xs ∙ ex)
        (next_at ps n b s x en eb es)
        (ap (λ (u : Aic). (step u x).aic) es ∙ sym (run_on s₀ ps x))
        (λ l. next_began ps n began b s x en eb es h (omega (arith, l, after-wait k (n + 1) b s x))))
      where
        c : Bound
        c = bound_after k (n + 1) b s x

        ended : ends b (bound_after k (n + 1) b s x) ≡ true → Told k s₀ xs₀ (waited began (n + 1) b)
        ended t =
            let l = ltb-true 1 b.wait (and_left (ltb 1 b.wait) _ t) in
            let m = ltb-true (bound_after k (n + 1) b s x).wait 2 (and_right (ltb 1 b.wait) _ t) in
            told-wait ps began (n + 1) b (x ∷ xs) ex eb (h l)
            (rw (sym es) (ended_how b.wait (waiting (step s x).aic k) (starts_of k s x) (starts_other k s x) l (omega (arith, m, after-wait k (n + 1) b s x))))
            (ap (λ (i : ℕ). i + 1) en)

pub each-is : (s : Aic) (k : ℕ) (xs : List Step) → Each (Told k s xs) (waits_of k s xs)
unfolding waits_of bound_at bound_over run
each-is s k xs = each_from k s xs [] 0 0 (idle 0) s xs refl refl refl refl (λ l. absurd (omega (arith, l)))
