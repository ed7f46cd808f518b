-- A close with the line active leaves its source one start at most: counted, it needs no premise.
use Prim.Native.Nat.{ℕ, ◌+◌, ◌-◌, ◌≤◌, ◌<◌}
use mathlib.Core.Path.{◌≡◌, refl, ap, ◌∙◌}
use mathlib.Core.Bool.{Bool, true, false, not, ◌&&◌, ◌||◌}
use mathlib.Core.List.{List, [], ◌∷◌}
use mathlib.Core.Logic.{◌≢◌}
use native.Mathlib.Omega.{arith}
use lib.Dec.{eqb}
use borrow.Author.Tests.{eq-eqb, not-true}
use Rattle.words.specs.Choice.{pick}
use Rattle.words.specs.Counting.{one}
use Rattle.words.proofs.TruthLaws.{and_left, and_right, or_left, clash}
use Rattle.steps.specs.declared.Step.{Step}
use Rattle.aic_record.specs.declared.Aic.{Aic}
use Rattle.aic_record.specs.Mode.{priority, edge}
use Rattle.aic_record.specs.Sound.{source_at}
use Rattle.aic_record.specs.Promises.{Shaped}
use Rattle.aic_sources.specs.Fast.{fast}
use Rattle.aic_sources.specs.Normal.{ahead}
use Rattle.aic_sources.proofs.OrderLaws.{ahead_irreflexive}
use Rattle.aic_registers.specs.Handlers.{closed_last}
use Rattle.aic.specs.Model.{step}
use Rattle.aic.proofs.Promises as Controller
use Rattle.aic_runs.specs.Counted.{recalls, carries, starts_of, starts_other, starts, closes, steady, waits}
use Rattle.aic_runs.specs.Runs.{run, count, always, sum_over}
use Rattle.aic_runs.specs.Promises.{rival_of}
use Rattle.aic_runs.proofs.CountedLaws.{write-start, no_start}
use Rattle.aic_runs.proofs.RunLaws.{not_rewritten, over_le, over_add, starts-over, remembered_once, wide_order, waits-steady}
use Rattle.aic_runs.proofs.Promises as Runs
use Rattle.aic_runs.specs.Turns.{closes_of, closes_hot, gains, gained, due}
use Rattle.aic_runs.proofs.DueLaws.{ready, two, claim, claim-low, claim-high, claim_law, ready-due}
use Rattle.aic_runs.specs.Rivals.{chances}

-- ---- one step

hot-closes : (i : ℕ) (s : Aic) (x : Step) → closes_hot i s x ≡ true → closes s x ≡ true
unfolding closes_hot closes_of
hot-closes i s x h =
    let o = closes s x && not (eqb i 0) && eqb (source_at s (s.depth - 1)) i in
    and_left (closes s x) _ (and_left (closes s x && not (eqb i 0)) _ (and_left o _ (and_left (o && not (edge s i)) _ h)))

-- whatever a source is due before and after
two-more : (f d e c : Bool) → two f e c ≤ two f d c + 1
unfolding two pick
two-more true d e true = one_more d e
  where
    one_more : (d e : Bool) → one (e || true) ≤ one (d || true) + 1
    one_more true true = omega arith
    one_more true false = omega arith
    one_more false true = omega arith
    one_more false false = omega arith
two-more true d true false = omega arith
two-more true d false false = omega arith
two-more false d true c = omega arith
two-more false d false c = omega arith

closed-claim : (s : Aic) (i : ℕ) → claim (closed_last s) i ≤ claim s i + 1
unfolding claim recalls priority closed_last
closed-claim s i = two-more (eqb s.seen.level (priority s i)) (ready s i) (ready (closed_last s) i) (recalls i s)

close_no-start : (i : ℕ) (s : Aic) (x : Step) → i < 32 → closes s x ≡ true → starts_of i s x ≡ false
close_no-start i s x l c =
    let r = ((Runs.kept).counts s x).close.0 c in
    no_start s x (ap (λ (y : Step). starts s y) r.1 ∙ write-start s 0x130 r.0 (omega arith)) i l

hot-claim : (i : ℕ) (s : Aic) (x : Step) → i < 32 → closes_hot i s x ≡ true → claim (step s x).aic i + one (starts_of i s x) ≤ claim s i + gains i s x + 1
hot-claim i s x l h =
    let c = hot-closes i s x h in
    omega (arith, closed-claim s i, ap (λ (u : Aic). claim u i) ((Runs.kept).close_is s x c), ap one (close_no-start i s x l c))

any-claim : (i : ℕ) (s : Aic) (x : Step) → i < 32 → i ≢ 0 → Shaped s → steady s x ≡ true
    → claim (step s x).aic i + one (starts_of i s x) ≤ claim s i + gains i s x + one (closes_hot i s x)
any-claim i s x l z h a = go (closes_hot i s x) refl
  where
    go : (b : Bool) → closes_hot i s x ≡ b → claim (step s x).aic i + one (starts_of i s x) ≤ claim s i + gains i s x + one b
    go true e = hot-claim i s x l e
    go false e = omega (arith, claim_law s i l z h x (not_rewritten s x a) e)

-- ---- a run

hot_source : (i : ℕ) → i < 32 → i ≢ 0 → (s : Aic) (xs : List Step) → Shaped s → always steady s xs ≡ true
    → claim (run s xs) i + count (starts_of i) s xs ≤ claim s i + gained i s xs + count (closes_hot i) s xs
unfolding run count always gained
hot_source i l z s [] h a = omega arith
hot_source i l z s (x ∷ xs) h a =
    omega (
      arith,
      any-claim i s x l z h (and_left (steady s x) _ a),
      hot_source i l z (step s x).aic xs ((Controller.kept).step_shaped s x h) (and_right (steady s x) _ a),
    )

not_nought : (s : Aic) (i : ℕ) → fast s i ≡ false → i ≢ 0
unfolding fast
not_nought s i f e = clash (or_left _ (eq-eqb i 0 e)) f

pub per_source_hot : (s : Aic) (i : ℕ) (xs : List Step) → Shaped s → i < 32 → fast s i ≡ false → always steady s xs ≡ true
    → count (starts_of i) s xs + due (run s xs) i ≤ chances i s xs + one (recalls i s)
unfolding chances
per_source_hot s i xs h l f a =
    let z = not_nought s i f in
    omega (arith, claim-high s i, claim-low (run s xs) i, hot_source i l z s xs h a, ready-due s i z, ready-due (run s xs) i z)

-- ---- while source k waits

pub normal_of : (s : Aic) (k i : ℕ) → rival_of s k i ≡ true → fast s i ≡ false
normal_of s k i r = not-true (fast s i) (and_right (ahead s i k) _ r)

-- what holds of each source ahead that is not fast holds of them together
pub bound-over : (s : Aic) (k : ℕ) (xs : List Step) (f : ℕ → ℕ) → k < 32 → always (waits k) s xs ≡ true
    → ((i : ℕ) → i < 32 → fast s i ≡ false → count (starts_of i) s xs ≤ f i + one (recalls i s))
    → count (starts_other k) s xs ≤ sum_over (rival_of s k) f + one (carries k s)
bound-over s k xs f l w each =
    omega (
      arith,
      starts-over k (rival_of s k) s xs,
      wide_order s k l (rival_of s k) (λ j r. r) xs w,
      remembered_once k (rival_of s k) s (rw (ahead_irreflexive s k)),
      over_add (rival_of s k) f (λ i. one (recalls i s)),
      over_le (rival_of s k) (λ i. count (starts_of i) s xs) (λ i. f i + one (recalls i s)) (λ i m r. each i m (normal_of s k i r)),
    )

pub bound_hot : (s : Aic) (k : ℕ) (xs : List Step) → Shaped s → k < 32 → always (waits k) s xs ≡ true
    → count (starts_other k) s xs ≤ sum_over (rival_of s k) (λ i. chances i s xs) + one (carries k s)
bound_hot s k xs h l w = bound-over s k xs (λ i. chances i s xs) l w (λ i m f. omega (arith, per_source_hot s i xs h m f (waits-steady k s xs w)))
