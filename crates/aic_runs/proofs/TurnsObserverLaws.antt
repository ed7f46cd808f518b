-- What each count says of a step, and what makes a step count: both ways, by offset and field.
use Prim.Native.Nat.{ℕ, ◌-◌, ◌≤◌, ◌<◌}
use mathlib.Core.Path.{◌≡◌, refl, sym, ap}
use mathlib.Core.Bool.{Bool, true, false, not, ◌&&◌, ◌||◌, and-true}
use mathlib.Core.Logic.{◌↔◌, ◌≢◌}
use native.Mathlib.Omega.{arith}
use lib.Dec.{eqb, leb}
use lib.ListN.{get_or}
use borrow.Author.Tests.{eqb-true, eqb-false, eq-eqb, ne_eqb, leb-true, le-leb, not-true}
use Rattle.words.specs.Choice.{pick}
use Rattle.words.specs.Counting.{one}
use Rattle.words.specs.Word.{bit}
use Rattle.words.proofs.TruthLaws.{and_left, and_right, and_both, clash}
use Rattle.words.proofs.CountingLaws.{any_some, some_any, one_le}
use Rattle.steps.specs.declared.Step.{Step}
use Rattle.steps.specs.declared.Step.TheVariants.{Read, Write, Line}
use Rattle.aic_record.specs.declared.Aic.{Aic}
use Rattle.aic_record.specs.Mode.{priority, edge}
use Rattle.aic_record.specs.Sound.{source_at, level_at}
use Rattle.aic_sources.specs.Pending.{active, pending}
use Rattle.aic_registers.specs.Effects.{turns}
use Rattle.aic.specs.Model.{step}
use Rattle.aic_runs.specs.Counted.{carried, closes, rises}
use Rattle.aic_runs.proofs.Promises as Runs
use Rattle.aic_runs.specs.Turns.{closes_of, closes_hot, cool, gains, gained, held, due}
use Rattle.aic_runs.specs.TurnsTables.{Counts, Dues, Gathers}

-- ---- closes

close-says : (i : ℕ) (s : Aic) (x : Step) → closes_of i s x ≡ true
    → (v : ℕ) × (x ≡ Write 0x130 v) × ((step s x).refusal ≡ 0) × (s.depth ≢ 0) × (i ≢ 0) × (get_or s.source (s.depth - 1) 0 ≡ i)
unfolding closes_of
close-says i s x h =
    let w = and_left (closes s x && not (eqb i 0)) _ h in
    let r = ((Runs.kept).counts s x).close.0 (and_left (closes s x) _ w) in (
      r.0,
      r.1,
      r.2,
      r.3,
      eqb-false i 0 (not-true (eqb i 0) (and_right (closes s x) _ w)),
      eqb-true (source_at s (s.depth - 1)) i (and_right (closes s x && not (eqb i 0)) _ h),
    )

closes_if : (i : ℕ) (s : Aic) (x : Step)
    → ((v : ℕ) × (x ≡ Write 0x130 v) × ((step s x).refusal ≡ 0) × (s.depth ≢ 0) × (i ≢ 0) × (get_or s.source (s.depth - 1) 0 ≡ i)) → closes_of i s x ≡ true
unfolding closes_of
closes_if i s x (v, e, r, d, z, q) =
    and_both (and_both (((Runs.kept).counts s x).close.1 (v, e, r, d)) (ap not (ne_eqb i 0 z))) (eq-eqb (source_at s (s.depth - 1)) i q)

hot-says : (i : ℕ) (s : Aic) (x : Step) → (closes_hot i s x ≡ true) ↔ ((closes_of i s x ≡ true) × (edge s i ≡ false) × (active s i ≡ true))
unfolding closes_hot
hot-says i s x = (
  λ h.
      let w = and_left (closes_of i s x && not (edge s i)) (active s i) h in (
        and_left (closes_of i s x) _ w,
        not-true (edge s i) (and_right (closes_of i s x) _ w),
        and_right (closes_of i s x && not (edge s i)) (active s i) h,
      ),
  λ (c, e, a). and_both (and_both c (ap not e)) a,
)

-- ---- turns

turn-says : (i : ℕ) (s : Aic) (x : Step) → rises i s x ≡ true → (l : ℕ) × (x ≡ Line i l) × ((step s x).refusal ≡ 0) × (turns s i (eqb l 1) ≡ true)
unfolding rises carried
turn-says i s (Read o) h = clash h refl
turn-says i s (Write o v) h = clash h refl
turn-says i s (Line k l) h =
    let a = eqb (step s (Line k l)).refusal 0 in
    let c = and_left (a && eqb i k) (turns s k (eqb l 1)) h in
    let e : i ≡ k = eqb-true i k (and_right a (eqb i k) c) in (
      l,
      ap (λ (n : ℕ). Line n l) (sym e),
      eqb-true (step s (Line k l)).refusal 0 (and_left a (eqb i k) c),
      rw e (and_right (a && eqb i k) (turns s k (eqb l 1)) h),
    )

turns_if : (i : ℕ) (s : Aic) (x : Step) (l : ℕ) → x ≡ Line i l → (step s x).refusal ≡ 0 → turns s i (eqb l 1) ≡ true → rises i s x ≡ true
unfolding rises carried
turns_if i s x l e r t = rw e (and_both (and_both (eq-eqb (step s (Line i l)).refusal 0 (rw e at r)) (eq-eqb i i refl)) t)

pub counts_of : (i : ℕ) (s : Aic) (x : Step) → Counts i s x
unfolding cool gains pick
counts_of i s x =
    record {
      close_of = (close-says i s x, closes_if i s x);
      hot = hot-says i s x;
      cool_is = (not-true (closes_hot i s x), λ h. ap not h);
      turn = (turn-says i s x, λ (l, e, r, t). turns_if i s x l e r t);
      gains_edge = λ e. rw e;
      gains_level = λ e. rw e;
    }

-- ---- what is due

held-says : (i : ℕ) (s : Aic) → held s i ≡ true
    → (d : ℕ) × (d < s.depth) × (i ≢ 0) × (get_or s.source d 0 ≡ i) × (priority s i ≤ get_or s.level d 0)
unfolding held
held-says i s h =
    let r = any_some s.depth (λ d. eqb (source_at s d) i && leb (priority s i) (level_at s d)) (and_right (not (eqb i 0)) _ h) in (
      r.0,
      r.1,
      eqb-false i 0 (not-true (eqb i 0) (and_left (not (eqb i 0)) _ h)),
      eqb-true (source_at s r.0) i (and_left (eqb (source_at s r.0) i) _ r.2),
      leb-true (priority s i) (level_at s r.0) (and_right (eqb (source_at s r.0) i) _ r.2),
    )

held_if : (i : ℕ) (s : Aic) (d : ℕ) → d < s.depth → i ≢ 0 → get_or s.source d 0 ≡ i → priority s i ≤ get_or s.level d 0 → held s i ≡ true
unfolding held
held_if i s d l z e p =
    and_both (ap not (ne_eqb i 0 z))
    (some_any s.depth (λ d. eqb (source_at s d) i && leb (priority s i) (level_at s d)) d l (and_both (eq-eqb (source_at s d) i e) (le-leb (priority s i) (level_at s d) p)))

due_edge : (i : ℕ) (s : Aic) → edge s i ≡ true → due s i ≡ one (bit s.memory i)
unfolding due pending pick
due_edge i s e = rw (e, and-true (bit s.memory i))

due-one : (i : ℕ) (s : Aic) → edge s i ≡ false → (due s i ≡ 1) ↔ ((active s i ≡ true) × (held s i ≡ false))
unfolding due pending pick
due-one i s e = rw e (λ h. go (active s i) (held s i) h, λ (a, h). rw (a, h))
  where
    go : (a h : Bool) → one (a && not h) ≡ 1 → (a ≡ true) × (h ≡ false)
    go true true q = absurd (omega arith)
    go true false q = (refl, refl)
    go false h q = absurd (omega arith)

due_small : (i : ℕ) (s : Aic) → due s i ≤ 1
unfolding due
due_small i s = one_le (pending s i && (edge s i || not (held s i)))

pub dues_of : (i : ℕ) (s : Aic) → Dues i s
dues_of i s =
    record {
      held_is = (held-says i s, λ (d, l, z, e, p). held_if i s d l z e p);
      due_edge = due_edge i s;
      due_one = due-one i s;
      due_small = due_small i s;
    }

pub gathered : Gathers
unfolding gained
gathered = record { gained_none = λ i s. refl; gained_more = λ i s x xs. refl; cool_of = λ s t xs. unfold cool in (λ h. h, λ h. h) }
