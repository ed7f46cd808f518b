-- The promises of runs, kept.
use Prim.Native.Nat.{ℕ, ◌+◌, ◌-◌, ◌≤◌, ◌<◌}
use mathlib.Core.Path.{◌≡◌, refl, ap}
use mathlib.Core.Bool.{true, false, not, ◌||◌}
use mathlib.Core.List.{List}
use mathlib.Core.Logic.{◌≢◌, ◌⊎◌, ⊎_elim}
use native.Mathlib.Omega.{arith}
use lib.ListN.{set}
use borrow.Author.Tests.{ne_eqb, not-true}
use Rattle.words.specs.Counting.{one, all_below}
use Rattle.words.proofs.TruthLaws.{and_left, or-either, clash}
use Rattle.words.proofs.CountingLaws.{all_at}
use Rattle.steps.specs.declared.Step.{Step}
use Rattle.steps.specs.declared.Step.TheVariants.{Read}
use Rattle.aic_record.specs.declared.Aic.{Aic}
use Rattle.aic_record.specs.Record.{with_handlers, reset}
use Rattle.aic_record.specs.Mode.{edge}
use Rattle.aic_record.specs.Sound.{sound}
use Rattle.aic_record.specs.Promises.{Shaped}
use Rattle.aic_record.proofs.SoundLaws.{sound-is, rising}
use Rattle.aic_record.proofs.Promises as Record
use Rattle.aic_sources.specs.Fast.{fast}
use Rattle.aic_sources.specs.Normal.{ahead}
use Rattle.aic_sources.proofs.OrderLaws.{ahead_irreflexive}
use Rattle.aic_registers.specs.declared.Answer.{Answer}
use Rattle.aic_registers.specs.Handlers.{closed_last}
use Rattle.aic.specs.Model.{step}
use Rattle.aic.proofs.HandlerLaws.{started-is}
use Rattle.aic_runs.specs.Counted.{starts, carries, starts_other, strays, closes, waits}
use Rattle.aic_runs.specs.Runs.{run, count, always, EachStart, owed, received, sum_over}
use Rattle.aic_runs.specs.Worked.{ready, tower, crowded, outset, wait, stale, stale_wait}
use Rattle.aic_runs.specs.Tables.{Gathers, Steps}
use Rattle.aic_runs.specs.Promises.{Promises, Nested, EdgeTriggered, ahead_of, rival_of}
use Rattle.aic_runs.proofs.ObserverLaws.{counts_of}
use Rattle.aic_runs.proofs.CountedLaws.{started-room}
use Rattle.aic_runs.proofs.StepLaws.{unseen, start_law, close_law, other_law}
use Rattle.aic_runs.proofs.RunLaws.{balance, per_source, bound-over, wide_order, wide_who, lost_le, each_start, waits-steady}
use Rattle.aic_runs.proofs.SoundRuns.{run_sound, never_twelve}
use Rattle.aic_runs.proofs.Worked.{worked, recalled}
use Rattle.aic.proofs.Promises as Controller

from-reset : (external lines : ℕ) (xs : List Step)
    → ((run (reset external lines) xs).depth ≡ count starts (reset external lines) xs - count closes (reset external lines) xs)
    × (count closes (reset external lines) xs ≤ count starts (reset external lines) xs)
from-reset external lines xs =
    let z : (reset external lines).depth ≡ 0 = unfold reset in refl in
    let b = balance (reset external lines) xs in
    (omega arith, omega arith)

-- every rival of k is ahead of it
wide : (s : Aic) (k j : ℕ) → rival_of s k j ≡ true → ahead_of s k j ≡ true
wide s k j h = and_left (ahead s j k) (not (fast s j)) h

order : (s : Aic) (k : ℕ) (xs : List Step) → k < 32 → always (waits k) s xs ≡ true → count (strays (ahead_of s k) k) s xs ≤ one (carries k s)
order s k xs l w = omega (arith, wide_order s k l (ahead_of s k) (wide s k) xs w, lost_le (ahead_of s k) k s)

order_who : (s : Aic) (k : ℕ) (xs : List Step) → k < 32 → always (waits k) s xs ≡ true
    → EachStart (λ j. j ≢ k → (ahead s j k ≡ true) ⊎ ((carries k s ≡ true) × (j ≡ s.seen.source))) s xs
order_who s k xs l w = wide_who s k l (ahead_of s k) (wide s k) xs w

-- with no source remembered none is carried
carries-none : (s : Aic) (k : ℕ) → s.seen.what ≢ 1 → carries k s ≡ false
unfolding carries
carries-none s k n = rw (ne_eqb s.seen.what 1 n)

order-plain : (s : Aic) (k : ℕ) (xs : List Step) → s.seen.what ≢ 1 → k < 32 → always (waits k) s xs ≡ true → EachStart (λ j. j ≢ k → ahead s j k ≡ true) s xs
order-plain s k xs n l w =
    each_start (λ j. j ≢ k → (ahead s j k ≡ true) ⊎ ((carries k s ≡ true) × (j ≡ s.seen.source))) (λ j. j ≢ k → ahead s j k ≡ true)
    (λ j h d. ⊎_elim (λ (e : ahead s j k ≡ true). e) (λ (e : (carries k s ≡ true) × (j ≡ s.seen.source)). clash e.0 (carries-none s k n)) (h d)) s xs
    (order_who s k xs l w)

bound : (s : Aic) (k : ℕ) (xs : List Step) → k < 32 → always (waits k) s xs ≡ true → EdgeTriggered s (ahead_of s k)
    → count (starts_other k) s xs ≤ sum_over (ahead_of s k) (λ i. owed s i + received i s xs) + one (carries k s)
bound s k xs l w e = bound-over k (ahead_of s k) s xs (ahead_irreflexive s k) (wide_order s k l (ahead_of s k) (wide s k) xs w) (waits-steady k s xs w) e

bound-plain : (s : Aic) (k : ℕ) (xs : List Step) → s.seen.what ≢ 1 → k < 32 → always (waits k) s xs ≡ true → EdgeTriggered s (ahead_of s k)
    → count (starts_other k) s xs ≤ sum_over (ahead_of s k) (λ i. owed s i + received i s xs)
bound-plain s k xs n l w e = omega (arith, bound s k xs l w e, ap one (carries-none s k n))

bound-normal : (s : Aic) (k : ℕ) (xs : List Step) → k < 32 → always (waits k) s xs ≡ true → EdgeTriggered s (rival_of s k)
    → count (starts_other k) s xs ≤ sum_over (rival_of s k) (λ i. owed s i + received i s xs) + one (carries k s)
bound-normal s k xs l w e =
    bound-over k (rival_of s k) s xs (rw (ahead_irreflexive s k)) (wide_order s k l (rival_of s k) (λ j h. h) xs w) (waits-steady k s xs w) e

edge_triggered : (s : Aic) → all_below 32 (λ j. not (ahead s j 9) || edge s j) ≡ true → EdgeTriggered s (ahead_of s 9)
edge_triggered s t i l a =
    ⊎_elim (λ (h : not (ahead s i 9) ≡ true). clash a (not-true (ahead s i 9) h)) (λ (h : edge s i ≡ true). h)
    (or-either (not (ahead s i 9)) (edge s i) (all_at 32 (λ j. not (ahead s j 9) || edge s j) t i l))

nested_on : (s : Aic) → Shaped s → sound s ≡ true → (xs : List Step) → Nested (run s xs)
nested_on s h ok xs =
    let r = sound-is (run s xs) (run_sound s xs h ok) in
    record { rising = rising (run s xs) r; small = r.levels; eight = r.entries }

reached-sound : (external lines : ℕ) (xs : List Step) → sound (run (reset external lines) xs) ≡ true
reached-sound external lines xs = run_sound (reset external lines) xs ((Record.kept).reset_shaped external lines) ((Record.kept).reset_sound external lines)

-- with eight entries open a vector read changes nothing
crowded-same : (step crowded (Read 0x100)).aic ≡ crowded
crowded-same =
    ap (λ (a : Answer). a.aic)
    ((Controller.kept).vector_full crowded (unfold crowded in (reached-sound 0 0 _)) worked.outside (omega (arith, worked.depth)))

gathered : Gathers
unfolding run count always EachStart owed received sum_over
gathered =
    record {
      run_none = λ s. refl;
      run_more = λ s x xs. refl;
      count_none = λ t s. refl;
      count_more = λ t s x xs. refl;
      always_none = λ t s. refl;
      always_more = λ t s x xs. refl;
      each_more = λ P s x xs. (λ h. h, λ h. h);
      owed_is = λ s i. refl;
      received_is = λ i s xs. refl;
      sum_is = λ t f. refl;
    }

steps_worked : Steps
unfolding ready tower crowded outset wait stale stale_wait
steps_worked = record { tower_none = refl; tower_more = λ n. refl; crowded_is = refl; outset_is = refl; wait_is = refl; stale_is = refl; stale_wait_is = refl }

closed_is : (s : Aic) → closed_last s ≡ with_handlers s (set s.source (s.depth - 1) 0) (set s.level (s.depth - 1) 0) (s.depth - 1)
unfolding closed_last
closed_is s = refl

pub kept : Promises
kept =
    record {
      counts = counts_of;
      gathers = gathered;
      worked = steps_worked;
      started_is = started-is;
      closed_is = closed_is;
      entries = from-reset;
      balance = balance;
      nested = λ external lines xs. nested_on (reset external lines) ((Record.kept).reset_shaped external lines) ((Record.kept).reset_sound external lines) xs;
      nested_on = nested_on;
      eight_open = (worked.eight, worked.levels);
      eight_marks = (
        worked.depth,
        worked.marks,
        worked.none,
        worked.behind,
        worked.highest,
        worked.quiet,
        worked.stopped,
        crowded-same,
        worked.loud,
        worked.next,
      );
      start_is = λ s x l. let h = started-room s x l in (h, (start_law s x h).0 l);
      mark_is = λ s x h l. (start_law s x h).1 l;
      start_forgets = λ s x h. (start_law s x h).2;
      close_is = close_law;
      other_is = other_law;
      order = order;
      order_who = order_who;
      order_plain = order-plain;
      per_source = λ s i xs l e h. per_source i l s xs e h;
      bound = bound;
      bound_plain = bound-plain;
      outside = λ s ok i w. omega (arith, unseen s ok i);
      bound_normal = bound-normal;
      bound_met = (worked.waited, edge_triggered outset worked.edged, worked.started, worked.allowed);
      bound_parts = (worked.pended, worked.turned, worked.commanded, worked.closed, worked.left);
      extra_needed = (recalled.waited, edge_triggered stale recalled.edged, recalled.started, recalled.allowed, recalled.carried);
      reached_sound = reached-sound;
      never_twelve = λ external lines xs x. never_twelve (run (reset external lines) xs) x (reached-sound external lines xs);
    }
