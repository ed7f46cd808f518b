-- The promises of the figures, kept.
use Prim.Native.Nat.{ℕ, ◌<◌}
use mathlib.Core.Path.{◌≡◌, refl, sym, ap, ◌∙◌}
use mathlib.Core.List.{[]}
use native.Mathlib.Omega.{arith}
use lib.ListN.{get_or, replicate, get_or-replicate}
use Rattle.words.specs.Counting.{any_below}
use Rattle.words.specs.Choice.{pick}
use Rattle.aic_record.specs.declared.Aic.{Aic}
use Rattle.aic_record.specs.Record.{reset}
use Rattle.aic_record.proofs.Promises as Record
use Rattle.aic_runs.specs.Runs.{count}
use Rattle.aic_runs.proofs.Promises as Runs
use Rattle.aic_waits.specs.Figures.{started_of, wait_most, waited_of, is_open, entries_now, entries_most, entries_of}
use Rattle.aic_waits.specs.Following.{no_figures}
use Rattle.aic_waits.specs.Promises.{Promises}
use Rattle.aic_waits.proofs.RunLaws.{Whole, started-run, waited-run, entries-run}
use Rattle.aic_waits.proofs.TellLaws.{tells}
use Rattle.aic_waits.proofs.PromiseLaws.{started_own, started_else, open_is, entries_open, entries_shut, stretch, begins, ends, serves, served, keeps-waiting, zero-waited, zero_entries, zero_started, most_eight}
use Rattle.aic_waits.proofs.WaitLaws.{reached, largest}
use Rattle.aic_waits.proofs.NestingLaws.{deepest-reached, deepest-largest}
use Rattle.aic_waits.proofs.Worked.{worked}

whole : Whole no_figures
whole = (refl, refl, refl, refl)

zeros : (i : ℕ) → i < 32 → ◌≡◌ {A = ℕ} (get_or (replicate 32 0) i 0) 0
zeros i l = get_or-replicate 32 i 0 0 l

-- after reset nothing is open
reset_now : (external lines i : ℕ) → entries_now (reset external lines) i ≡ 0
unfolding reset is_open any_below pick
reset_now external lines i = refl

started_none : (s : Aic) (i : ℕ) → started_of i s [] ≡ 0
unfolding started_of count
started_none s i = refl

pub kept : Promises
unfolding started_of waited_of entries_of
kept =
    record {
      started_none = started_none;
      started_own = λ s i x xs l e. started_own s i x xs e;
      started_else = λ s i x xs l n. started_else s i x xs n;
      open_is = open_is;
      entries_open = entries_open;
      entries_shut = entries_shut;
      started_is = λ external lines i xs l m. started-run i l no_figures (reset external lines) xs whole (omega (arith, m, zeros i l)) ∙ omega (arith, zeros i l);
      waited_is = λ external lines i xs l m. waited-run i l no_figures (reset external lines) xs whole (omega (arith, m, zeros i l)) ∙ ap (λ (n : ℕ). wait_most i n n (reset external lines) xs) (zeros i l);
      entries_is = λ external lines i xs l. entries-run i l no_figures (reset external lines) xs whole ∙ ap (λ (n : ℕ). entries_most i n (reset external lines) xs) (zeros i l ∙ sym (reset_now external lines i));
      entries_tell = λ s x h ok. tells s x h.2 ok;
      stretch = stretch;
      bounded = λ s k xs l w h e. omega (arith, stretch s k 0 0 xs h (omega arith), (Runs.kept).bound s k xs l w e);
      reached = reached;
      largest = largest;
      deepest_reached = deepest-reached;
      deepest_largest = deepest-largest;
      begins = λ s i x w o. begins s i x w o;
      ends = λ s i w x e. ends s i w x e;
      serves = λ s i w x e o. serves s i w x e o;
      served = λ s i x e. served s i x e;
      keeps_waiting = keeps-waiting;
      zero = λ external lines xs. (
        zero_started (reset external lines) xs ((Record.kept).reset_shaped external lines) ((Record.kept).reset_sound external lines),
        zero-waited 0 (reset external lines) xs,
        rw (reset_now external lines 0) (zero_entries (reset external lines) xs),
      );
      eight = λ external lines i xs. most_eight i (entries_now (reset external lines) i) (reset external lines) xs ((Record.kept).reset_shaped external lines) ((Record.kept).reset_sound external lines) (omega (arith, reset_now external lines i));
      handlers = worked.handlers;
      longest = worked.longest;
      deepest = worked.deepest;
    }
