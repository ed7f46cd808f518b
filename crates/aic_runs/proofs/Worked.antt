-- The four worked runs, computed from the definitions.
use Prim.Native.Nat.{◌+◌}
use mathlib.Core.Path.{◌≡◌, refl}
use mathlib.Core.Bool.{true, false, not, ◌||◌}
use mathlib.Core.List.{[], ◌∷◌}
use Rattle.words.specs.Choice.{pick}
use Rattle.words.specs.Counting.{any_below, all_below, lowest_below, sum_below}
use Rattle.words.specs.Word.{bit, kept, word_of, either, both, without, with_bit}
use Rattle.steps.specs.declared.Step.TheVariants.{Read, Write}
use Rattle.steps.specs.Refusals.{read_refusal, write_refusal, line_refusal}
use Rattle.aic_record.specs.Record.{reset}
use Rattle.aic_record.specs.Mode.{priority, kind, edge}
use Rattle.aic_record.specs.Sound.{level_below, over, entry_fits, entry_sound, free_sound, entries_sound, memory_sound, stored_sound, seen_fits, seen_sound, sound}
use Rattle.aic_sources.specs.Pending.{active_low, active_at, active, pending, asking, edge_word}
use Rattle.aic_sources.specs.Fast.{fast, masked}
use Rattle.aic_sources.specs.Normal.{waiting, above, candidate, ahead, foremost, candidates, chosen, irq}
use Rattle.aic_registers.specs.Map.{access}
use Rattle.aic_registers.specs.Handlers.{spent, opened, started_at, marked, closed_last, ended, ivr_taken, ivr_looked, ivr_read, begun, ivr_written}
use Rattle.aic_registers.specs.Effects.{moded, enabled_by, set_by, debug_by, turns, moved}
use Rattle.aic_registers.specs.Registers.{read_at, written_at}
use Rattle.aic.specs.Model.{read_number, write_number, line_number, read, write, line}
use Rattle.aic_runs.specs.Counted.{carried, takes, begins, starts, started_by, carries, starts_of, starts_other, closes, rises, edges, commands, rewrites, steady, waits}
use Rattle.aic_runs.specs.Runs.{run, count, always, owed, received, sum_over}
use Rattle.aic_runs.specs.Worked.{ready, tower, crowded, outset, wait, stale, stale_wait}

-- what the first three runs come to
pub record Worked : Type 0 where
  pub eight : (run (reset 0 0) (tower 8)).depth ≡ 8
  pub levels : (run (reset 0 0) (tower 8)).level ≡ 0 ∷ 1 ∷ 2 ∷ 3 ∷ 4 ∷ 5 ∷ 6 ∷ 7 ∷ []
  pub depth : crowded.depth ≡ 8
  pub marks : crowded.source ≡ 0 ∷ 0 ∷ 0 ∷ 0 ∷ 0 ∷ 0 ∷ 0 ∷ 0 ∷ []
  pub none : crowded.level ≡ 255 ∷ 255 ∷ 255 ∷ 255 ∷ 255 ∷ 255 ∷ 255 ∷ 255 ∷ []
  pub behind : waits 1 crowded (Read 0x100) ≡ true
  pub highest : priority crowded 1 ≡ 7
  pub quiet : irq crowded ≡ false
  pub stopped : starts crowded (Read 0x100) ≡ false
  pub outside : bit crowded.debug 0 ≡ false
  pub loud : irq (run crowded (Write 0x130 0 ∷ [])) ≡ true
  pub next : started_by (run crowded (Write 0x130 0 ∷ [])) (Read 0x100) ≡ 1
  pub waited : always (waits 9) outset wait ≡ true
  pub edged : all_below 32 (λ i. not (ahead outset i 9) || edge outset i) ≡ true
  pub started : count (starts_other 9) outset wait ≡ 4
  pub allowed : sum_over (λ i. ahead outset i 9) (λ i. owed outset i + received i outset wait) ≡ 4
  pub pended : sum_over (λ i. ahead outset i 9) (owed outset) ≡ 1
  pub turned : sum_over (λ i. ahead outset i 9) (λ i. count (edges i) outset wait) ≡ 1
  pub commanded : sum_over (λ i. ahead outset i 9) (λ i. count (commands i) outset wait) ≡ 2
  pub closed : count closes outset wait ≡ 4
  pub left : (run outset wait).depth ≡ 1

pub worked : Worked
unfolding pick any_below all_below lowest_below sum_below bit kept word_of either both without with_bit read_refusal write_refusal line_refusal reset priority kind edge level_below over entry_fits entry_sound free_sound entries_sound memory_sound stored_sound seen_fits seen_sound sound active_low active_at active pending asking edge_word fast masked waiting above candidate ahead foremost candidates chosen irq access spent opened started_at marked closed_last ended ivr_taken ivr_looked ivr_read begun ivr_written moded enabled_by set_by debug_by turns moved read_at written_at read_number write_number line_number read write line carried takes begins starts started_by starts_of starts_other closes rises edges commands rewrites steady waits run count always owed received sum_over ready tower crowded outset wait
worked = record { eight = refl; levels = refl; depth = refl; marks = refl; none = refl; behind = refl; highest = refl; quiet = refl; stopped = refl; outside = refl; loud = refl; next = refl; waited = refl; edged = refl; started = refl; allowed = refl; pended = refl; turned = refl; commanded = refl; closed = refl; left = refl }

-- and the fourth
pub record Recalled : Type 0 where
  pub waited : always (waits 9) stale stale_wait ≡ true
  pub edged : all_below 32 (λ i. not (ahead stale i 9) || edge stale i) ≡ true
  pub started : count (starts_other 9) stale stale_wait ≡ 1
  pub allowed : sum_over (λ i. ahead stale i 9) (λ i. owed stale i + received i stale stale_wait) ≡ 0
  pub carried : carries 9 stale ≡ true

pub recalled : Recalled
unfolding pick any_below all_below lowest_below sum_below bit kept word_of either both without with_bit read_refusal write_refusal line_refusal reset priority kind edge level_below over entry_fits entry_sound free_sound entries_sound memory_sound stored_sound seen_fits seen_sound sound active_low active_at active pending asking edge_word fast waiting above candidate ahead foremost candidates chosen access spent opened started_at marked closed_last ended ivr_taken ivr_looked ivr_read begun ivr_written moded enabled_by set_by debug_by turns moved read_at written_at read_number write_number line_number read write line carried takes begins started_by starts_of starts_other closes rises edges commands rewrites steady waits run count always owed received sum_over ready stale stale_wait carries
recalled = record { waited = refl; edged = refl; started = refl; allowed = refl; carried = refl }
