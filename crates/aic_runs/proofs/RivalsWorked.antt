-- The worked stretches, computed from the definitions.
use mathlib.Core.Path.{◌≡◌, refl}
use Rattle.words.specs.Choice.{pick}
use Rattle.words.specs.Counting.{any_below, all_below, lowest_below, sum_below}
use Rattle.words.specs.Word.{bit, kept, word_of, either, both, without, with_bit}
use Rattle.steps.specs.Refusals.{read_refusal, write_refusal, line_refusal}
use Rattle.aic_record.specs.Record.{reset}
use Rattle.aic_record.specs.Mode.{priority, kind, edge}
use Rattle.aic_record.specs.Sound.{level_below, over, entry_fits, entry_sound, free_sound, entries_sound, memory_sound, stored_sound, seen_fits, seen_sound, sound}
use Rattle.aic_sources.specs.Pending.{active_low, active_at, active, pending, asking, edge_word}
use Rattle.aic_sources.specs.Fast.{fast}
use Rattle.aic_sources.specs.Normal.{waiting, above, candidate, ahead, foremost, candidates, chosen}
use Rattle.aic_registers.specs.Map.{access}
use Rattle.aic_registers.specs.Handlers.{spent, opened, started_at, marked, closed_last, ended, ivr_taken, ivr_looked, ivr_read, begun, ivr_written}
use Rattle.aic_registers.specs.Effects.{moded, enabled_by, turns, moved}
use Rattle.aic_registers.specs.Registers.{read_at, written_at}
use Rattle.aic.specs.Model.{read_number, write_number, line_number, read, write, line}
use Rattle.aic_runs.specs.Counted.{carried, takes, begins, started_by, starts_of, starts_other, closes, rises, edges, commands}
use Rattle.aic_runs.specs.Runs.{run, count, sum_over}
use Rattle.aic_runs.specs.Turns.{closes_of, closes_hot, gains, gained, held, due}
use Rattle.aic_runs.specs.Rivals.{chances, once_on, allowed}
use Rattle.aic_runs.specs.RivalsPromises.{allowed_before, levels_before}
use Rattle.aic_runs.specs.RivalsWorked as Runs

pub record Worked : Type 0 where
  pub noisy : (count (starts_other 9) (run (reset 0 0) Runs.begun) Runs.noisy ≡ 2) × (allowed_before (run (reset 0 0) Runs.begun) 9 Runs.noisy ≡ 2)
      × (levels_before (run (reset 0 0) Runs.begun) 9 Runs.noisy ≡ 1)
  pub off : (count (starts_other 9) (run (reset 0 0) Runs.behind) Runs.off ≡ 0) × (allowed_before (run (reset 0 0) Runs.behind) 9 Runs.off ≡ 0)
      × (levels_before (run (reset 0 0) Runs.behind) 9 Runs.off ≡ 3)
  pub midway : (count (starts_other 9) (run (reset 0 0) Runs.behind) Runs.midway ≡ 2) × (allowed_before (run (reset 0 0) Runs.behind) 9 Runs.midway ≡ 2)
      × (levels_before (run (reset 0 0) Runs.behind) 9 Runs.midway ≡ 3)

pub worked : Worked
unfolding pick any_below all_below lowest_below sum_below bit kept word_of either both without with_bit read_refusal write_refusal line_refusal reset priority kind edge level_below over entry_fits entry_sound free_sound entries_sound memory_sound stored_sound seen_fits seen_sound sound active_low active_at active pending asking edge_word fast waiting above candidate ahead foremost candidates chosen access spent opened started_at marked closed_last ended ivr_taken ivr_looked ivr_read begun ivr_written moded enabled_by turns moved read_at written_at read_number write_number line_number read write line carried takes begins started_by starts_of starts_other closes rises edges commands run sum_over closes_of closes_hot held due gains gained count chances once_on allowed Runs.begun Runs.noisy Runs.behind Runs.off Runs.midway
worked = record { noisy = (refl, refl, refl); off = (refl, refl, refl); midway = (refl, refl, refl) }
