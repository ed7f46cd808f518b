-- The two worked runs, computed from the definitions.
use mathlib.Core.Path.{◌≡◌, refl}
use mathlib.Core.Bool.{true, false}
use mathlib.Core.List.{[], ◌∷◌, ◌++◌}
use Rattle.words.specs.Choice.{pick}
use Rattle.words.specs.Counting.{any_below, all_below, lowest_below, sum_below}
use Rattle.words.specs.Word.{bit, kept, word_of, either, both, without, with_bit}
use Rattle.steps.specs.declared.Step.TheVariants.{Write}
use Rattle.steps.specs.Refusals.{read_refusal, write_refusal, line_refusal}
use Rattle.aic_record.specs.Record.{reset}
use Rattle.aic_record.specs.Mode.{priority, kind, edge}
use Rattle.aic_record.specs.Sound.{level_below, over, entry_fits, entry_sound, free_sound, entries_sound, memory_sound, stored_sound, seen_fits, seen_sound, sound}
use Rattle.aic_sources.specs.Pending.{active_low, active_at, active, pending, asking, edge_word}
use Rattle.aic_sources.specs.Fast.{fast}
use Rattle.aic_sources.specs.Normal.{waiting, above, candidate, ahead, foremost, candidates, chosen}
use Rattle.aic_registers.specs.Map.{access}
use Rattle.aic_registers.specs.Handlers.{spent, opened, started_at, marked, closed_last, ended, ivr_taken, ivr_looked, ivr_read, begun, ivr_written}
use Rattle.aic_registers.specs.Effects.{moded, enabled_by, disabled_by, forced_by, turns, moved}
use Rattle.aic_registers.specs.Registers.{read_at, written_at}
use Rattle.aic.specs.Model.{read_number, write_number, line_number, read, write, line}
use Rattle.aic_runs.specs.Counted.{carried, rewrites, steady}
use Rattle.aic_runs.specs.Runs.{run, always}
use Rattle.stack.specs.Bytes.{normal, is_of, taller, largest, level_bytes, stack_bytes, frame_of, open_bytes}
use Rattle.stack.specs.Kept.{same_mode, same_forcing, source_keeps, keeps, unkept, keeps_along}
use Rattle.stack.specs.KeptWorked.{pair, start_up, shifted, stacked, raised}

pub record Worked : Type 0 where
  pub shifts : (keeps_along pair (reset 0 0) shifted ≡ true) × (always steady (reset 0 0) shifted ≡ false)
      × (open_bytes pair (run (reset 0 0) shifted) ≡ 300) × (stack_bytes pair ≡ 300)
  pub raises : (keeps_along pair (reset 0 0) stacked ≡ true) × (keeps pair (run (reset 0 0) raised) ≡ true)
      × (keeps_along pair (reset 0 0) raised ≡ false) × (open_bytes pair (run (reset 0 0) raised) ≡ 400)
  pub tells : unkept pair (run (reset 0 0) (stacked ++ (Write 0x04 0x67 ∷ []))) ≡ 1

pub worked : Worked
unfolding pick any_below all_below lowest_below sum_below bit kept word_of either both without with_bit read_refusal write_refusal line_refusal reset priority kind edge level_below over entry_fits entry_sound free_sound entries_sound memory_sound stored_sound seen_fits seen_sound sound active_low active_at active pending asking edge_word fast waiting above candidate ahead foremost candidates chosen access spent opened started_at marked closed_last ended ivr_taken ivr_looked ivr_read begun ivr_written moded enabled_by disabled_by forced_by turns moved read_at written_at read_number write_number line_number read write line carried rewrites steady run always normal is_of taller largest level_bytes stack_bytes frame_of open_bytes same_mode same_forcing source_keeps keeps unkept keeps_along pair start_up shifted stacked raised
worked = record { shifts = (refl, refl, refl, refl); raises = (refl, refl, refl, refl); tells = refl }
