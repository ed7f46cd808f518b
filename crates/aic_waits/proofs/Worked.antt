-- The worked run, computed from the definitions.
use mathlib.Core.Path.{◌≡◌, refl}
use Rattle.words.specs.Choice.{pick}
use Rattle.words.specs.Counting.{any_below, all_below, lowest_below}
use Rattle.words.specs.Word.{bit, kept, word_of, either, both, without, with_bit}
use Rattle.steps.specs.Refusals.{read_refusal, write_refusal, line_refusal}
use Rattle.aic_record.specs.Record.{reset}
use Rattle.aic_record.specs.Mode.{priority, kind, edge}
use Rattle.aic_record.specs.Sound.{level_below, over, entry_fits, entry_sound, free_sound, entries_sound, memory_sound, stored_sound, seen_fits, seen_sound, sound}
use Rattle.aic_sources.specs.Pending.{active_low, active_at, active, pending, asking, edge_word}
use Rattle.aic_sources.specs.Fast.{fast}
use Rattle.aic_sources.specs.Normal.{waiting, above, candidate, ahead, foremost, candidates, chosen}
use Rattle.aic_registers.specs.Map.{access}
use Rattle.aic_registers.specs.Handlers.{spent, opened, started_at, marked, closed_last, ended, ivr_taken, ivr_looked, ivr_read, begun, ivr_written}
use Rattle.aic_registers.specs.Effects.{moded, enabled_by, forced_by, unforced_by, turns, moved}
use Rattle.aic_registers.specs.Registers.{read_at, written_at}
use Rattle.aic.specs.Model.{read_number, write_number, line_number, read, write, line}
use Rattle.aic_runs.specs.Counted.{carried, takes, begins, started_by, starts_of, starts_other}
use Rattle.aic_runs.specs.Runs.{count}
use Rattle.aic_waits.specs.Figures.{started_of, wait_next, wait_most, waited_of, is_open, entries_most, entries_of}
use Rattle.aic_waits.specs.Worked.{busy}

pub record Worked : Type 0 where
  pub handlers : (started_of 2 (reset 0 0) busy ≡ 2) × (started_of 4 (reset 0 0) busy ≡ 2) × (started_of 7 (reset 0 0) busy ≡ 0) × (started_of 9 (reset 0 0) busy ≡ 0)
  pub longest : (waited_of 2 (reset 0 0) busy ≡ 1) × (waited_of 4 (reset 0 0) busy ≡ 0) × (waited_of 7 (reset 0 0) busy ≡ 4) × (waited_of 9 (reset 0 0) busy ≡ 0)
  pub deepest : (entries_of 2 (reset 0 0) busy ≡ 3) × (entries_of 4 (reset 0 0) busy ≡ 3) × (entries_of 7 (reset 0 0) busy ≡ 0) × (entries_of 0 (reset 0 0) busy ≡ 0)

pub worked : Worked
unfolding pick any_below all_below lowest_below bit kept word_of either both without with_bit read_refusal write_refusal line_refusal reset priority kind edge level_below over entry_fits entry_sound free_sound entries_sound memory_sound stored_sound seen_fits seen_sound sound active_low active_at active pending asking edge_word fast waiting above candidate ahead foremost candidates chosen access spent opened started_at marked closed_last ended ivr_taken ivr_looked ivr_read begun ivr_written moded enabled_by forced_by unforced_by turns moved read_at written_at read_number write_number line_number read write line carried takes begins started_by starts_of starts_other count started_of wait_next wait_most waited_of is_open entries_most entries_of busy
worked = record { handlers = (refl, refl, refl, refl); longest = (refl, refl, refl, refl); deepest = (refl, refl, refl, refl) }
