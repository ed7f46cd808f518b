-- The marked cases, computed from the definitions.
use mathlib.Core.Path.{◌≡◌, refl}
use mathlib.Core.Bool.{true}
use Rattle.words.specs.Choice.{pick}
use Rattle.words.specs.Counting.{upto, any_below, all_below, lowest_below, sum_below}
use Rattle.words.specs.Word.{bit, word_of, either, both, without, with_bit, kept, clean}
use Rattle.words.specs.Array.{clean_below, byte_of}
use Rattle.steps.specs.Refusals.{read_refusal, write_refusal, line_refusal}
use Rattle.aic_record.specs.Record.{reset}
use Rattle.aic_record.specs.Mode.{priority, kind, edge}
use Rattle.aic_record.specs.Sound.{level_below, over, entry_fits, entry_sound, free_sound, entries_sound, memory_sound, stored_sound, seen_fits, seen_sound, sound}
use Rattle.aic_sources.specs.Pending.{active_low, active_at, active, pending, asking, pending_word, edge_word}
use Rattle.aic_sources.specs.Fast.{fast, fast_asks, masked, fiq}
use Rattle.aic_sources.specs.Normal.{waiting, above, candidate, ahead, foremost, candidates, chosen, irq}
use Rattle.aic_registers.specs.Map.{access}
use Rattle.aic_registers.specs.Handlers.{spent, opened, started_at, marked, closed_last, ended, ivr_taken, ivr_looked, ivr_read, begun, ivr_written, fast_spent, fvr_read, current}
use Rattle.aic_registers.specs.Effects.{moded, vectored, enabled_by, cleared_by, forced_by, turns, moved}
use Rattle.aic_registers.specs.Registers.{stored, read_at, written_at}
use Rattle.aic.specs.Model.{start, outputs, read_number, write_number, line_number, read, write, line}
use Rattle.aic_runs.specs.Runs.{run}
use Rattle.aic_runs.specs.Worked.{ready, tower}
use Rattle.coreinterrupt.specs.Side.{clear_access, side_access, side_read, side_sound}
use Rattle.coreinterrupt.specs.Model as CoreInterrupt
use Rattle.cic_record.specs.Sound as Cic
use Rattle.cic_record.specs.Start.{fresh, configured, start as cic_start}
use Rattle.cic_registers.specs.Maps.{byte_read, map_read, byte_taken, map_taken, byte_put, map_put}
use Rattle.cic_registers.specs.Bits.{word_read}
use Rattle.cic_registers.specs.Map.{single_at, register_at, access_of}
use Rattle.cic_registers.specs.Registers as Registers
use Rattle.cic_registers.specs.Model.{read_as, write_as, step_as}
use Rattle.cases.specs.Cases.{ran, raise, answers, starts, marks, starts_none, pending_bit, same_list, same, higher_priority_starts, lower_number_starts, at_level_three, spurious_then, equal_priority_waits, next_priority_nests, level_not_cleared, disabled_edge, disabled_edge_kept, forced_nine, forced_is_fast, all_levels, eight_at_most, none_to_close, clear_of_none_read, clear_of_one_refused, cic, second_word_there, third_word_absent, channel_one_not_two, starred, holds}

pub cases_hold : holds starred ≡ true
unfolding run ready tower ran raise answers starts marks starts_none pending_bit same_list same higher_priority_starts lower_number_starts at_level_three spurious_then equal_priority_waits next_priority_nests level_not_cleared disabled_edge disabled_edge_kept forced_nine forced_is_fast all_levels eight_at_most none_to_close clear_of_none_read clear_of_one_refused cic second_word_there third_word_absent channel_one_not_two starred holds pick upto any_below all_below lowest_below sum_below bit word_of either both without with_bit kept clean clean_below byte_of read_refusal write_refusal line_refusal reset priority kind edge level_below over entry_fits entry_sound free_sound entries_sound memory_sound stored_sound seen_fits seen_sound sound active_low active_at active pending asking pending_word edge_word fast fast_asks masked fiq waiting above candidate ahead foremost candidates chosen irq access spent opened started_at marked closed_last ended ivr_taken ivr_looked ivr_read begun ivr_written fast_spent fvr_read current moded vectored enabled_by cleared_by forced_by turns moved stored read_at written_at read_number write_number line_number read write line start outputs clear_access side_access side_read side_sound CoreInterrupt.side CoreInterrupt.sound CoreInterrupt.within CoreInterrupt.all_within CoreInterrupt.start CoreInterrupt.unless_refused CoreInterrupt.fiq_offset CoreInterrupt.register CoreInterrupt.access CoreInterrupt.value_at CoreInterrupt.read Cic.within Cic.numbers_sound Cic.words_sound Cic.maps_sound Cic.entry_sound Cic.sound fresh configured cic_start byte_read map_read byte_taken map_taken byte_put map_put word_read single_at register_at access_of Registers.value_of Registers.value_refusal Registers.written_to read_as write_as step_as
cases_hold = refl
