-- What an example unfolds so that the steps of a machine are worked out from the definitions, by kind; and how a CIC's go without a look at all of its record.
use mathlib.Core.Path.{◌≡◌, sym, ap, ◌∙◌}
use mathlib.Core.Bool.{Bool, true}
use Rattle.words.specs.Array.{bit_at, with_bit_at, byte_of}
use Rattle.words.specs.Choice.{pick}
use Rattle.words.specs.Counting.{upto, any_below, all_below, count_below, lowest_below, sum_below}
use Rattle.words.specs.Word.{bit, word_of, either, both, without, with_bit, kept, clean}
use Rattle.words.proofs.ChoiceLaws.{pick_true}
use Rattle.steps.specs.declared.Recorded.{Recorded}
use Rattle.steps.specs.Refusals.{read_refusal, write_refusal, line_refusal}
use Rattle.aic_record.specs.Record.{reset}
use Rattle.aic_record.specs.Mode.{priority, kind, edge}
use Rattle.aic_record.specs.Sound.{level_below, over, entry_fits, entry_sound, free_sound, entries_sound, memory_sound, stored_sound, seen_fits, seen_sound, sound as aic_sound}
use Rattle.aic_sources.specs.Pending.{active_low, active_at, active, pending, asking, pending_word, edge_word}
use Rattle.aic_sources.specs.Fast.{fast, fast_asks, masked, fiq}
use Rattle.aic_sources.specs.Normal.{waiting, above, candidate, ahead, foremost, candidates, chosen, irq}
use Rattle.aic_registers.specs.Map.{access}
use Rattle.aic_registers.specs.Handlers.{spent, opened, started_at, marked, closed_last, ended, ivr_taken, ivr_looked, ivr_read, begun, ivr_written, fast_spent, fvr_read, current}
use Rattle.aic_registers.specs.Effects.{moded, vectored, enabled_by, disabled_by, set_by, cleared_by, debug_by, forced_by, unforced_by, turns, moved}
use Rattle.aic_registers.specs.Registers.{output_bits, stored, read_at, written_at}
use Rattle.aic.specs.Model.{within as aic_within, start as aic_start, read_number, write_number, line_number, read, write, line, outputs as aic_outputs}
use Rattle.coreinterrupt.specs.Side.{raw, status, active as side_active, output_level, clear_access, side_access, side_read, set_bits, clear_bits, side_write, moved as side_moved, side_sound}
use Rattle.coreinterrupt.specs.Model.{side, with_side, sound as core_sound, within as core_within, all_within, start as core_start, unless_refused, fiq_offset, register, access as core_access, value_at, written, read as core_read, write as core_write, fiq_line, input, line_moved, line as core_line, outputs as core_outputs}
use Rattle.cic_record.specs.Sound.{within as cic_within}
use Rattle.cic_record.specs.Start.{fresh, configured, start as cic_start}
use Rattle.cic_registers.specs.Hosts.{raises, asserted, outputs as cic_outputs, shown as cic_shown}
use Rattle.cic_registers.specs.Map.{single_at, register_at, access_of}
use Rattle.cic_registers.specs.Maps.{byte_read, map_read, byte_taken, map_taken, byte_put, map_put}
use Rattle.cic_registers.specs.Registers.{value_of, value_refusal as cic_value_refusal, written_to}
use Rattle.cic_registers.specs.Bits.{word_read, bits_set, bits_cleared, word_replaced}
use Rattle.cic_registers.specs.Model.{read_as, write_as, moved as cic_moved, line_as, step_as}
use Rattle.aintc_record.specs.Bounds.{chosen_bounded, bounded}
use Rattle.aintc_record.specs.Record.{side as aintc_side, reset as aintc_reset, blank as aintc_blank}
use Rattle.aintc_record.specs.Route.{priority as aintc_priority, routed}
use Rattle.aintc_registers.specs.Inputs.{raised, unmasked, pending as aintc_pending, passes, eligible}
use Rattle.aintc_registers.specs.Order.{before, foremost as aintc_foremost, some, first}
use Rattle.aintc_registers.specs.Settle.{settled_side, settle, side_quiet, sound as aintc_sound}
use Rattle.aintc_registers.specs.Effects.{released, agreed, configured as aintc_configured, single_written, bank_written, written_at as aintc_written_at, moved as aintc_moved}
use Rattle.aintc_registers.specs.Map.{row_of, row_access, access as aintc_access}
use Rattle.aintc_registers.specs.Registers.{shown as aintc_shown, single_read, bank_read, read_at as aintc_read_at}
use Rattle.aintc_registers.specs.Model.{start as aintc_start, barred, access_number, read_number as aintc_read_number, write_number as aintc_write_number, line_number as aintc_line_number, read as aintc_read, write as aintc_write, line as aintc_line, outputs as aintc_outputs}
use Rattle.kinds.specs.Configuration.{with_number}
use Rattle.kinds.specs.Kinds.{cic_kind, by_kind, is_kind, wanted, within, name}
use Rattle.machine.specs.declared.Answer.{Answer}
use Rattle.machine.specs.declared.record.Columns.{Columns}
use Rattle.machine.specs.declared.record.Machine.{Machine}
use Rattle.machine.specs.Machine.{start, sound}
use Rattle.machine.specs.Shown.{cic_columns, shown}
use Rattle.machine.specs.Steps.{after_cic, step}
use Rattle.machine.proofs.MachineLaws.{sound-cic}
use Rattle.machine.proofs.ShownLaws.{cic-shows}
use Rattle.machine.proofs.StepLaws.{cic_steps}

-- what all kinds share
unfoldable pub machine_computes : Unit {0}
unfolding pick upto any_below all_below count_below lowest_below sum_below bit word_of either both without with_bit kept clean read_refusal write_refusal line_refusal with_number by_kind is_kind wanted within name start step shown
machine_computes = tt

unfoldable pub aic_computes : Unit {0}
unfolding machine_computes reset priority kind edge level_below over entry_fits entry_sound free_sound entries_sound memory_sound stored_sound seen_fits seen_sound aic_sound active_low active_at active pending asking pending_word edge_word fast fast_asks masked fiq waiting above candidate ahead foremost candidates chosen irq access spent opened started_at marked closed_last ended ivr_taken ivr_looked ivr_read begun ivr_written fast_spent fvr_read current moded vectored enabled_by disabled_by set_by cleared_by debug_by forced_by unforced_by turns moved output_bits stored read_at written_at aic_within aic_start read_number write_number line_number read write line aic_outputs
aic_computes = tt

unfoldable pub core_computes : Unit {0}
unfolding machine_computes raw status side_active output_level clear_access side_access side_read set_bits clear_bits side_write side_moved side_sound side with_side core_sound core_within all_within core_start unless_refused fiq_offset register core_access value_at written core_read core_write fiq_line input line_moved core_line core_outputs
core_computes = tt

unfoldable pub cic_computes : Unit {0}
unfolding machine_computes bit_at with_bit_at byte_of cic_within fresh configured cic_start raises asserted cic_shown single_at register_at access_of byte_read map_read byte_taken map_taken byte_put map_put value_of cic_value_refusal written_to word_read bits_set bits_cleared word_replaced read_as write_as cic_moved line_as step_as
cic_computes = tt

unfoldable pub aintc_computes : Unit {0}
unfolding machine_computes bit_at with_bit_at chosen_bounded bounded aintc_side aintc_reset aintc_blank aintc_priority routed raised unmasked aintc_pending passes eligible before aintc_foremost some first settled_side settle side_quiet aintc_sound released agreed aintc_configured single_written bank_written aintc_written_at aintc_moved row_of row_access aintc_access aintc_shown single_read bank_read aintc_read_at aintc_start barred access_number aintc_read_number aintc_write_number aintc_line_number aintc_read aintc_write aintc_line aintc_outputs
aintc_computes = tt

-- ---- a CIC that is known to be sound

abbrev pub cic_quick : Machine → Recorded → Answer
cic_quick m x = after_cic m (step_as true m.cic x.step)

abbrev pub cic_seen : Machine → Columns
cic_seen m = cic_columns (cic_shown m.cic)

pub cic-quick : (m : Machine) (x : Recorded) → m.kind ≡ cic_kind → sound m ≡ true → step m x ≡ cic_quick m x
cic-quick m x k s = cic_steps m x k ∙ ap (λ (ok : Bool). after_cic m (step_as ok m.cic x.step)) (sound-cic m k ∙ s)

pub cic-seen : (m : Machine) → m.kind ≡ cic_kind → sound m ≡ true → shown m ≡ cic_seen m
unfolding cic_outputs
cic-seen m k s = cic-shows m k ∙ ap cic_columns (sym (pick_true _ (sound-cic m k ∙ s)))
