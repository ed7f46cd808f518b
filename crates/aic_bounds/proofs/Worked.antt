-- The worked runs, computed from the definitions.
use mathlib.Core.Path.{◌≡◌, refl}
use Rattle.words.specs.Choice.{pick}
use Rattle.words.specs.Counting.{any_below, all_below, lowest_below, sum_below}
use Rattle.words.specs.Word.{bit, kept, word_of, either, both, without, with_bit}
use Rattle.steps.specs.Refusals.{read_refusal, write_refusal, line_refusal}
use Rattle.aic_record.specs.Record.{reset}
use Rattle.aic_record.specs.Mode.{priority, kind, edge}
use Rattle.aic_record.specs.Sound.{level_below, over, entry_fits, entry_sound, free_sound, entries_sound, memory_sound, stored_sound, seen_fits, seen_sound, sound}
use Rattle.aic_sources.specs.Pending.{active_low, active_at, active, pending, asking, edge_word}
use Rattle.aic_sources.specs.Fast.{fast}
use Rattle.aic_sources.specs.Normal.{waiting, above, candidate, ahead, foremost, candidates, chosen}
use Rattle.aic_registers.specs.Map.{access}
use Rattle.aic_registers.specs.Handlers.{spent, opened, started_at, marked, closed_last, ended, ivr_taken, ivr_looked, ivr_read, begun, ivr_written}
use Rattle.aic_registers.specs.Effects.{moded, enabled_by, set_by, debug_by, turns, moved}
use Rattle.aic_registers.specs.Registers.{read_at, written_at}
use Rattle.aic.specs.Model.{read_number, write_number, line_number, read, write, line}
use Rattle.aic_runs.specs.Counted.{carried, takes, begins, started_by, carries, starts_of, starts_other, closes, rises, edges, commands, rewrites}
use Rattle.aic_runs.specs.Runs.{sum_over}
use Rattle.aic_runs.specs.Turns.{closes_of, closes_hot, held, due}
use Rattle.aic_waits.specs.Figures.{wait_next, standing, wait_most, waited_of}
use Rattle.aic_bounds.specs.Bounds.{sets, lifts, bound_next, bound_over, bound_at, bound_of}
use Rattle.aic_bounds.specs.Over.{bounds, with_bound, most_over, bounded_of, begun_over, waits_begun}
use Rattle.aic_bounds.specs.Over.{waits_unended, loses, unbounded_over, waits_unbounded, first_over, first_unbounded}
use Rattle.aic_bounds.specs.Worked as Runs

pub record Worked : Type 0 where
  pub met : (bound_at 9 (reset 0 0) Runs.met
      ≡ record { wait = 6; rivals = 0x50; on = 0x50; pending = 1; edges = 1; commands = 1; turns = 1; closed = 0; remembered = 0; broke = 0 })
      × (waited_of 9 (reset 0 0) Runs.met ≡ 4) × (bounded_of 9 (reset 0 0) Runs.met ≡ 4)
  pub noisy : (bound_at 9 (reset 0 0) Runs.noisy
      ≡ record { wait = 4; rivals = 0x50; on = 0x50; pending = 1; edges = 0; commands = 0; turns = 0; closed = 1; remembered = 0; broke = 0 })
      × (waited_of 9 (reset 0 0) Runs.noisy ≡ 2) × (bounded_of 9 (reset 0 0) Runs.noisy ≡ 2)
  pub raised : (bounded_of 9 (reset 0 0) Runs.raised ≡ 1) × (waited_of 9 (reset 0 0) Runs.raised ≡ 1) × (waits_begun 9 (reset 0 0) Runs.raised ≡ 2)
      × (waits_unended 9 (reset 0 0) Runs.raised ≡ 1) × (waits_unbounded 9 (reset 0 0) Runs.raised ≡ 1) × (first_unbounded 9 (reset 0 0) Runs.raised ≡ 6)
  pub stale : (bound_at 9 (reset 0 0) Runs.stale
      ≡ record { wait = 3; rivals = 0; on = 0; pending = 0; edges = 0; commands = 0; turns = 0; closed = 0; remembered = 1; broke = 0 })
      × (waited_of 9 (reset 0 0) Runs.stale ≡ 1) × (bounded_of 9 (reset 0 0) Runs.stale ≡ 1)
  pub midway : (bound_at 9 (reset 0 0) Runs.midway
      ≡ record { wait = 4; rivals = 0x08; on = 0x08; pending = 1; edges = 1; commands = 0; turns = 0; closed = 0; remembered = 0; broke = 0 })
      × (waited_of 9 (reset 0 0) Runs.midway ≡ 2) × (bounded_of 9 (reset 0 0) Runs.midway ≡ 2)
  pub off : (bound_at 9 (reset 0 0) Runs.off
      ≡ record { wait = 2; rivals = 0x08; on = 0; pending = 0; edges = 0; commands = 0; turns = 0; closed = 0; remembered = 0; broke = 0 })
      × (bounded_of 9 (reset 0 0) Runs.off ≡ 0)

pub worked : Worked
unfolding pick any_below all_below lowest_below sum_below bit kept word_of either both without with_bit read_refusal write_refusal line_refusal reset priority kind edge level_below over entry_fits entry_sound free_sound entries_sound memory_sound stored_sound seen_fits seen_sound sound active_low active_at active pending asking edge_word fast waiting above candidate ahead foremost candidates chosen access spent opened started_at marked closed_last ended ivr_taken ivr_looked ivr_read begun ivr_written moded enabled_by set_by debug_by turns moved read_at written_at read_number write_number line_number read write line carried takes begins started_by carries starts_of starts_other closes rises edges commands rewrites sum_over closes_of closes_hot held due wait_next wait_most waited_of sets lifts bound_next bound_over bound_at bound_of bounds with_bound most_over bounded_of standing begun_over waits_begun waits_unended loses unbounded_over waits_unbounded first_over first_unbounded Runs.begun Runs.met Runs.noisy Runs.raised Runs.stale Runs.behind Runs.off Runs.midway
worked =
    record {
      met = (refl, refl, refl);
      noisy = (refl, refl, refl);
      raised = (refl, refl, refl, refl, refl, refl);
      stale = (refl, refl, refl);
      midway = (refl, refl, refl);
      off = (refl, refl);
    }
