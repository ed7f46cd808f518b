-- The worked runs, computed from the definitions.
use Prim.Native.Nat.{◌+◌}
use mathlib.Core.Path.{◌≡◌, refl}
use mathlib.Core.Bool.{true, false, not, ◌&&◌, ◌||◌}
use lib.Dec.{eqb}
use Rattle.words.specs.Choice.{pick}
use Rattle.words.specs.Counting.{any_below, all_below, lowest_below, sum_below}
use Rattle.words.specs.Word.{bit, kept, word_of, either, both, without, with_bit}
use Rattle.steps.specs.Refusals.{read_refusal, write_refusal, line_refusal}
use Rattle.aic_record.specs.Record.{reset}
use Rattle.aic_record.specs.Mode.{priority, kind, edge}
use Rattle.aic_record.specs.Sound.{level_below, over, entry_fits, entry_sound, free_sound, entries_sound, memory_sound, stored_sound, seen_fits, seen_sound, sound}
use Rattle.aic_sources.specs.Pending.{active_low, active_at, active, pending, asking, edge_word}
use Rattle.aic_sources.specs.Fast.{fast}
use Rattle.aic_sources.specs.Normal.{waiting, above, candidate, ahead, foremost, candidates, chosen}
use Rattle.aic_registers.specs.Map.{access}
use Rattle.aic_registers.specs.Handlers.{spent, opened, started_at, marked, closed_last, ended, ivr_taken, ivr_looked, ivr_read, begun, ivr_written}
use Rattle.aic_registers.specs.Effects.{moded, enabled_by, set_by, debug_by, turns, moved}
use Rattle.aic_registers.specs.Registers.{read_at, written_at}
use Rattle.aic.specs.Model.{read_number, write_number, line_number, read, write, line}
use Rattle.aic_runs.specs.Counted.{carried, takes, begins, started_by, carries, starts_of, starts_other, closes, rises, edges, commands, rewrites, steady, waits}
use Rattle.aic_runs.specs.Runs.{run, count, always, owed, sum_over}
use Rattle.aic_runs.specs.Turns.{closes_of, closes_hot, cool, gains, gained, held, due}
use Rattle.aic_runs.specs.TurnsWorked.{board, quieted, entered, rest, noisy, raised, twice}

-- what the run that reaches the bound comes to
pub record Quieted : Type 0 where
  pub waited : always (waits 9) board quieted ≡ true
  pub cooled : all_below 32 (λ i. not (ahead board i 9) || always (cool i) board quieted) ≡ true
  pub level : edge board 4 ≡ false
  pub edged : edge board 6 ≡ true
  pub first : ahead board 4 9 ≡ true
  pub second : ahead board 6 9 ≡ true
  pub started : count (starts_other 9) board quieted ≡ 4
  pub allowed : sum_over (λ i. ahead board i 9) (λ i. owed board i + gained i board quieted) ≡ 4
  pub carried : carries 9 board ≡ false
  pub pended : sum_over (λ i. ahead board i 9) (owed board) ≡ 1
  pub edges : sum_over (λ i. ahead board i 9 && edge board i) (λ i. count (edges i) board quieted) ≡ 1
  pub commanded : sum_over (λ i. ahead board i 9 && edge board i) (λ i. count (commands i) board quieted) ≡ 1
  pub turned : sum_over (λ i. ahead board i 9 && not (edge board i)) (λ i. count (rises i) board quieted) ≡ 1
  pub four : count (starts_of 4) board quieted ≡ 2
  pub six : count (starts_of 6) board quieted ≡ 2
  pub closed : count closes board quieted ≡ 5
  pub left : (run board quieted).depth ≡ 0

pub quieted_computed : Quieted
unfolding pick any_below all_below lowest_below sum_below bit kept word_of either both without with_bit read_refusal write_refusal line_refusal reset priority kind edge level_below over entry_fits entry_sound free_sound entries_sound memory_sound stored_sound seen_fits seen_sound sound active_low active_at active pending asking edge_word fast waiting above candidate ahead foremost candidates chosen access spent opened started_at marked closed_last ended ivr_taken ivr_looked ivr_read begun ivr_written moded enabled_by set_by debug_by turns moved read_at written_at read_number write_number line_number read write line carried takes begins started_by starts_of starts_other closes rises edges commands rewrites steady waits run count always owed sum_over closes_of closes_hot cool gains gained held due carries board quieted
quieted_computed = record { waited = refl; cooled = refl; level = refl; edged = refl; first = refl; second = refl; started = refl; allowed = refl; carried = refl; pended = refl; edges = refl; commanded = refl; turned = refl; four = refl; six = refl; closed = refl; left = refl }

-- and with its first handler open from before
pub record Held : Type 0 where
  pub waited : always (waits 9) entered rest ≡ true
  pub cooled : all_below 32 (λ i. not (ahead entered i 9) || always (cool i) entered rest) ≡ true
  pub started : count (starts_other 9) entered rest ≡ 3
  pub less : sum_over (λ i. ahead entered i 9 && not (fast entered i)) (λ i. due entered i + gained i entered rest) ≡ 3
  pub allowed : sum_over (λ i. ahead entered i 9) (λ i. owed entered i + gained i entered rest) ≡ 4
  pub carried : carries 9 entered ≡ false

pub held_computed : Held
unfolding pick any_below all_below lowest_below sum_below bit kept word_of either both without with_bit read_refusal write_refusal line_refusal reset priority kind edge level_below over entry_fits entry_sound free_sound entries_sound memory_sound stored_sound seen_fits seen_sound sound active_low active_at active pending asking edge_word fast waiting above candidate ahead foremost candidates chosen access spent opened started_at marked closed_last ended ivr_taken ivr_looked ivr_read begun ivr_written moded enabled_by set_by debug_by turns moved read_at written_at read_number write_number line_number read write line carried takes begins started_by starts_of starts_other closes rises edges commands rewrites steady waits run count always owed sum_over closes_of closes_hot cool gains gained held due carries board entered rest
held_computed = record { waited = refl; cooled = refl; started = refl; less = refl; allowed = refl; carried = refl }

-- the run that breaks it
pub record Noisy : Type 0 where
  pub waited : always (waits 9) board noisy ≡ true
  pub hot : always (cool 4) board noisy ≡ false
  pub others : all_below 32 (λ i. eqb i 4 || always (cool i) board noisy) ≡ true
  pub started : count (starts_other 9) board noisy ≡ 2
  pub allowed : sum_over (λ i. ahead board i 9) (λ i. owed board i + gained i board noisy) ≡ 1

pub noisy_computed : Noisy
unfolding pick any_below all_below lowest_below sum_below bit kept word_of either both without with_bit read_refusal write_refusal line_refusal reset priority kind edge level_below over entry_fits entry_sound free_sound entries_sound memory_sound stored_sound seen_fits seen_sound sound active_low active_at active pending asking edge_word fast waiting above candidate ahead foremost candidates chosen access spent opened started_at marked closed_last ended ivr_taken ivr_looked ivr_read begun ivr_written moded enabled_by set_by debug_by turns moved read_at written_at read_number write_number line_number read write line carried takes begins started_by starts_of starts_other closes rises edges commands rewrites steady waits run count always owed sum_over closes_of closes_hot cool gains gained held due carries board noisy
noisy_computed = record { waited = refl; hot = refl; others = refl; started = refl; allowed = refl }

-- and the run with a source remembered
pub record Twice : Type 0 where
  pub waited : always (waits 9) raised twice ≡ true
  pub cooled : all_below 32 (λ i. not (ahead raised i 9) || always (cool i) raised twice) ≡ true
  pub started : count (starts_other 9) raised twice ≡ 2
  pub allowed : sum_over (λ i. ahead raised i 9) (λ i. owed raised i + gained i raised twice) ≡ 1
  pub carried : carries 9 raised ≡ true

pub twice_computed : Twice
unfolding pick any_below all_below lowest_below sum_below bit kept word_of either both without with_bit read_refusal write_refusal line_refusal reset priority kind edge level_below over entry_fits entry_sound free_sound entries_sound memory_sound stored_sound seen_fits seen_sound sound active_low active_at active pending asking edge_word fast waiting above candidate ahead foremost candidates chosen access spent opened started_at marked closed_last ended ivr_taken ivr_looked ivr_read begun ivr_written moded enabled_by set_by debug_by turns moved read_at written_at read_number write_number line_number read write line carried takes begins started_by starts_of starts_other closes rises edges commands rewrites steady waits run count always owed sum_over closes_of closes_hot cool gains gained held due carries raised twice
twice_computed = record { waited = refl; cooled = refl; started = refl; allowed = refl; carried = refl }
