-- Three reads of one register, before a step, after it and after a second one, are enough against every cheat.
use Prim.Native.Nat.{ℕ}
use mathlib.Core.Path.{◌≡◌, refl, sym, ap, ◌∙◌, subst⁻¹}
use mathlib.Core.Bool.{false}
use mathlib.Core.Logic.{◌⊎◌, inl, inr}
use borrow.Author.Tests.{eq-eqb}
use lib.Dec.{eqb}
use Rattle.words.proofs.TruthLaws.{clash}
use Rattle.words.specs.Choice.{pick}
use Rattle.words.specs.Counting.{any_below, all_below}
use Rattle.words.specs.Word.{bit, word_of, either, with_bit, kept, clean}
use Rattle.words.specs.Array.{bit_at, clean_below}
use Rattle.steps.specs.declared.Step.{Step}
use Rattle.steps.specs.declared.Step.TheVariants.{Read, Write}
use Rattle.steps.specs.Refusals.{carried_out, read_refusal, write_refusal}
use Rattle.aic_record.specs.Record.{reset}
use Rattle.aic_record.specs.Mode.{kind, edge}
use Rattle.aic_record.specs.Sound.{level_below, over, entry_fits, entry_sound, free_sound, entries_sound, memory_sound, stored_sound, seen_fits, seen_sound, sound}
use Rattle.aic_registers.specs.Map.{access}
use Rattle.aic_registers.specs.Effects.{moded}
use Rattle.aic_registers.specs.Registers.{stored, read_at, written_at}
use Rattle.aic.specs.Model.{start, read_number, write_number, read, write}
use Rattle.coreinterrupt.specs.Side.{clear_access, side_access, side_read, set_bits, side_write, side_sound}
use Rattle.coreinterrupt.specs.Model as CoreInterrupt
use Rattle.cic_record.specs.Sound as Cic
use Rattle.cic_record.specs.Start.{fresh, configured, start as cic_start}
use Rattle.cic_registers.specs.Map.{single_at, register_at, access_of}
use Rattle.cic_registers.specs.Registers as Registers
use Rattle.cic_registers.specs.Model.{read_as, write_as, step_as}
use Rattle.aintc_record.specs.Bounds.{chosen_bounded, bounded}
use Rattle.aintc_record.specs.Record as AintcRecord
use Rattle.aintc_registers.specs.Inputs as Inputs
use Rattle.aintc_registers.specs.Order.{some}
use Rattle.aintc_registers.specs.Settle as Settle
use Rattle.aintc_registers.specs.Map.{threshold}
use Rattle.aintc_registers.specs.Map as AintcMap
use Rattle.aintc_registers.specs.Effects as Effects
use Rattle.aintc_registers.specs.Registers as AintcRegisters
use Rattle.aintc_registers.specs.Model as Aintc
use Rattle.cic_held.specs.Held as Held
use Rattle.cic_indexed.specs.Registers.{own_at}
use Rattle.cic_indexed.specs.Model as Indexed
use Rattle.cases.specs.Cheats.{Model, Keeps, NoCheat, aic_model, core_model, cic_model, aintc_model, indexed_model}

-- what a read of the register at o answers
abbrev seen : {R : Type 0} → Model R → R → ℕ → ℕ
seen d r o = (d r (Read o)).value

-- the register at o changes with the step x, and again with the step y after it
pub record Moves {R : Type 0} (d : Model R) (r : R) (x y : Step) (o : ℕ) : Type 0 where
  pub taken : (d r x).refusal ≡ carried_out
  pub first : eqb (seen d (d r x).left o) (seen d r o) ≡ false
  pub second : eqb (seen d (d (d r x).left y).left o) (seen d (d r x).left o) ≡ false

-- the definition itself is then no cheat
honest : {R : Type 0} (d : Model R) (r : R) (x y : Step) (o : ℕ) → Moves d r x y o → NoCheat d r
honest d r x y o w =
    let again = (d r x).left in
    record {
      carries_out = λ h. h r x w.taken;
      answers_more = λ h. clash (eq-eqb (seen d again o) (seen d r o) (h.1 again o ∙ sym (h.1 r o))) w.first;
      moves = λ h. clash (eq-eqb (seen d again o) (seen d r o) (ap (λ t. seen d t o) (h r x))) w.first;
      goes_on = λ h. clash (eq-eqb (seen d (d again y).left o) (seen d again o) (ap (λ t. seen d t o) (h x y))) w.second;
    }

-- and so is no model whose every answer is the definition's
pub no_cheat : {R : Type 0} (d m : Model R) (r : R) (x y : Step) (o : ℕ) → Moves d r x y o → Keeps m d → NoCheat m r
no_cheat d m r x y o w keeps = subst⁻¹ (λ e. NoCheat e r) (λ i s z. keeps s z i) (honest d r x y o w)

-- AIC: the mode of source 1 is written, and written again
pub aic_moves : Moves aic_model (start 0 0).aic (Write 4 0x61) (Write 4 0x62) 4
unfolding aic_model pick all_below bit word_of with_bit read_refusal write_refusal reset kind edge level_below over entry_fits entry_sound free_sound entries_sound memory_sound stored_sound seen_fits seen_sound sound access moded stored read_at written_at read_number write_number read write start
aic_moves = record { taken = refl; first = refl; second = refl }

-- CoreInterrupt: two IRQ sources are enabled, one after the other
pub core_moves : Moves core_model (CoreInterrupt.start 8 32 1 1).core (Write 0x20 1) (Write 0x20 2) 0x20
unfolding core_model pick word_of bit either kept clean read_refusal write_refusal clear_access side_access side_read set_bits side_write side_sound CoreInterrupt.side CoreInterrupt.with_side CoreInterrupt.sound CoreInterrupt.within CoreInterrupt.all_within CoreInterrupt.start CoreInterrupt.unless_refused CoreInterrupt.fiq_offset CoreInterrupt.register CoreInterrupt.access CoreInterrupt.value_at CoreInterrupt.written CoreInterrupt.read CoreInterrupt.write
core_moves = record { taken = refl; first = refl; second = refl }

-- CIC: global enable is set, and cleared
pub cic_moves : Moves cic_model (cic_start 33 2 1 0).cic (Write 0x10 1) (Write 0x10 0) 0x10
unfolding cic_model pick all_below kept clean clean_below read_refusal write_refusal Cic.within Cic.numbers_sound Cic.words_sound Cic.maps_sound Cic.entry_sound Cic.sound fresh configured cic_start single_at register_at access_of Registers.value_of Registers.value_refusal Registers.written_to read_as write_as step_as
cic_moves = record { taken = refl; first = refl; second = refl }

-- AINTC: the threshold is written, and written again, by accesses of privilege p
abbrev Rewritten : ℕ → Type 0
Rewritten p = Moves (aintc_model p) (Aintc.start).aintc (Write threshold 1) (Write threshold 2) threshold

pub aintc_moves : (p : ℕ) → (p ≡ 0) ⊎ (p ≡ 1) → Rewritten p
unfolding aintc_model pick any_below bit bit_at read_refusal write_refusal chosen_bounded bounded AintcRecord.side AintcRecord.reset Inputs.raised Inputs.unmasked Inputs.pending Inputs.eligible some Settle.settled_side Settle.settle Settle.side_quiet Settle.sound AintcMap.row_of AintcMap.row_access AintcMap.access Effects.single_written Effects.written_at AintcRegisters.single_read AintcRegisters.read_at Aintc.start Aintc.barred Aintc.access_number Aintc.read_number Aintc.write_number Aintc.read Aintc.write
aintc_moves p (inl h) = subst⁻¹ Rewritten h (record { taken = refl; first = refl; second = refl })
aintc_moves p (inr h) = subst⁻¹ Rewritten h (record { taken = refl; first = refl; second = refl })

-- CIC with prioritised indices: the hold mode, on at the start, is turned off, and on again
pub indexed_moves : Moves indexed_model (Held.start 33 2 1 0 1).prioritised (Write 4 0) (Write 4 16) 4
unfolding indexed_model pick all_below bit kept clean clean_below read_refusal write_refusal Cic.within Cic.numbers_sound Cic.words_sound Cic.maps_sound Cic.entry_sound Cic.sound fresh configured cic_start Held.within Held.entry_sound Held.held_sound Held.sound Held.start Held.controlled own_at Indexed.read_as Indexed.write_as Indexed.step_as
indexed_moves = record { taken = refl; first = refl; second = refl }
