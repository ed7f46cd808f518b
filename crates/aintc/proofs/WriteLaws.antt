-- The writes. The register map is walked here once: a law of every write is three lemmas, for a write that touches no chosen one, for the
-- agreement bits and for the soft reset.
use Prim.Native.Nat.{ℕ, ◌/◌, ◌%◌}
use mathlib.Core.Path.{◌≡◌, refl, ◌∙◌}
use mathlib.Core.Bool.{Bool, true}
use lib.Dec.{eqb, ltb}
use lib.ListN.{get_or, set, length-set}
use borrow.Author.Tests.{eqb-true}
use Rattle.words.specs.Array.{with_bit_at}
use Rattle.words.specs.Word.{bit, either, without, with_bit}
use Rattle.words.proofs.ChoiceLaws.{pick_cases}
use Rattle.aintc_record.specs.declared.Aintc.{Aintc}
use Rattle.aintc_record.specs.Promises.{Shaped}
use Rattle.aintc_record.specs.Record.{with_soft, with_masks, reset}
use Rattle.aintc_record.specs.Route.{route_byte}
use Rattle.aintc_registers.specs.Effects.{agreed, configured, single_written, bank_written, written_at, moved}
use Rattle.aintc_registers.specs.Map.{revision, sysconfig, control, protection, idle, threshold, itr, mir, mir_clear, mir_set, isr_set, isr_clear, ilr, row_of, bank_of, input_of}

-- t is s with other registers and lines: the chosen ones stay, and the arrays have their lengths
pub record Plain (s t : Aintc) : Type 0 where
  pub irq : t.irq ≡ s.irq
  pub fiq : t.fiq ≡ s.fiq
  pub shaped : Shaped s → Shaped t

same : (s : Aintc) → Plain s s
same s = record { irq = refl; fiq = refl; shaped = λ h. h }

masked : (s : Aintc) (n w : ℕ) → Plain s (with_masks s (set s.masks n w))
masked s n w = record { irq = refl; fiq = refl; shaped = λ h. (h.0, h.1, length-set s.masks n w ∙ h.2, h.3) }

softened : (s : Aintc) (n w : ℕ) → Plain s (with_soft s (set s.soft n w))
softened s n w = record { irq = refl; fiq = refl; shaped = λ h. (h.0, length-set s.soft n w ∙ h.1, h.2, h.3) }

pub moved_plain : (s : Aintc) (k : ℕ) (high : Bool) → Plain s (moved s k high)
unfolding moved with_bit_at
moved_plain s k high =
    record { irq = refl; fiq = refl; shaped = λ h. (length-set s.lines (k / 32) (with_bit (get_or s.lines (k / 32) 0) (k % 32) high) ∙ h.0, h.1, h.2, h.3) }

module _ (s : Aintc) (o v : ℕ) (P : Aintc → Type 0) (plain : (t : Aintc) → Plain s t → P t) (agree : o ≡ control → P (agreed s v)) (restart : o ≡ sysconfig → bit v 1 ≡ true → P (reset s.lines)) where
  singles : P (single_written s o v)
  unfolding single_written configured
  singles =
      pick_cases P (eqb o revision) (λ _. plain _ (record { irq = refl; fiq = refl; shaped = λ h. h })) (λ _.
      pick_cases P (eqb o sysconfig)
      (λ e. pick_cases P (bit v 1) (restart (eqb-true o sysconfig e)) (λ _. plain _ (record { irq = refl; fiq = refl; shaped = λ h. h }))) (λ _.
      pick_cases P (eqb o control) (λ e. agree (eqb-true o control e)) (λ _.
      pick_cases P (eqb o protection) (λ _. plain _ (record { irq = refl; fiq = refl; shaped = λ h. h })) (λ _.
      pick_cases P (eqb o idle) (λ _. plain _ (record { irq = refl; fiq = refl; shaped = λ h. h })) (λ _.
      pick_cases P (eqb o threshold) (λ _. plain _ (record { irq = refl; fiq = refl; shaped = λ h. h })) (λ _. plain s (same s)))))))

  in_bank : (n r : ℕ) → P (bank_written s n r v)
  unfolding bank_written
  in_bank n r =
      pick_cases P (eqb r mir) (λ _. plain _ (masked s n v)) (λ _.
      pick_cases P (eqb r mir_clear) (λ _. plain _ (masked s n (without (get_or s.masks n 0) v))) (λ _.
      pick_cases P (eqb r mir_set) (λ _. plain _ (masked s n (either (get_or s.masks n 0) v))) (λ _.
      pick_cases P (eqb r isr_set) (λ _. plain _ (softened s n (either (get_or s.soft n 0) v))) (λ _.
      pick_cases P (eqb r isr_clear) (λ _. plain _ (softened s n (without (get_or s.soft n 0) v))) (λ _. plain s (same s))))))

  pub written : P (written_at s o v)
  unfolding written_at
  written =
      pick_cases P (ltb o itr) (λ _. singles) (λ _.
      pick_cases P (ltb o ilr) (λ _. in_bank (bank_of o) (row_of o))
      (λ _. plain _ (record { irq = refl; fiq = refl; shaped = λ h. (h.0, h.1, h.2, length-set s.routes (input_of o) (route_byte v) ∙ h.3) })))
