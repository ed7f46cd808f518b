-- That `output_bits` of src/lib.rt keeps its contract.
use native.Mathlib.Omega.{arith}
use Rattle.words.proofs.CountingLaws.{one_le}
use Rattle.aic_sources.proofs.SideLaws.{bits-from}
use Rattle.aic_registers.specs.Registers.{output_bits}
use Rattle.aic_room.proofs.output_bits.Goals as goal

pub overflow_mul-result : goal.overflow_mul-result
overflow_mul-result c = omega (arith, c.one_if-normal.ensures, one_le c.is_irq.result)

pub overflow_add-result : goal.overflow_add-result
overflow_add-result c = omega (arith, c.one_if-normal.ensures, one_le c.is_irq.result, c.one_if-fast.ensures, one_le c.is_fiq.result)

pub returns : goal.returns
unfolding output_bits
returns c = λ a h. bits-from a _ _ _ _ (c.is_fiq.ensures a h) (c.is_irq.ensures a h) c.one_if-fast.ensures c.one_if-normal.ensures
