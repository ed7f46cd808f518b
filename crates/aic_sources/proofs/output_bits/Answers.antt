-- That `output_bits` of src/lib.rt keeps its contract.
use mathlib.Core.Bool.{not, ◌&&◌}
use lib.Dec.{ltb}
use Rattle.words.proofs.CountingLaws.{one_le}
use Rattle.aic_sources.proofs.SideLaws.{irq-from, fiq-from, bits-from}
use native.Mathlib.Omega.{arith}
use Rattle.aic_sources.proofs.output_bits.Goals as goal

pub overflow_mul-result : goal.overflow_mul-result
overflow_mul-result c = omega (arith, c.one_if-normal.ensures, one_le (not c.has-clear.result && ltb c.chosen_among.result 32))

pub overflow_add-result : goal.overflow_add-result
overflow_add-result c =
    omega (
      arith,
      c.one_if-normal.ensures,
      one_le (not c.has-clear.result && ltb c.chosen_among.result 32),
      c.one_if-fast.ensures,
      one_le (not c.has-clear.result && c.fast_among.result),
    )

pub returns : goal.returns
returns c =
    let h = c.has-clear.ensures in
    bits-from _ _ _ _ _ (fiq-from _ _ _ h c.fast_among.ensures) (irq-from _ _ _ h c.chosen_among.ensures) c.one_if-fast.ensures c.one_if-normal.ensures
