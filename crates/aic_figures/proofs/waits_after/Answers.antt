-- That `waits_after` of src/lib.rt keeps its contract.
use Rattle.aic_figures.proofs.BookLaws.{waits-from}
use Rattle.aic_figures.proofs.waits_after.Goals as goal

pub returns : goal.returns
returns c = waits-from _ _ _ _ _ _ _ _ c.with_bit-others.ensures c.meet.ensures c.drop_bits.ensures c.join.ensures
