-- That `waiting_word` of src/lib.rt keeps its contract.
use Rattle.aic_sources.proofs.SideLaws.{waiting-from}
use Rattle.aic_sources.proofs.waiting_word.Goals as goal

pub returns : goal.returns
returns c = waiting-from _ _ _ _ c.asking_word.ensures c.fast_word.ensures c.drop_bits.ensures
