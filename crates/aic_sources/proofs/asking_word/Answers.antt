-- That `asking_word` of src/lib.rt keeps its contract.
use Rattle.aic_sources.proofs.SideLaws.{asks-from}
use Rattle.aic_sources.proofs.asking_word.Goals as goal

pub returns : goal.returns
returns c = asks-from _ _ _ c.pending_word.ensures c.meet.ensures
