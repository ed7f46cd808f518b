-- That `fast_among` of src/lib.rt keeps its contract.
use Rattle.aic_sources.proofs.SideLaws.{fast-from}
use Rattle.aic_sources.proofs.fast_among.Goals as goal

pub returns : goal.returns
returns c = fast-from _ _ _ _ c.fast_word.ensures c.requires c.meet.ensures
