-- That `chosen_among` of src/lib.rt keeps its contract.
use Rattle.aic_sources.proofs.SideLaws.{chosen-from}
use Rattle.aic_sources.proofs.chosen_among.Goals as goal

pub returns : goal.returns
returns c = chosen-from _ _ _ _ _ _ c.fast_word.ensures c.requires c.drop_bits-waits.ensures c.least_of-least.ensures c.search.ensures
