-- That `levels_in` of src/pair.rt keeps its contract.
use Rattle.aic_room.proofs.PairLaws.{levels-told}
use Rattle.aic_room.proofs.pair.levels_in.Goals as goal

pub returns : goal.returns
returns c = let w = c.words_in-words.ensures in λ a h. levels-told h _ w.0 w.1
