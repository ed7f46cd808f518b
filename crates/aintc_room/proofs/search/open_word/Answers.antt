-- That `open_word` of src/search.rt keeps its contract.
use Rattle.aintc_room.proofs.SearchLaws.{open_in}
use Rattle.aintc_room.proofs.search.open_word.Goals as goal

pub returns : goal.returns
returns c = λ a h. open_in h _ _ _ c.requires c.join.ensures c.drop_bits.ensures
