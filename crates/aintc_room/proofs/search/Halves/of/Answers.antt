-- That `Halves::of` of src/search.rt keeps its contract.
use Rattle.aintc_room.proofs.SearchLaws.{halves-held}
use Rattle.aintc_room.proofs.search.Halves.of.Goals as goal

pub returns : goal.returns
returns c = λ k l. halves-held _ _ _ _ _ _ c.pair.ensures c.pair-2.ensures k l
