-- That `is_edge` of src/waits.rt keeps its contract.
use Rattle.aic_figures.proofs.RoomLaws.{edge-told}
use Rattle.aic_figures.proofs.waits.is_edge.Goals as goal

pub returns : goal.returns
returns c = λ s h. edge-told h _ c.requires c.has.ensures
