-- That `highest` of src/handlers.rt keeps its contract.
use Rattle.aic_room.proofs.HandlerLaws.{table-told}
use Rattle.aic_room.proofs.handlers.highest.Goals as goal

pub returns : goal.returns
returns c = λ a h. table-told h
