-- That `start_at` of src/handlers.rt keeps its contract.
use Rattle.aic_registers.specs.Handlers.{started_at}
use Rattle.aic_room.proofs.HandlerLaws.{spent_depth}
use Rattle.aic_room.proofs.handlers.start_at.Goals as goal

pub returns : goal.returns
unfolding started_at
returns c =
    λ a h l. c.open_entry.ensures _ (c.spend.ensures a h) (spent_depth a _ l)
