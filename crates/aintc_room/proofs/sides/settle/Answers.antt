-- That `settle` of src/sides.rt keeps its contract.
use Rattle.aintc_room.proofs.CellLaws.{laid_as}
use Rattle.aintc_room.proofs.SideLaws.{both_settled}
use Rattle.aintc_room.proofs.sides.settle.Goals as goal

pub returns : goal.returns
returns c = λ a h. laid_as (both_settled a) (c.settle_side-2.ensures _ (c.settle_side.ensures a h))
