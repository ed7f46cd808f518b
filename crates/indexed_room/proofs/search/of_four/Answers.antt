-- That `of_four` of src/search.rt keeps its contract.
use Rattle.indexed_room.proofs.ByteLaws.{four-marks}
use Rattle.indexed_room.proofs.search.of_four.Goals as goal

pub returns : goal.returns
returns c =
    four-marks _ _ _ _ _ _ _ c.flag-first.ensures.0 c.flag-second.ensures.0 c.flag-third.ensures.0 c.flag-fourth.ensures.0
