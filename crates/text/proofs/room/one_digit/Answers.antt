-- That `one_digit` of src/room.rt keeps its contract.
use Rattle.text.proofs.NumeralLaws.{one-packed}
use Rattle.text.proofs.room.one_digit.Goals as goal

pub returns : goal.returns
returns c = one-packed _
