-- That `five_digits` of src/room.rt keeps its contract.
use Rattle.text.proofs.NumeralLaws.{five-packed}
use Rattle.text.proofs.room.five_digits.Goals as goal

pub returns : goal.returns
returns c = five-packed _
