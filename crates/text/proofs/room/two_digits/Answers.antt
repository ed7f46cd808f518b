-- That `two_digits` of src/room.rt keeps its contract.
use Rattle.text.proofs.NumeralLaws.{two-packed}
use Rattle.text.proofs.room.two_digits.Goals as goal

pub returns : goal.returns
returns c = two-packed _
