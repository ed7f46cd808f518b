-- That `four_digits` of src/room.rt keeps its contract.
use Rattle.text.proofs.NumeralLaws.{four-packed}
use Rattle.text.proofs.room.four_digits.Goals as goal

pub returns : goal.returns
returns c = four-packed _
