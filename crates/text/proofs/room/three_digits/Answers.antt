-- That `three_digits` of src/room.rt keeps its contract.
use Rattle.text.proofs.NumeralLaws.{three-packed}
use Rattle.text.proofs.room.three_digits.Goals as goal

pub returns : goal.returns
returns c = three-packed _
