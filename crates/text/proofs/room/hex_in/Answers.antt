-- That `hex_in` of src/room.rt keeps its contract.
use mathlib.Core.Path.{ap, ◌∙◌}
use Rattle.text.specs.Text.{write}
use Rattle.text.proofs.room.hex_in.Goals as goal

pub returns : goal.returns
returns c =
    (c.word_in.ensures.0 ∙ ap (write _) c.digits.ensures, c.word_in.ensures.1)
