-- That `one_in` of src/room.rt keeps its contract.
use mathlib.Core.Path.{ap, ◌∙◌}
use Rattle.text.specs.Text.{write}
use Rattle.text.proofs.DigitLaws.{last_one}
use Rattle.text.proofs.room.one_in.Goals as goal

pub returns : goal.returns
returns c =
    (c.put_in.ensures.0 ∙ ap (write _) (last_one _), c.put_in.ensures.1)
