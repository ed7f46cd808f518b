-- That `put_one` of src/lib.rt keeps its contract.
use mathlib.Core.Path.{ap, ◌∙◌}
use Rattle.text.specs.Text.{write}
use Rattle.text.proofs.DigitLaws.{last_one}
use Rattle.text.proofs.put_one.Goals as goal

pub returns : goal.returns
returns c = c.put.ensures ∙ ap (write _) (last_one _)
