-- That `put_five` of src/lib.rt keeps its contract.
use mathlib.Core.Path.{ap, ◌∙◌}
use Rattle.text.specs.Text.{write}
use Rattle.text.proofs.WriteLaws.{and_then}
use Rattle.text.proofs.DigitLaws.{last_more}
use Rattle.text.proofs.put_five.Goals as goal

pub returns : goal.returns
returns c =
    and_then _ _ _ c.put_four-next.ensures c.put_one.ensures ∙ ap (write _) (last_more 4 _)
