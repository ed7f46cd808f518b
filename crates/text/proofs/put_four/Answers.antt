-- That `put_four` of src/lib.rt keeps its contract.
use mathlib.Core.Path.{ap, ◌∙◌}
use Rattle.text.specs.Text.{write}
use Rattle.text.proofs.WriteLaws.{and_then}
use Rattle.text.proofs.DigitLaws.{last_more}
use Rattle.text.proofs.put_four.Goals as goal

pub returns : goal.returns
returns c =
    and_then _ _ _ c.put_three-next.ensures c.put_one.ensures ∙ ap (write _) (last_more 3 _)
