-- That `put_left_out` of src/lib.rt keeps its contract.
use Rattle.text.proofs.WriteLaws.{write-laid}
use mathlib.Core.Path.{◌∙◌}
use Rattle.sheet.proofs.put_left_out.Goals as goal

pub returns : goal.returns
returns c =
    c.put_out.ensures ∙ write-laid _ _
