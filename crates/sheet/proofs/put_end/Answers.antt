-- That `put_end` of src/lib.rt keeps its contract.
use Rattle.text.proofs.WriteLaws.{write-laid}
use mathlib.Core.Path.{◌∙◌}
use Rattle.sheet.proofs.put_end.Goals as goal

pub returns : goal.returns
returns c =
    c.put_page.ensures ∙ write-laid _ _
