-- That `put_numbered` of src/lib.rt keeps its contract.
use Rattle.lines.proofs.LineLaws.{line_as}
use Rattle.lines.proofs.put_numbered.Goals as goal

pub returns : goal.returns
returns c =
    line_as _ _ _ _ _ _ _ _ c.put_numbered_line.ensures c.letter_by-letter.ensures c.shown_value-shown.ensures
