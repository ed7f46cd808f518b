-- That `put_numbered_line` of src/lib.rt keeps its contract.
use Rattle.text.proofs.NumeralLaws.{numeral_text}
use Rattle.lines.proofs.BehindLaws.{as_line}
use Rattle.lines.proofs.put_numbered_line.Goals as goal

pub numbered_in-requires : goal.numbered_in-requires
numbered_in-requires c =
    (c.has_room.ensures c.if-has_room.true, (numeral_text _ _ c.requires c.if-t-eq0.false).0)

pub returns-then-has_room : goal.returns-then-has_room
returns-then-has_room c =
    as_line _ _ _ _ _ _ _ c.requires c.if-t-eq0.false c.numbered_in.ensures
