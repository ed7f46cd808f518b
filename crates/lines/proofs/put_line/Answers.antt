-- That `put_line` of src/lib.rt keeps its contract.
use Rattle.text.proofs.WriteLaws.{and_then, same_length as same_len}
use Rattle.lines.specs.Listing.{line_of}
use Rattle.lines.proofs.put_line.Goals as goal

pub returns : goal.returns
unfolding line_of
returns c = and_then _ _ _
    (and_then _ _ _
    (and_then _ _ _
    (and_then _ _ _
    (and_then _ _ _
    (and_then _ _ _ (and_then _ _ _ (and_then _ _ _ c.put_decimal-a.ensures c.put-b.ensures) c.put-d.ensures) c.put-e.ensures)
    c.put_hex-f.ensures) c.put_field-g.ensures) c.put_field-h.ensures) c.put_field-i.ensures) c.put.ensures

pub shape_of-out : goal.shape_of-out
shape_of-out c = same_len _ _ _ (returns c)
