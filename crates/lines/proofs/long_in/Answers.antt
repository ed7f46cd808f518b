-- That `long_in` of src/lib.rt keeps its contract.
use Rattle.text.proofs.WriteLaws.{and_then}
use Rattle.lines.specs.Behind.{behind}
use Rattle.lines.proofs.long_in.Goals as goal

pub returns : goal.returns
unfolding behind
returns c =
    and_then _ _ _
    (and_then _ _ _
    (and_then _ _ _
    (and_then _ _ _ (and_then _ _ _ (and_then _ _ _ (and_then _ _ _ c.put_in-a.ensures.0 c.put_in-b.ensures.0) c.put_in-d.ensures.0) c.hex_in-e.ensures.0)
    c.field_in-f.ensures.0) c.field_in-g.ensures.0) c.field_in-h.ensures.0) c.put_in.ensures.0
