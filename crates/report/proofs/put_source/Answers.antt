-- That `put_source` of src/lib.rt keeps its contract.
use Rattle.text.proofs.WriteLaws.{and_then, same_length as same_len}
use Rattle.text.specs.Phrases.{bytes}
use Rattle.report.specs.Printed.{source_line}
use Rattle.report.proofs.put_source.Goals as goal

pub returns : goal.returns
unfolding source_line bytes
returns c =
    and_then _ _ _
    (and_then _ _ _
    (and_then _ _ _ (and_then _ _ _ c.put_counted-a.ensures c.put_counted-b.ensures) c.put_counted-c.ensures)
    c.put_counted-d.ensures)
    c.put.ensures

pub shape_of-out : goal.shape_of-out
shape_of-out c = same_len _ _ _ (returns c)
