-- That `write_marks` of src/lib.rt keeps its contract.
use Rattle.aic_bounds.proofs.MarkLaws.{write-from}
use Rattle.aic_bounds.proofs.write_marks.Goals as goal

pub returns : goal.returns
returns c =
    let a = c.args in
    rw c.no_marks.ensures (write-from a.ok a.s a.o a.v c.edge_word.ensures c.meet.ensures c.either-commands.ensures
    c.last_source.ensures c.hot_word.ensures c.either-closed.ensures)
