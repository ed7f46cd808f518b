-- That `move_row` of src/waits.rt keeps its contract.
use Rattle.aic_figures.proofs.WaitsKeptLaws.{row_moved}
use Rattle.aic_figures.proofs.waits.move_row.Goals as goal

pub returns : goal.returns
returns c =
    let a = c.args in
    λ t ok h k. row_moved a.book.now c.put_row.new.book a.k a.was a.is a.n a.m t c.row_at-row.ensures (c.row_after-next.ensures t ok h) (c.put_row.ensures k)
