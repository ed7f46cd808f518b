-- That `waits_in` of src/waits.rt keeps its contract.
use Rattle.aic_figures.proofs.WaitLaws.{waits-told}
use Rattle.aic_figures.proofs.waits.waits_in.Goals as goal

pub returns : goal.returns
returns c =
    let t = c.table_of-table in
    λ f h. waits-told f t.result (t.ensures.1 f h) c.column.ensures c.column-2.ensures c.column-3.ensures c.column-4.ensures c.column-5.ensures c.column-6.ensures c.column-7.ensures c.column-8.ensures c.column-9.ensures c.column-10.ensures
