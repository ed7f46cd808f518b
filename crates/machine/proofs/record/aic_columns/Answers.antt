-- That `aic_columns` of src/record.rt keeps its contract.
use Rattle.machine.proofs.record.aic_columns.Goals as goal

pub returns : goal.returns
returns c = rw (c.one_if.ensures, c.one_if-2.ensures)
