-- That `table_of` of src/lib.rt keeps its contract.
use Rattle.tables.specs.Reading.{table_of}
use Rattle.tables.proofs.table_of.Goals as goal

pub returns : goal.returns
unfolding table_of
returns c = rw (c.every_third.ensures, c.every_third-2.ensures, c.every_third-3.ensures)
