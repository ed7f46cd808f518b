-- That `none` of src/sheets.rt keeps its contract.
use Rattle.totals.specs.Sheet.{no_sheet}
use Rattle.totals.proofs.sheets.none.Goals as goal

pub returns : goal.returns
unfolding no_sheet
returns c = rw (c.none.ensures, c.none-2.ensures)
