-- That `numbers_pass` of src/sheets.rt keeps its contract.
use Rattle.totals.specs.Sheet.{numbers_pass}
use Rattle.totals.proofs.sheets.numbers_pass.Goals as goal

pub returns : goal.returns
unfolding numbers_pass
returns c =
    rw (c.too_much.ensures, c.too_much-2.ensures, c.too_much-3.ensures, c.too_much-4.ensures, c.too_much-5.ensures)
