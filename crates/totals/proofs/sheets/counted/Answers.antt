-- That `counted` of src/sheets.rt keeps its contract.
use Rattle.totals.specs.Sheet.{counted}
use Rattle.totals.proofs.sheets.counted.Goals as goal

pub returns : goal.returns
unfolding counted
returns c = rw c.more.ensures
