-- That `any_pass` of src/waits.rt keeps its contract.
use Rattle.totals.specs.Waits.{passes}
use Rattle.totals.proofs.waits.any_pass.Goals as goal

pub returns : goal.returns
unfolding passes
returns c = rw (c.any_passes.ensures, c.any_passes-2.ensures, c.any_passes-3.ensures)
