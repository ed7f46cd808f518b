-- That `numbers_of` of src/waits.rt keeps its contract.
use Rattle.aic_figures.specs.WaitsBook.{numbers_of}
use Rattle.aic_figures.proofs.waits.numbers_of.Goals as goal

pub returns : goal.returns
unfolding numbers_of
returns c = rw (c.unended_now.ensures, c.largest_now-b.ensures)
