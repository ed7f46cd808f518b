-- That `fits_at` of src/lib.rt keeps its contract.
use mathlib.Core.Path.{refl}
use Rattle.tables.specs.Reading.{fits_at}
use Rattle.tables.proofs.fits_at.Goals as goal

pub returns : goal.returns
unfolding fits_at
returns c = refl
