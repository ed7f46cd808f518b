-- That `value_at` of src/lib.rt keeps its contract.
use mathlib.Core.Path.{sym, ap, ◌∙◌}
use Rattle.std.specs.Prelude.{Some}
use Rattle.words.proofs.ChoiceLaws.{pick_true, pick-false}
use Rattle.tables.specs.Passes.{value_at}
use Rattle.tables.proofs.value_at.Goals as goal

pub returns-in_err-value : goal.returns-in_err-value
unfolding value_at
returns-in_err-value c = rw c.in_err-value.was c.from_residual.ensures

pub returns-then-fits_at : goal.returns-then-fits_at
unfolding value_at
returns-then-fits_at c = rw c.in_ok-value.was (ap Some c.entered_as.ensures ∙ pick_true _ (sym c.fits_at.ensures ∙ c.if-fits_at.true))

pub returns : goal.returns
unfolding value_at
returns c = rw c.in_ok-value.was (pick-false _ (sym c.fits_at.ensures ∙ c.if-fits_at.false))
