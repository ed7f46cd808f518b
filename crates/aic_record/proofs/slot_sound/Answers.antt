-- That `slot_sound` of src/lib.rt keeps its contract.
use mathlib.Core.Path.{◌∙◌}
use Rattle.words.proofs.ChoiceLaws.{pick_true, pick-false}
use Rattle.aic_record.proofs.slot_sound.Goals as goal

pub returns-then-used : goal.returns-then-used
returns-then-used c = c.entry_fits.ensures ∙ pick_true _ c.if-used.true

pub returns : goal.returns
returns c = pick-false _ c.if-used.false
