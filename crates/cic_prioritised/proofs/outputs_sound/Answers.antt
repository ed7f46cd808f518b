-- That `outputs_sound` of src/lib.rt keeps its contract.
use mathlib.Core.Path.{◌∙◌}
use Rattle.words.proofs.ChoiceLaws.{pick_true}
use Rattle.cic_indexed.specs.Model.{outputs}
use Rattle.cic_prioritised.proofs.outputs_sound.Goals as goal

pub returns : goal.returns
unfolding outputs
returns c = c.shown.ensures ∙ pick_true _ c.requires
