-- That `outputs_sound` of src/lib.rt keeps its contract.
use Rattle.cic_registers.specs.Hosts.{outputs}
use Rattle.words.proofs.ChoiceLaws.{pick_true}
use mathlib.Core.Path.{◌∙◌}
use Rattle.cic.proofs.outputs_sound.Goals as goal

pub returns : goal.returns
unfolding outputs
returns c = c.shown.ensures ∙ pick_true _ c.requires
