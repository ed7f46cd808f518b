-- That `outputs_sound` of src/lib.rt keeps its contract.
use Rattle.words.proofs.ChoiceLaws.{pick_true}
use Rattle.aintc_registers.specs.Model.{outputs}
use Rattle.aintc.proofs.outputs_sound.Goals as goal

pub returns : goal.returns
unfolding outputs
returns c = pick_true _ c.requires
