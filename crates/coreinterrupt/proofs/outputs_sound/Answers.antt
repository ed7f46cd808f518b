-- That `outputs_sound` of src/lib.rt keeps its contract.
use Rattle.coreinterrupt.specs.Model.{outputs}
use Rattle.words.proofs.ChoiceLaws.{pick_true}
use Rattle.coreinterrupt.proofs.outputs_sound.Goals as goal

pub returns : goal.returns
unfolding outputs
returns c = rw (c.output_level-2.ensures, c.output_level.ensures, c.active-2.ensures, c.active.ensures) (pick_true _ c.requires)
