-- That `outputs_sound` of src/lib.rt keeps its contract.
use Rattle.aic.proofs.CallLaws.{outputs-by}
use Rattle.aic.proofs.outputs_sound.Goals as goal

pub returns : goal.returns
returns c = outputs-by _ _ _ _ c.requires c.output_bits-bits.ensures c.has.ensures c.has-2.ensures
