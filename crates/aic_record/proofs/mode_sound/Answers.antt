-- That `mode_sound` of src/lib.rt keeps its contract.
use Rattle.aic_record.proofs.mode_sound.Goals as goal

pub returns : goal.returns
returns c = cc
