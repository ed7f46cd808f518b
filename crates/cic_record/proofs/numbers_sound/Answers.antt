-- That `numbers_sound` of src/lib.rt keeps its contract.
use Rattle.cic_record.proofs.numbers_sound.Goals as goal

pub returns : goal.returns
returns c = cc
