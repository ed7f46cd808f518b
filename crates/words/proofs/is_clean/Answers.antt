-- That `is_clean` of src/lib.rt keeps its contract.
use Rattle.words.specs.Word.{clean}
use Rattle.words.proofs.is_clean.Goals as goal

pub returns : goal.returns
unfolding clean
returns c = cc
