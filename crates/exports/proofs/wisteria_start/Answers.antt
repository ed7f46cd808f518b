-- That `wisteria_start` of src/lib.rt keeps its contract.
use Rattle.exports.proofs.wisteria_start.Goals as goal

pub returns : goal.returns
returns c = c.start.ensures
