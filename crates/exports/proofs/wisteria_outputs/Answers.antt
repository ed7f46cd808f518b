-- That `wisteria_outputs` of src/lib.rt keeps its contract.
use Rattle.exports.proofs.wisteria_outputs.Goals as goal

pub returns : goal.returns
returns c = c.outputs-s.ensures
