-- That `keeps` of src/kept.rt keeps its contract.
use Rattle.stack.proofs.KeptLaws.{keeps-told}
use Rattle.stack.proofs.kept.keeps.Goals as goal

pub returns : goal.returns
returns c = rw c.unkept.ensures (keeps-told c.args.t c.args.s)
