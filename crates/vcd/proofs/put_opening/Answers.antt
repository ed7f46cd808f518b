-- That `put_opening` of src/lib.rt keeps its contract.
use Rattle.text.specs.Phrases.{bytes}
use Rattle.vcd.specs.Dump.{opening}
use Rattle.vcd.proofs.put_opening.Goals as goal

pub returns : goal.returns
unfolding opening bytes
returns c = c.put_all.ensures
