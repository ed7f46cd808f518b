-- That `put_declared` of src/lib.rt keeps its contract.
use Rattle.text.specs.Phrases.{bytes}
use Rattle.vcd.specs.Dump.{declared}
use Rattle.vcd.proofs.put_declared.Goals as goal

pub returns : goal.returns
unfolding declared bytes
returns c = c.put_all.ensures
