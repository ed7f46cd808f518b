-- That `put_head` of src/lib.rt keeps its contract.
use Rattle.text.proofs.WriteLaws.{nothing}
use Rattle.words.specs.Choice.{pick}
use Rattle.explain.specs.Explain.{head_of}
use Rattle.explain.proofs.put_head.Goals as goal

pub returns-in-Whole : goal.returns-in-Whole
unfolding head_of pick
returns-in-Whole c = rw c.in-Whole.is c.put_controller_line.ensures

pub returns-in-Part : goal.returns-in-Part
unfolding head_of pick
returns-in-Part c = rw c.in-Part.is (nothing _)
