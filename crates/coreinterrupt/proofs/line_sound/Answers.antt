-- That `line_sound` of src/lib.rt keeps its contract.
use Rattle.coreinterrupt.specs.Model.{line}
use Rattle.coreinterrupt.proofs.line_sound.Goals as goal

pub returns : goal.returns
unfolding line
returns c = rw (c.unless_refused.ensures, c.answer_of.ensures, c.line_moved.ensures, c.line_refusal-n.ensures, c.requires)
