-- That `write_sound` of src/lib.rt keeps its contract.
use Rattle.coreinterrupt.specs.Model.{write}
use Rattle.coreinterrupt.proofs.write_sound.Goals as goal

pub returns : goal.returns
unfolding write
returns c = rw (c.unless_refused.ensures, c.answer_of.ensures, c.written.ensures, c.write_refusal-n.ensures, c.access.ensures, c.requires)
