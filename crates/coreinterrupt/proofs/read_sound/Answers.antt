-- That `read_sound` of src/lib.rt keeps its contract.
use Rattle.coreinterrupt.specs.Model.{read}
use Rattle.coreinterrupt.proofs.read_sound.Goals as goal

pub returns : goal.returns
unfolding read
returns c = rw (c.unless_refused.ensures, c.answer_of.ensures, c.value_at.ensures, c.read_refusal-n.ensures, c.access.ensures, c.requires)
