-- That `source_keeps` of src/kept.rt keeps its contract.
use Rattle.stack.specs.Kept.{source_keeps}
use Rattle.stack.proofs.kept.source_keeps.Goals as goal

pub returns : goal.returns
unfolding source_keeps
returns c = rw (c.has.ensures, c.has_mode.ensures, c.has_forcing.ensures)
