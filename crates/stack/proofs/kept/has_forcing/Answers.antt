-- That `has_forcing` of src/kept.rt keeps its contract.
use Rattle.stack.specs.Kept.{same_forcing}
use Rattle.stack.proofs.kept.has_forcing.Goals as goal

pub returns : goal.returns
unfolding same_forcing
returns c =
    rw (c.one_if-ours.ensures, c.one_if-theirs.ensures, c.has.ensures, c.has-2.ensures)
