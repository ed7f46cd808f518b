-- That `ends` of src/lib.rt keeps its contract.
use mathlib.Core.Path.{refl}
use Rattle.deeds.specs.Deeds.{ends}
use Rattle.deeds.proofs.ends.Goals as goal

pub returns-in-Read : goal.returns-in-Read
unfolding ends
returns-in-Read c = rw c.in-Read.is refl

pub returns-in-Write : goal.returns-in-Write
unfolding ends
returns-in-Write c = rw c.in-Write.is refl

pub returns-in-Line : goal.returns-in-Line
unfolding ends
returns-in-Line c = rw c.in-Line.is refl
