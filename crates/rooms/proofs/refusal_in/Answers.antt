-- That `refusal_in` of src/lib.rt keeps its contract.
use mathlib.Core.Path.{refl}
use Rattle.rooms.specs.Reply.{told}
use Rattle.rooms.proofs.refusal_in.Goals as goal

pub returns : goal.returns
unfolding told
returns c = refl
