-- That `byte_of` of src/laid.rt keeps its contract.
use mathlib.Core.Path.{refl}
use Rattle.words.specs.Array.{byte_of}
use Rattle.words.proofs.ArrayLaws.{byte_of_lt}
use Rattle.cic_room.proofs.laid.byte_of.Goals as goal

pub returns : goal.returns
unfolding byte_of
returns c = (refl, byte_of_lt c.args.w c.args.j)
