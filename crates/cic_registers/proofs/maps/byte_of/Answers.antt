-- That `byte_of` of src/maps.rt keeps its contract.
use Rattle.words.specs.Array.{byte_of}
use Rattle.words.proofs.ArrayLaws.{byte_of_lt}
use mathlib.Core.Path.{refl}
use Rattle.cic_registers.proofs.maps.byte_of.Goals as goal

pub returns : goal.returns
unfolding byte_of
returns c = (refl, byte_of_lt c.args.w c.args.j)
