-- That `outputs` of src/lib.rt keeps its contract.
use mathlib.Core.Path.{refl}
use Rattle.cic_indexed.proofs.SoundLaws.{sound-cic}
use Rattle.indexed_room.specs.Room.{framed}
use Rattle.indexed_room.proofs.StepLaws.{outputs-told}
use Rattle.indexed_room.proofs.outputs.Goals as goal

pub returns : goal.returns
returns c = λ p ok h. outputs-told p ok (c.outputs.ensures (framed p) p.cic refl (sound-cic p ok) h)
