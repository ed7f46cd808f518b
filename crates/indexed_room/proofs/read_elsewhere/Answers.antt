-- That `read_elsewhere` of src/lib.rt keeps its contract.
use Rattle.cic_indexed.proofs.SoundLaws.{sound-cic}
use Rattle.indexed_room.specs.Room.{framed}
use Rattle.indexed_room.proofs.StepLaws.{read_done}
use Rattle.indexed_room.proofs.read_elsewhere.Goals as goal

pub returns : goal.returns
returns c = λ p ok h. read_done p _ (c.read.ensures (framed p) p.cic (sound-cic p ok) h)
