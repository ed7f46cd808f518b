-- That `line` of src/lib.rt keeps its contract.
use Rattle.cic_indexed.proofs.SoundLaws.{sound-cic}
use Rattle.indexed_room.specs.Room.{framed}
use Rattle.indexed_room.proofs.StepLaws.{line-done}
use Rattle.indexed_room.proofs.line.Goals as goal

pub returns : goal.returns
returns c = λ p ok h. line-done p _ _ ok (c.line.ensures (framed p) p.cic (sound-cic p ok) h)
