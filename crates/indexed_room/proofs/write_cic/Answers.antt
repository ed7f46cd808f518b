-- That `write_cic` of src/lib.rt keeps its contract.
use Rattle.cic_registers.specs.Model.{write_as}
use mathlib.Core.Bool.{true}
use Rattle.cic_indexed.proofs.SoundLaws.{sound-cic}
use Rattle.indexed_room.specs.Room.{framed}
use Rattle.indexed_room.proofs.StepLaws.{written-done, map-written}
use Rattle.indexed_room.proofs.write_cic.Goals as goal

pub returns-then-offset-ne1 : goal.returns-then-offset-ne1
returns-then-offset-ne1 c = λ p ok h. written-done p _ _ c.if-offset-ne1.true (c.write.ensures (framed p) p.cic (sound-cic p ok) h)

pub returns : goal.returns
returns c =
    let a = c.args in
    λ p ok h.
    let d = c.write-r.ensures (framed p) p.cic (sound-cic p ok) h in
    (c.renew.ensures (framed p) (write_as true p.cic a.offset a.v).cic p.cic.channel (map-written p a.offset a.v c.if-offset-ne1.false h) d.0, d.1)
