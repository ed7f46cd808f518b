-- That `write_elsewhere` of src/lib.rt keeps its contract.
use Rattle.indexed_room.proofs.HoldLaws.{mode-is}
use Rattle.indexed_room.proofs.StepLaws.{elsewhere-refused, elsewhere-plain, elsewhere-ends}
use Rattle.indexed_room.proofs.write_elsewhere.Goals as goal

pub returns-then-refusal_in-ne-CARRIED_OUT : goal.returns-then-refusal_in-ne-CARRIED_OUT
returns-then-refusal_in-ne-CARRIED_OUT c =
    λ p ok h. elsewhere-refused p _ _ _ c.refusal_in.ensures c.if-refusal_in-ne-CARRIED_OUT.true (c.write_cic-r.ensures p ok h)

pub returns-then-room-ne1 : goal.returns-then-room-ne1
returns-then-room-ne1 c =
    λ p ok h.
    let d = c.write_cic-r.ensures p ok h in
    elsewhere-plain p _ _ _ _ c.refusal_in.ensures c.if-refusal_in-ne-CARRIED_OUT.false (mode-is _ d.0) c.if-room-ne1.true d

pub returns : goal.returns
returns c =
    λ p ok h.
    let d = c.write_cic-r.ensures p ok h in
    elsewhere-ends p _ _ _ _ _ c.refusal_in.ensures c.if-refusal_in-ne-CARRIED_OUT.false (mode-is _ d.0) c.if-room-ne1.false d (c.end_holds.ensures _ d.0)
