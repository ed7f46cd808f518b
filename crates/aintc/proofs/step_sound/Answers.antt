-- That `step_sound` of src/lib.rt keeps its contract.
use Rattle.aintc_registers.specs.Model.{step}
use Rattle.aintc.proofs.SideLaws.{step-sound}
use Rattle.aintc.proofs.StepLaws.{answer-told}
use Rattle.aintc.proofs.step_sound.Goals as goal

pub returns : goal.returns
returns c =
    let s = c.args.s in
    let p = c.args.privilege in
    let x = c.args.x in
    let d = c.step_in-reply.ensures s c.requires c.lay-room.ensures in
    answer-told s p x _ _ _ d.1 c.refusal_in.ensures c.value_in.ensures
    (c.record_of-aintc.ensures (step s p x).aintc (step-sound s p x c.requires) d.0)
