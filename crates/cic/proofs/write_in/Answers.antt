-- That `write_in` of src/lib.rt keeps its contract.
use mathlib.Core.Path.{◌∙◌}
use mathlib.Core.Bool.{true, false}
use Rattle.cic_registers.specs.Model.{write_as}
use Rattle.cic_room.specs.Room.{plain}
use Rattle.cic.proofs.FaceLaws.{answer-is}
use Rattle.cic.proofs.write_in.Goals as goal

pub returns : goal.returns
returns c =
    let d = c.args.c in
    let x = c.write-r.ensures (plain false) d c.requires (c.lay-room.ensures c.requires) in
    c.answer_with.ensures ∙ answer-is (write_as true d c.args.offset c.args.value) x.1 (c.record_of.ensures (plain false) _ x.0)
