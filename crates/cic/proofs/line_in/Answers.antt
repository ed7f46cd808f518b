-- That `line_in` of src/lib.rt keeps its contract.
use mathlib.Core.Path.{◌∙◌}
use mathlib.Core.Bool.{true, false}
use Rattle.cic_registers.specs.Model.{line_as}
use Rattle.cic_room.specs.Room.{plain}
use Rattle.cic.proofs.FaceLaws.{answer-is}
use Rattle.cic.proofs.line_in.Goals as goal

pub returns : goal.returns
returns c =
    let d = c.args.c in
    let x = c.line-r.ensures (plain false) d c.requires (c.lay-room.ensures c.requires) in
    c.answer_with.ensures ∙ answer-is (line_as true d c.args.number c.args.level) x.1 (c.record_of.ensures (plain false) _ x.0)
