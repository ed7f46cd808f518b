-- That `read_in` of src/lib.rt keeps its contract.
use mathlib.Core.Path.{◌∙◌}
use mathlib.Core.Bool.{true, false}
use Rattle.cic_registers.specs.Model.{read_as}
use Rattle.cic_room.specs.Room.{plain}
use Rattle.cic.proofs.FaceLaws.{answer-is, same-record}
use Rattle.cic.proofs.read_in.Goals as goal

pub returns : goal.returns
returns c =
    let d = c.args.c in
    let h = c.lay-room.ensures c.requires in
    let x = c.read-r.ensures (plain false) d c.requires h in
    c.answer_with.ensures ∙ answer-is (read_as true d c.args.offset) x.1 (same-record (plain false) d (read_as true d c.args.offset) h x)
