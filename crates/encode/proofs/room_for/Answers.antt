-- That `room_for` of src/lib.rt keeps its contract.
use Rattle.encode.proofs.EncodeLaws.{room-over, room-left}
use Rattle.encode.proofs.room_for.Goals as goal

pub returns-then-size-s : goal.returns-then-size-s
returns-then-size-s c =
    room-over c.args.size c.args.s _ c.requires c.if-size-s.true c.expects.ensures

pub returns : goal.returns
returns c =
    room-left c.args.size c.args.s c.requires c.if-size-s.false
