-- That `host_access` of src/own.rt keeps its contract.
use Rattle.indexed_room.proofs.FrameLaws.{hosts-is}
use Rattle.indexed_room.proofs.ReplyLaws.{access_there, access-none}
use Rattle.indexed_room.proofs.own.host_access.Goals as goal

pub returns-then-h-room : goal.returns-then-h-room
returns-then-h-room c = λ p h. access_there p _ _ (hosts-is h) c.if-h-room.true

pub returns : goal.returns
returns c = λ p h. access-none p _ _ (hosts-is h) c.if-h-room.false
