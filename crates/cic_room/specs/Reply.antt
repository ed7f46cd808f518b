-- What a step in a room answers.
use Rattle.std.specs.Prelude.{◌≡◌, List, ℕ}
use Rattle.cic_record.specs.declared.Answer.{Answer}
use Rattle.cic_record.specs.declared.Reply as of-cic
use Rattle.cic_room.specs.Room.{Frame, Laid}
use Rattle.rooms.specs.Reply.{Reply, reply}

-- the refusal and the value of an answer
abbrev pub reply_of : Answer → Reply
reply_of x = reply x.refusal x.value

-- and of what a read answers
abbrev pub read_reply : of-cic.Reply → Reply
read_reply x = reply x.refusal x.value

-- the record of an answer stands in the room, in the frame that it had, and the reply is its own
abbrev pub Done : Frame → Answer → List ℕ → Reply → Type 0
Done f x room r = Laid f x.cic room × (r ≡ reply_of x)
