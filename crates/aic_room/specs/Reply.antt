-- What a step in a room answers.
use Rattle.std.specs.Prelude.{◌≡◌, List, ℕ}
use Rattle.aic_registers.specs.declared.Answer.{Answer}
use Rattle.aic_room.specs.Room.{Laid}
use Rattle.rooms.specs.Reply.{Reply, reply}

-- the refusal and the value of an answer
abbrev pub reply_of : Answer → Reply
reply_of x = reply x.refusal x.value

-- the record of an answer stands in the room, and the reply is its own
abbrev pub Done : Answer → List ℕ → Reply → Type 0
Done x room r = Laid x.aic room × (r ≡ reply_of x)
