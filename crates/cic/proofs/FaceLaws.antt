-- A step in a room is the step of the record that was laid into it.
use Prim.Native.Nat.{ℕ}
use mathlib.Core.List.{List}
use mathlib.Core.Path.{◌≡◌, ap₂}
use Rattle.rooms.specs.Reply.{Reply}
use Rattle.cic_record.specs.declared.Answer.{Answer}
use Rattle.cic_record.specs.declared.Cic.{Cic}
use Rattle.cic_room.specs.Room.{Frame, Laid}
use Rattle.cic_room.proofs.Promises as of-laid
use Rattle.cic_room.specs.Reply.{reply_of, Done}

-- the answer that is put together from a reply and a record
pub answer-is : (x : Answer) {r : Reply} {d : Cic} → r ≡ reply_of x → d ≡ x.cic → ◌≡◌ {A = Answer} (record { refusal = r.0; value = r.1; cic = d }) x
answer-is x e f = ap₂ (λ (p : Reply) (d : Cic). record { refusal = p.0; value = p.1; cic = d }) e f

-- nothing changed in the room: the record is the one that was laid into it
pub same-record : (f : Frame) (c : Cic) (x : Answer) {room : List ℕ} {r : Reply} → Laid f c room → Done f x room r → c ≡ x.cic
same-record f c x h d = (of-laid.kept).whole f f c x.cic _ h d.0
