-- A step in a room is the step of the record that was laid into it.
use mathlib.Core.Path.{◌≡◌, ap₂}
use Rattle.rooms.specs.Reply.{Reply}
use Rattle.cic_held.specs.declared.Answer.{Answer}
use Rattle.cic_held.specs.declared.Prioritised.{Prioritised}
use Rattle.indexed_room.specs.Reply.{reply_of}

-- the answer that is put together from a reply and a record
pub answer-is : (x : Answer) {r : Reply} {d : Prioritised} → r ≡ reply_of x → d ≡ x.prioritised
    → ◌≡◌ {A = Answer} (record { refusal = r.0; value = r.1; prioritised = d }) x
answer-is x e f = ap₂ (λ (p : Reply) (d : Prioritised). record { refusal = p.0; value = p.1; prioritised = d }) e f
