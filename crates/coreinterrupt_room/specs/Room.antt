-- A CoreInterrupt laid out in a room: the numbers of its record, one after another (01, CoreInterrupt).
use Rattle.std.specs.Prelude.{ℕ, ◌+◌, ◌≡◌, Bool, List, [], ◌∷◌, set, replicate}
use Rattle.words.specs.Choice.{pick}
use Rattle.words.specs.Word.{either, without}
use Rattle.steps.specs.Refusals.{carried_out, read_access, write_access}
use Rattle.rooms.specs.Parts.{flat}
use Rattle.rooms.specs.Reply.{Reply, reply}
use Rattle.coreinterrupt.specs.Side.{side_access, side_read, side_write}
use Rattle.coreinterrupt.specs.declared.sides.Side.{Side}
use Rattle.coreinterrupt.specs.declared.Core.{Core}
use Rattle.coreinterrupt.specs.declared.Answer.{Answer}
use Rattle.coreinterrupt.specs.Model.{side, with_side, answered, unless_refused}

-- the single words, from 0 on: the kind (01, House trace); five of the FIQ side, then five of the IRQ side: sources, active level, lines, soft, enable
abbrev pub cells : Core → List ℕ
cells c =
    1 ∷ c.fiq.count ∷ c.fiq.level ∷ c.fiq.inputs ∷ c.fiq.soft ∷ c.fiq.enable
    ∷ c.irq.count ∷ c.irq.level ∷ c.irq.inputs ∷ c.irq.soft ∷ c.irq.enable ∷ []

-- the parts of a room and their sizes: the single words; all else is 0
abbrev pub parts : Core → List (List ℕ)
parts c = cells c ∷ replicate 2037 0 ∷ []

abbrev pub sizes : List ℕ
sizes = 11 ∷ 2037 ∷ []

-- the room of a record
unfoldable pub laid : Core → List ℕ
laid c = flat (parts c)

-- the record stands in the room
pub record Laid (c : Core) (room : List ℕ) : Type 0 where
  pub words : room ≡ laid c

-- the numbers of a side, stored from a place on
abbrev pub side_put : ℕ → Side → List ℕ → List ℕ
side_put at s l = set (set (set (set (set l at s.count) (at + 1) s.level) (at + 2) s.inputs) (at + 3) s.soft) (at + 4) s.enable

-- the first word of a side
unfoldable pub first_of : Bool → ℕ
first_of fast = pick fast 1 6

-- the refusal and the value of an answer
abbrev pub reply_of : Answer → Reply
reply_of x = reply x.refusal x.value

-- the record of an answer stands in the room, and the reply is its own
abbrev pub Done : Answer → List ℕ → Reply → Type 0
Done x room r = Laid x.core room × (r ≡ reply_of x)

-- a read of register i of a side, its offset aligned
unfoldable pub read_from : Core → Bool → ℕ → Answer
read_from c fast i = unless_refused c (read_access (side_access (side c fast) i)) (answered c (side_read (side c fast) i))

-- a write to register i of a side, its offset aligned
unfoldable pub write_to : Core → Bool → ℕ → ℕ → Answer
write_to c fast i v =
    unless_refused c (write_access (side_access (side c fast) i) carried_out) (answered (with_side c fast (side_write (side c fast) i v)) 0)

-- the word w with the bits of v set, or cleared
unfoldable pub turned : ℕ → ℕ → Bool → ℕ
turned w v on = pick on (either w v) (without w v)
