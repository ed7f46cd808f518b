-- What is promised of a machine in a room: the first word tells its kind, the machine determines every word, a room has one machine, and a refused step
-- leaves every word as it stood.
use Rattle.std.specs.Prelude.{ℕ, ◌≡◌, Bool, true, List, ◌≢◌, length, get_or}
use Rattle.steps.specs.declared.Recorded.{Recorded}
use Rattle.rooms.specs.Reply.{Reply}
use Rattle.machine.specs.declared.record.Machine.{Machine}
use Rattle.machine.specs.Machine.{sound}
use Rattle.machine.specs.Steps.{step}
use Rattle.machine_room.specs.Room.{Laid, Done, Beside}

pub record Promises : Type 0 where
  -- ---- the layout
  -- the first of 2,048 words is the kind: 0 to 4, as a trace tells it (01, House trace; 02, 2/12 and 6/12)
  pub kind_told : (kept : Bool) (m : Machine) (r : List ℕ) → Laid kept m r → get_or r 0 0 ≡ m.kind
  pub size : (kept : Bool) (m : Machine) (r : List ℕ) → sound m ≡ true → Laid kept m r → length r ≡ 2048
  -- two rooms in which one machine stands are equal: no word is free
  pub determined : (kept : Bool) (m : Machine) (r s : List ℕ) → sound m ≡ true → Laid kept m r → Laid kept m s → r ≡ s
  -- two machines in one room, with the records of the other kinds alike, are equal: no number of a record is left out
  pub whole : (kept : Bool) (first m n : Machine) (r : List ℕ) → sound m ≡ true → Laid kept m r → Laid kept n r → Beside first m → Beside first n → m ≡ n
  -- ---- a step of the machine in the room r, after which the room is s and the reply q
  -- the reply has the refusal and the value of the step by value (01, House trace)
  pub answers : (kept : Bool) (m : Machine) (x : Recorded) (s : List ℕ) (q : Reply) → Done kept (step m x) s q
      → (q.0 ≡ (step m x).refusal) × (q.1 ≡ (step m x).value)
  -- a refused step leaves every word of the room as it was, and answers the value 0 (01, Numbers)
  pub refused_same : (kept : Bool) (m : Machine) (x : Recorded) (r s : List ℕ) (q : Reply) → sound m ≡ true → Laid kept m r → Done kept (step m x) s q
      → q.0 ≢ 0 → (s ≡ r) × (q.1 ≡ 0)
