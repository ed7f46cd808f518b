-- A controller of any kind in a room, by the kind in its first word (01, "House trace"; 02, 2/12 and 6/12).
use Rattle.std.specs.Prelude.{◌≡◌, Bool, List, ℕ, get_or}
use Rattle.aic_record.specs.declared.Aic.{Aic}
use Rattle.aic_room.specs.Room.{Laid as AicLaid}
use Rattle.coreinterrupt.specs.declared.Core.{Core}
use Rattle.coreinterrupt_room.specs.Room.{Laid as CoreLaid}
use Rattle.cic_record.specs.declared.Cic.{Cic}
use Rattle.cic_room.specs.Room.{plain, Laid as CicLaid}
use Rattle.cic_held.specs.declared.Prioritised.{Prioritised}
use Rattle.indexed_room.specs.Room.{Laid as IndexedLaid}
use Rattle.aintc_record.specs.declared.Aintc.{Aintc}
use Rattle.aintc_room.specs.Room.{Laid as AintcLaid}
use Rattle.kinds.specs.Kinds.{aic_kind, core_kind, cic_kind, aintc_kind, indexed_kind}
use Rattle.machine.specs.declared.record.Machine.{Machine}
use Rattle.machine.specs.Machine.{indexed}
use Rattle.machine.specs.declared.Answer.{Answer}
use Rattle.rooms.specs.Reply.{Reply, reply}

-- the machine stands in the room: its kind in word 0, and the record of its kind as that kind lays it. Where `kept`, so does what a listing shows of a CIC
pub record Laid (kept : Bool) (m : Machine) (room : List ℕ) : Type 0 where
  pub kind : get_or room 0 0 ≡ m.kind
  pub aic : m.kind ≡ aic_kind → AicLaid m.aic room
  pub core : m.kind ≡ core_kind → CoreLaid m.core room
  pub cic : m.kind ≡ cic_kind → CicLaid (plain kept) m.cic room
  pub aintc : m.kind ≡ aintc_kind → AintcLaid m.aintc room
  pub indexed : m.kind ≡ indexed_kind → IndexedLaid (indexed m) room

-- the refusal and the value of an answer
abbrev pub reply_of : Answer → Reply
reply_of x = reply x.refusal x.value

-- the machine of an answer stands in the room, and the reply is its own
abbrev pub Done : Bool → Answer → List ℕ → Reply → Type 0
Done kept x room r = Laid kept x.machine room × (r ≡ reply_of x)

-- the machine with another record of one kind
abbrev pub with_aic : Machine → Aic → Machine
with_aic m a = record { kind = m.kind; aic = a; core = m.core; cic = m.cic; aintc = m.aintc; held = m.held }

abbrev pub with_core : Machine → Core → Machine
with_core m c = record { kind = m.kind; aic = m.aic; core = c; cic = m.cic; aintc = m.aintc; held = m.held }

abbrev pub with_cic : Machine → Cic → Machine
with_cic m c = record { kind = m.kind; aic = m.aic; core = m.core; cic = c; aintc = m.aintc; held = m.held }

abbrev pub with_aintc : Machine → Aintc → Machine
with_aintc m a = record { kind = m.kind; aic = m.aic; core = m.core; cic = m.cic; aintc = a; held = m.held }

abbrev pub with_indexed : Machine → Prioritised → Machine
with_indexed m p = record { kind = m.kind; aic = m.aic; core = m.core; cic = p.cic; aintc = m.aintc; held = p.held }

-- the machine is another in nothing but the record of its kind: what does not stand in a room is still what it was
pub record Beside (first m : Machine) : Type 0 where
  pub aic : m.kind ≡ aic_kind → m ≡ with_aic first m.aic
  pub core : m.kind ≡ core_kind → m ≡ with_core first m.core
  pub cic : m.kind ≡ cic_kind → m ≡ with_cic first m.cic
  pub aintc : m.kind ≡ aintc_kind → m ≡ with_aintc first m.aintc
  pub indexed : m.kind ≡ indexed_kind → m ≡ with_indexed first (indexed m)
