-- A CIC with prioritised indices laid out in a room: the CIC in a frame that has what is held, and of each channel its words.
use Rattle.std.specs.Prelude.{ℕ, Bool, true, List, [], ◌∷◌}
use Rattle.rooms.specs.Parts.{made}
use Rattle.cic_record.specs.declared.Cic.{Cic}
use Rattle.cic_held.specs.declared.Prioritised.{Prioritised}
use Rattle.cic_room.specs.Room.{Frame}
use Rattle.cic_room.specs.Room as cic
use Rattle.indexed_room.specs.Words.{words_of, Right}

-- the frame: kind 4, and all that can be kept is; the choice, the hold mode and what is held for the global index; what is held for each host's; and
-- of each channel the words of 32 system interrupts that have one of it (02, 6/12)
abbrev pub framed : Prioritised → Frame
framed p =
    record {
      kind = 4;
      kept = true;
      index = p.held.choice ∷ p.held.hold ∷ p.held.global ∷ [];
      held = p.held.host;
      words = made 256 (words_of p.cic.channel);
    }

-- the record stands in the room
abbrev pub Laid : Prioritised → List ℕ → Type 0
Laid p room = cic.Laid (framed p) p.cic room

-- ---- a frame with one part of it put anew

abbrev pub with_kind : Frame → ℕ → Frame
with_kind f x = record { kind = x; kept = f.kept; index = f.index; held = f.held; words = f.words }

abbrev pub with_index : Frame → List ℕ → Frame
with_index f x = record { kind = f.kind; kept = f.kept; index = x; held = f.held; words = f.words }

abbrev pub with_held : Frame → List ℕ → Frame
with_held f x = record { kind = f.kind; kept = f.kept; index = f.index; held = x; words = f.words }

abbrev pub with_words : Frame → List ℕ → Frame
with_words f x = record { kind = f.kind; kept = f.kept; index = f.index; held = f.held; words = x }

-- the record stands in that frame but for the words of the channels, of which bit w is still to be put right where `todo` tells
pub record Renewing (f : Frame) (c : Cic) (w : ℕ) (todo : ℕ → Bool) (room : List ℕ) : Type 0 where
  pub words : List ℕ
  pub stands : cic.Laid (with_words f words) c room
  pub right : Right c.channel w todo words
