-- What a loop that lays out a table leaves, and a room in which nothing is kept yet: no document says this.
use Rattle.std.specs.Prelude.{ℕ, ◌+◌, ◌<◌, ◌≤◌, List, ◌⊎◌, ◌≡◌, get_or, length}
use Rattle.cic_record.specs.declared.Cic.{Cic}
use Rattle.cic_room.specs.Room.{Frame, active_word}
use Rattle.cic_room.specs.Tables.{Table, Tables, Counted}

-- n words from a place on are put anew, and no others
pub record Copied (at n : ℕ) (f : ℕ → ℕ) (old new : List ℕ) : Type 0 where
  pub long : length new ≡ length old
  pub table : Table new at n f
  pub others : (i : ℕ) → (i < at) ⊎ (at + n ≤ i) → get_or new i 0 ≡ get_or old i 0

-- all words for what is kept are 0
abbrev pub Blank : List ℕ → Type 0
Blank room = Tables (λ _. 0) (λ _. 0) (λ _. 0) (λ _. 0) (λ _. 0) (λ _. 0) room

-- the first k words of active system interrupts are those that are set and enabled
pub record Upto (f : Frame) (c : Cic) (k : ℕ) (room : List ℕ) : Type 0 where
  pub active : List ℕ
  pub counted : Counted f c active room
  pub words : (i : ℕ) → i < k → get_or active i 0 ≡ active_word c i
