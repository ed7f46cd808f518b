-- A room in which the words of the channels are laid out: no document says this.
use Rattle.std.specs.Prelude.{ℕ, ◌/◌, ◌^◌, ◌<◌, ◌&&◌, List, ◌≡◌, eqb, get_or}
use Rattle.words.specs.Counting.{any_below}
use Rattle.words.specs.Word.{bit}
use Rattle.cic_record.specs.declared.Cic.{Cic}
use Rattle.cic_room.specs.Room.{Frame, Laid}
use Rattle.indexed_room.specs.Room.{with_words}

-- the first n system interrupts are entered in the words of their channels, and no others
pub record Entered (f : Frame) (c : Cic) (n : ℕ) (room : List ℕ) : Type 0 where
  pub words : List ℕ
  pub stands : Laid (with_words f words) c room
  pub small : (k : ℕ) → k < 256 → get_or words k 0 < 2 ^ 32
  pub bits : (k w : ℕ) → k < 256 → w < 32 → bit (get_or words k 0) w ≡ any_below n (λ i. eqb (i / 32) w && eqb (get_or c.channel i 0) k)
