-- What the search for an index looks at, a word of 32 at a time: no document says this; what it finds is proved to be what crate cic_indices says.
use Rattle.std.specs.Prelude.{ℕ, ◌+◌, ◌*◌, ◌<◌, Bool, ◌&&◌, ◌≡◌, eqb, get_or}
use Rattle.words.specs.Word.{bit}
use Rattle.cic_record.specs.declared.Cic.{Cic}
use Rattle.cic_record.specs.declared.Host.{Host}
use Rattle.cic_record.specs.Kinds.{channel_number}
use Rattle.cic_held.specs.Order.{busy, leads}
use Rattle.cic_room.specs.Room.{active_word}

-- bit i of x tells whether system interrupt 32 * w + i is set and enabled and its channel is k
pub record Lit (c : Cic) (k w x : ℕ) : Type 0 where
  pub bits : (i : ℕ) → i < 32 → bit x i ≡ (bit (active_word c w) i && eqb (get_or c.channel (32 * w + i) 0) k)

-- bit j of x tells whether channel 32 * w + j has one and the index is over it
pub record Asked (c : Cic) (every : Bool) (h : Host) (w x : ℕ) : Type 0 where
  pub bits : (j : ℕ) → j < 32 → bit x j ≡ (leads c every h (channel_number (32 * w + j)) && busy c (channel_number (32 * w + j)))
