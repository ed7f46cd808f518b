-- What is promised of a room with prioritised indices: a record determines every word of it, a room has one record, and what the words tell that only it has.
use Rattle.std.specs.Prelude.{ℕ, ◌+◌, ◌*◌, ◌<◌, true, List, ◌↔◌, ◌≡◌, length, get_or}
use Rattle.words.specs.Word.{bit}
use Rattle.cic_record.specs.Promises.{Shaped}
use Rattle.cic_room.specs.Room.{Bytes}
use Rattle.cic_held.specs.declared.Prioritised.{Prioritised}
use Rattle.indexed_room.specs.Room.{Laid}

pub record Promises : Type 0 where
  -- two rooms in which one record stands are equal: no word is free
  pub determined : (p : Prioritised) (r s : List ℕ) → Laid p r → Laid p s → r ≡ s
  -- two records that stand in one room are equal: no number of a record is left out
  pub whole : (p q : Prioritised) (r : List ℕ) → Laid p r → Laid q r → p ≡ q
  -- each record of the shape, what it keeps in a byte being one, has a room, of 2,048 words, whose word 0 is the kind of a CIC with indices (02, 6/12)
  pub stands : (p : Prioritised) → Shaped p.cic → Bytes p.cic → length p.held.host ≡ 256 → (r : List ℕ) × Laid p r
  pub size : (p : Prioritised) (r : List ℕ) → Laid p r → (length r ≡ 2048) × (get_or r 0 0 ≡ 4)
  -- words 9, 10 and 11 are the choice, the hold mode and what is held for the global index; word 1024 + h is what is held for host h (02, 6/12)
  pub index : (p : Prioritised) (r : List ℕ) → Laid p r → (get_or r 9 0 ≡ p.held.choice) × (get_or r 10 0 ≡ p.held.hold) × (get_or r 11 0 ≡ p.held.global)
  pub held : (p : Prioritised) (r : List ℕ) (h : ℕ) → Laid p r → h < 256 → get_or r (1024 + h) 0 ≡ get_or p.held.host h 0
  -- bit w of word 1280 + k is set exactly if the channel map has k for one of the system interrupts 32 w to 32 w + 31 (001, 1.3.3)
  pub words : (p : Prioritised) (r : List ℕ) (k w : ℕ) → Laid p r → k < 256 → w < 32
      → (bit (get_or r (1280 + k) 0) w ≡ true) ↔ ((i : ℕ) × (i < 32) × (get_or p.cic.channel (32 * w + i) 0 ≡ k))
