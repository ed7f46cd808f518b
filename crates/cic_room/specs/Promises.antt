-- What is promised of the layout: a record and its frame determine every word of the room, and what the kept words tell.
use Rattle.std.specs.Prelude.{ℕ, ◌+◌, ◌*◌, ◌<◌, true, ◌&&◌, not, List, ◌≡◌, eqb, length, get_or}
use Rattle.words.specs.Array.{bit_at}
use Rattle.words.specs.Counting.{any_below, count_below}
use Rattle.words.specs.Word.{bit}
use Rattle.cic_record.specs.declared.Cic.{Cic}
use Rattle.cic_record.specs.Kinds.{system, host_number, channel_of}
use Rattle.cic_record.specs.Promises.{Shaped}
use Rattle.cic_record.specs.Sound.{sound}
use Rattle.cic_registers.specs.Hosts.{raises, shown}
use Rattle.cic_room.specs.Room.{Frame, Framed, Bytes, Laid}

pub record Promises : Type 0 where
  -- two rooms in which one record stands in one frame are equal: no word is free
  pub determined : (f : Frame) (c : Cic) (r s : List ℕ) → Laid f c r → Laid f c s → r ≡ s
  -- two records that stand in one room are equal: no number of a record is left out
  pub whole : (f g : Frame) (c d : Cic) (r : List ℕ) → Laid f c r → Laid g d r → c ≡ d
  -- each record of the shape, what it keeps in a byte being one, has a room in each frame, of 2,048 words, whose word 0 is the kind
  pub stands : (f : Frame) (c : Cic) → Framed f → Shaped c → Bytes c → (r : List ℕ) × Laid f c r
  pub size : (f : Frame) (c : Cic) (r : List ℕ) → Laid f c r → (length r ≡ 2048) × (get_or r 0 0 ≡ f.kind)
  -- bit j of word 160 + k tells whether system interrupt 32 k + j is set and enabled (01, CIC, outputs)
  pub words : (f : Frame) (c : Cic) (r : List ℕ) (k j : ℕ) → Laid f c r → f.kept ≡ true → k < 32 → j < 32
      → bit (get_or r (160 + k) 0) j ≡ (bit_at c.status (32 * k + j) && bit_at c.enable (32 * k + j))
  -- of a sound record word 768 + h is how many configured system interrupts raise host h (01, CIC, outputs)
  pub counts : (f : Frame) (c : Cic) (r : List ℕ) (h : ℕ) → sound c ≡ true → Laid f c r → f.kept ≡ true → h < 256
      → get_or r (768 + h) 0 ≡ count_below c.systems (λ s. raises c (host_number h) (system s))
  -- and bit j of word 24 + k is set exactly if there is one for host 32 k + j (01, CIC, outputs)
  pub bits : (f : Frame) (c : Cic) (r : List ℕ) (k j : ℕ) → sound c ≡ true → Laid f c r → f.kept ≡ true → k < 8 → j < 32
      → bit (get_or r (24 + k) 0) j ≡ any_below c.systems (λ s. raises c (host_number (32 * k + j)) (system s))
  -- word 512 + k is how many active ones channel k has, and bit j of word 32 + k tells whether channel 32 k + j has any (001, 1.3.3)
  pub channels : (f : Frame) (c : Cic) (r : List ℕ) (k : ℕ) → Laid f c r → f.kept ≡ true → k < 256
      → get_or r (512 + k) 0 ≡ count_below 1024 (λ s. (bit_at c.status s && bit_at c.enable s) && eqb (channel_of c (system s)).0 k)
  pub busy : (f : Frame) (c : Cic) (r : List ℕ) (k j : ℕ) → Laid f c r → f.kept ≡ true → k < 8 → j < 32
      → bit (get_or r (32 + k) 0) j ≡ not (eqb (get_or r (512 + (32 * k + j)) 0) 0)
  -- of a sound record words 7 and 8 are how many hosts are asserted and the lowest of them (01, House trace)
  pub columns : (f : Frame) (c : Cic) (r : List ℕ) → sound c ≡ true → Laid f c r → f.kept ≡ true → (get_or r 7 0 ≡ (shown c).hosts) × (get_or r 8 0 ≡ (shown c).lowest)
  -- what no number needs is 0
  pub rest : (f : Frame) (c : Cic) (r : List ℕ) (i : ℕ) → Laid f c r → i < 512 → get_or r (1536 + i) 0 ≡ 0
