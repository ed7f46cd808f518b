-- The same room table by table, also while what is kept in it is not yet that of its record: no document says this.
use Rattle.std.specs.Prelude.{ℕ, ◌+◌, ◌*◌, ◌/◌, ◌<◌, Bool, ◌&&◌, not, List, ◌≡◌, eqb, get_or, length}
use Rattle.words.specs.Array.{bit_at, byte_of}
use Rattle.words.specs.Choice.{pick}
use Rattle.words.specs.Counting.{count_below}
use Rattle.cic_record.specs.declared.Cic.{Cic}
use Rattle.cic_record.specs.Kinds.{system, channel_of, host_of}
use Rattle.cic_record.specs.Promises.{Shaped}
use Rattle.cic_registers.specs.Maps.{map_read}
use Rattle.cic_room.specs.Room.{Frame, Framed, Bytes, cells, active_word, permitted, some_word, shown_word, if_kept}

-- n words from a place on, the kth of which is f k
pub record Table (room : List ℕ) (at n : ℕ) (f : ℕ → ℕ) : Type 0 where
  pub holds : (k : ℕ) → k < n → get_or room (at + k) 0 ≡ f k

-- the record and the frame stand in the room
pub record Held (f : Frame) (c : Cic) (room : List ℕ) : Type 0 where
  pub framed : Framed f
  pub shaped : Shaped c
  pub bytes : Bytes c
  pub long : length room ≡ 2048
  pub first : Table room 0 7 (λ k. get_or (cells f c) k 0)
  pub index : Table room 9 7 (λ k. get_or f.index k 0)
  pub allow : Table room 16 8 (λ k. get_or c.allow k 0)
  pub gap : Table room 40 24 (λ k. 0)
  pub lines : Table room 64 32 (λ k. get_or c.lines k 0)
  pub status : Table room 96 32 (λ k. get_or c.status k 0)
  pub enable : Table room 128 32 (λ k. get_or c.enable k 0)
  pub host : Table room 192 64 (map_read 256 c.host)
  pub channel : Table room 256 256 (map_read 1024 c.channel)
  pub held : Table room 1024 256 (λ k. get_or f.held k 0)
  pub words : Table room 1280 768 (λ k. get_or f.words k 0)

-- what is kept: the two numbers shown, the hosts and the channels that have any, active words, how many each channel and each host has
pub record Tables (n r b a u g : ℕ → ℕ) (room : List ℕ) : Type 0 where
  pub long : length room ≡ 2048
  pub shown : Table room 7 2 n
  pub raised : Table room 24 8 r
  pub busy : Table room 32 8 b
  pub active : Table room 160 32 a
  pub of_channel : Table room 512 256 u
  pub of_host : Table room 768 256 g

-- all of it by permitted hosts, active words and two counts
abbrev pub Beside : (ℕ → Bool) → (ℕ → ℕ) → (ℕ → ℕ) → (ℕ → ℕ) → List ℕ → Type 0
Beside permit a u g room = Tables (shown_word permit g) (some_word g) (some_word u) a u g room

-- the channel and the host of system interrupt s
abbrev pub channel_at : Cic → ℕ → ℕ
channel_at c s = (channel_of c (system s)).0

abbrev pub host_at : Cic → ℕ → ℕ
host_at c s = (host_of c (channel_of c (system s))).0

-- how many of the active system interrupts go to h, where s goes to t s
abbrev pub load_by : (ℕ → ℕ) → List ℕ → ℕ → ℕ
load_by t ws h = count_below 1024 (λ s. bit_at ws s && eqb (t s) h)

-- n more at h
abbrev pub more : (ℕ → ℕ) → ℕ → ℕ → ℕ → ℕ
more load h n i = load i + pick (eqb i h) n 0

-- these words of active system interrupts are kept, where anything is, and counted under the maps of the record
pub record Counted (f : Frame) (c : Cic) (ws room : List ℕ) : Type 0 where
  pub held : Held f c room
  pub long : length ws ≡ 32
  pub kept :
      Tables (if_kept f (shown_word (permitted c) (load_by (host_at c) ws))) (if_kept f (some_word (load_by (host_at c) ws))) (if_kept f (some_word (load_by (channel_at c) ws)))
      (if_kept f (λ k. get_or ws k 0)) (if_kept f (load_by (channel_at c) ws)) (if_kept f (load_by (host_at c) ws)) room

-- and they are the ones that are set and enabled
pub record Standing (f : Frame) (c : Cic) (room : List ℕ) : Type 0 where
  pub active : List ℕ
  pub counted : Counted f c active room
  pub words : (i : ℕ) → i < 32 → get_or active i 0 ≡ active_word c i

-- but for word k, which is still to be renewed
pub record Stale (f : Frame) (c : Cic) (k : ℕ) (room : List ℕ) : Type 0 where
  pub active : List ℕ
  pub counted : Counted f c active room
  pub others : (i : ℕ) → i < 32 → (i ≡ k → ⊥) → get_or active i 0 ≡ active_word c i

-- the system interrupts of register k of the channel map are taken out, and no others
pub record Taken (f : Frame) (c : Cic) (first : List ℕ) (k : ℕ) (room : List ℕ) : Type 0 where
  pub active : List ℕ
  pub counted : Counted f c active room
  pub out : (s : ℕ) → s < 1024 → bit_at active s ≡ (bit_at first s && not (eqb (s / 4) k))
  pub others : (i : ℕ) → (i ≡ k / 8 → ⊥) → get_or active i 0 ≡ get_or first i 0

-- what is shown is still to be worked out anew
pub record Dim (f : Frame) (c : Cic) (ws room : List ℕ) : Type 0 where
  pub held : Held f c room
  pub long : length ws ≡ 32
  pub numbers : ℕ → ℕ
  pub kept :
      Tables (if_kept f numbers) (if_kept f (some_word (load_by (host_at c) ws))) (if_kept f (some_word (load_by (channel_at c) ws)))
      (if_kept f (λ k. get_or ws k 0)) (if_kept f (load_by (channel_at c) ws)) (if_kept f (load_by (host_at c) ws)) room

-- counts of which one, at h, is 0 and then not
pub record Rising (g y : ℕ → ℕ) (h : ℕ) : Type 0 where
  pub none : g h ≡ 0
  pub some : y h ≡ 0 → ⊥
  pub others : (j : ℕ) → (j ≡ h → ⊥) → g j ≡ y j

-- channel 4 k + j goes from the host of byte j of one word to that of another
abbrev pub Move : Frame → Cic → ℕ → ℕ → ℕ → ℕ → List ℕ → List ℕ → Type 0
Move f c k j w w' room room' =
    (a u g : ℕ → ℕ) → Held f c room → Beside (permitted c) a u (more g (byte_of w j) (u (4 * k + j))) room → u (4 * k + j) < 2048 → g (byte_of w' j) < 2048
    → Held f c room' × Beside (permitted c) a u (more g (byte_of w' j) (u (4 * k + j))) room'
