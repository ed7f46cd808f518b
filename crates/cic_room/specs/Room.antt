-- A CIC laid out in a room: the numbers of its record, what is kept beside them, each word of which the record determines, and the words of a frame.
use Rattle.std.specs.Prelude.{ℕ, ◌+◌, ◌*◌, ◌<◌, Bool, ◌&&◌, not, List, [], ◌∷◌, ◌≡◌, eqb, get_or, length, replicate}
use Rattle.words.specs.Array.{bit_at}
use Rattle.words.specs.Choice.{pick}
use Rattle.words.specs.Counting.{one, count_below, lowest_below}
use Rattle.words.specs.Word.{word_of, both}
use Rattle.rooms.specs.Parts.{flat, made}
use Rattle.cic_record.specs.declared.Cic.{Cic}
use Rattle.cic_record.specs.Kinds.{system, channel_of, host_of}
use Rattle.cic_record.specs.Promises.{Shaped}
use Rattle.cic_registers.specs.Maps.{map_read}

-- what a room has beside a CIC, and no step of the CIC changes: the kind, whether anything is kept, and what prioritised indices need
pub record Frame : Type 0 where
  pub kind : ℕ
  pub kept : Bool
  pub index : List ℕ
  pub held : List ℕ
  pub words : List ℕ

pub record Framed (f : Frame) : Type 0 where
  pub index : length f.index ≡ 3
  pub held : length f.held ≡ 256
  pub words : length f.words ≡ 256

-- the frame of a CIC without indices
abbrev pub plain : Bool → Frame
plain kept = record { kind = 2; kept = kept; index = replicate 3 0; held = replicate 256 0; words = replicate 256 0 }

-- system interrupt s is active: set and enabled (01, CIC, outputs)
abbrev pub active : Cic → ℕ → Bool
active c s = bit_at c.status s && bit_at c.enable s

-- 32 of them
abbrev pub active_word : Cic → ℕ → ℕ
active_word c k = both (get_or c.status k 0) (get_or c.enable k 0)

-- how many active system interrupts channel k has (001, 1.3.3)
unfoldable pub of_channel : Cic → ℕ → ℕ
of_channel c k = count_below 1024 (λ s. active c s && eqb (channel_of c (system s)).0 k)

-- how many host h has (001, 1.3.4)
unfoldable pub of_host : Cic → ℕ → ℕ
of_host c h = count_below 1024 (λ s. active c s && eqb (host_of c (channel_of c (system s))).0 h)

-- which of the 32 channels or hosts of word w have any
unfoldable pub some_word : (ℕ → ℕ) → ℕ → ℕ
some_word load w = word_of 32 (λ j. not (eqb (load (32 * w + j)) 0))

-- host h is enabled, and global enable is set (01, CIC, outputs)
abbrev pub permitted : Cic → ℕ → Bool
permitted c h = eqb c.global 1 && bit_at c.allow h

-- a permitted host is asserted if it has any
abbrev pub reached : (ℕ → Bool) → (ℕ → ℕ) → ℕ → Bool
reached permit load h = permit h && not (eqb (load h) 0)

-- how many hosts are asserted, and the lowest of them (01, House trace)
unfoldable pub shown_word : (ℕ → Bool) → (ℕ → ℕ) → ℕ → ℕ
shown_word permit load k = get_or (count_below 256 (reached permit load) ∷ lowest_below 256 (reached permit load) ∷ []) k 0

-- a table that is kept, or nothing of it
abbrev pub if_kept : Frame → (ℕ → ℕ) → ℕ → ℕ
if_kept f table k = pick f.kept (table k) 0

-- the first words: the kind, what is configured, global enable, and whether anything is kept
abbrev pub cells : Frame → Cic → List ℕ
cells f c = f.kind ∷ c.systems ∷ c.channels ∷ c.hosts ∷ c.revision ∷ c.global ∷ one f.kept ∷ []

-- the parts of a room: the first words; from 7 on how many hosts are asserted and the lowest; from 9 what indices need; from 16 the host enables; from 24 the
-- hosts that have any active system interrupt, from 32 the channels; from 64 lines, status, enables and the active ones; from 192 the host map and from 256
-- the channel map, as their registers are read; from 512 and 768 how many each channel and each host has; from 1024 what indices need; all else is 0
abbrev pub parts : Frame → Cic → List (List ℕ)
parts f c =
    cells f c ∷ made 2 (if_kept f (shown_word (permitted c) (of_host c))) ∷ f.index ∷ replicate 4 0 ∷ c.allow
    ∷ made 8 (if_kept f (some_word (of_host c))) ∷ made 8 (if_kept f (some_word (of_channel c))) ∷ replicate 24 0
    ∷ c.lines ∷ c.status ∷ c.enable ∷ made 32 (if_kept f (active_word c))
    ∷ made 64 (map_read 256 c.host) ∷ made 256 (map_read 1024 c.channel) ∷ made 256 (if_kept f (of_channel c)) ∷ made 256 (if_kept f (of_host c))
    ∷ f.held ∷ f.words ∷ replicate 512 0 ∷ []

abbrev pub sizes : List ℕ
sizes = 7 ∷ 2 ∷ 3 ∷ 4 ∷ 8 ∷ 8 ∷ 8 ∷ 24 ∷ 32 ∷ 32 ∷ 32 ∷ 32 ∷ 64 ∷ 256 ∷ 256 ∷ 256 ∷ 256 ∷ 256 ∷ 512 ∷ []

-- the room of a record in a frame
unfoldable pub laid : Frame → Cic → List ℕ
laid f c = flat (parts f c)

-- the maps hold bytes
abbrev pub Bytes : Cic → Type 0
Bytes c = ((i : ℕ) → get_or c.channel i 0 < 256) × ((i : ℕ) → get_or c.host i 0 < 256)

-- the record stands in the room, in that frame
pub record Laid (f : Frame) (c : Cic) (room : List ℕ) : Type 0 where
  pub framed : Framed f
  pub shaped : Shaped c
  pub bytes : Bytes c
  pub words : room ≡ laid f c
