-- An AT91 controller laid out in a room: the numbers of its record, and the words that are kept beside them, each of which the record determines.
use Rattle.std.specs.Prelude.{ℕ, ◌≡◌, List, [], ◌∷◌, eqb, get_or, set, replicate}
use Rattle.words.specs.Word.{word_of, either, both, without}
use Rattle.rooms.specs.Parts.{flat, made}
use Rattle.aic_record.specs.declared.Aic.{Aic}
use Rattle.aic_record.specs.Mode.{priority_of}
use Rattle.aic_record.specs.Promises.{Shaped}
use Rattle.aic_record.specs.Sound.{level_below}
use Rattle.aic_sources.specs.Search.{mode_word}
use Rattle.aic_registers.specs.declared.Answer.{Answer}
use Rattle.aic_levels.specs.Levels.{level_word, any_of, highest_of}

-- the sources of priority p, pending or not (01, AIC, Mode; 003, 27.8.3)
unfoldable pub class_word : List ℕ → ℕ → ℕ
class_word mode p = word_of 32 (λ k. eqb (priority_of (get_or mode k 0)) p)

-- the highest level of each byte (02, 5/12)
unfoldable pub table : List ℕ
table = made 256 highest_of

-- the fast sources: source 0 and the forced ones (01, AIC, Fast side)
abbrev pub fast_word : Aic → ℕ
fast_word a = either 1 a.forced

-- the single words, from 0 on: the kind, the record's numbers, the byte of the levels; the edge-triggered sources, bit 5 of each mode, and bit 6; the
-- external sources and those of them that are active low; the enabled sources of the normal side and of the fast side; the level of the last entry
abbrev pub cells : Aic → ℕ → List ℕ
cells a any =
    0 ∷ a.lines ∷ a.enabled ∷ a.memory ∷ a.forced ∷ a.spurious ∷ a.debug ∷ a.depth
    ∷ a.seen.what ∷ a.seen.source ∷ a.seen.level ∷ a.seen.vector ∷ any ∷ mode_word a.mode 5 ∷ mode_word a.mode 6 ∷ a.external
    ∷ without a.external (mode_word a.mode 6) ∷ without a.enabled (fast_word a) ∷ both a.enabled (fast_word a) ∷ level_below a.level a.depth
    ∷ 0 ∷ 0 ∷ 0 ∷ 0 ∷ []

-- the parts of a room and their sizes: the single words; from 24 on the words of the levels, from 32 the sources of each priority, from 40 the entries'
-- sources, from 48 their levels, from 64 the modes, from 96 the vectors, from 256 the table; all else is 0
abbrev pub parts : Aic → (ℕ → ℕ) → ℕ → List (List ℕ)
parts a levels any =
    cells a any ∷ made 8 levels ∷ made 8 (class_word a.mode) ∷ a.source ∷ a.level ∷ replicate 8 0 ∷ a.mode ∷ a.vector ∷ replicate 128 0 ∷ table
    ∷ replicate 1536 0 ∷ []

abbrev pub sizes : List ℕ
sizes = 24 ∷ 8 ∷ 8 ∷ 8 ∷ 8 ∷ 8 ∷ 32 ∷ 32 ∷ 128 ∷ 256 ∷ 1536 ∷ []

-- the room of a record, with any words for its levels and any byte
unfoldable pub room_of : Aic → (ℕ → ℕ) → ℕ → List ℕ
room_of a levels any = flat (parts a levels any)

-- the room of a record (02, 5/12)
unfoldable pub laid : Aic → List ℕ
laid a = room_of a (level_word a) (any_of a)

-- the record stands in the room
pub record Laid (a : Aic) (room : List ℕ) : Type 0 where
  pub shaped : Shaped a
  pub words : room ≡ laid a

-- the record stands in the room, but the words of its levels and their byte are still to be renewed
pub record Stale (a : Aic) (room : List ℕ) : Type 0 where
  pub shaped : Shaped a
  pub levels : ℕ → ℕ
  pub any : ℕ
  pub words : room ≡ room_of a levels any

-- the record b stands in the room, but the word of level p and its bit of the byte may still be those of a
pub record StaleAt (a b : Aic) (p : ℕ) (room : List ℕ) : Type 0 where
  pub shaped : Shaped b
  pub others : (q : ℕ) → (q ≡ p → ⊥) → level_word b q ≡ level_word a q
  pub words : room ≡ room_of b (level_word a) (any_of a)

-- the tables of the record stand in the room, and all else is 0
pub record Tabled (a : Aic) (room : List ℕ) : Type 0 where
  pub shaped : Shaped a
  pub words : room ≡ flat (replicate 24 0 ∷ replicate 8 0 ∷ made 8 (class_word a.mode) ∷ a.source ∷ a.level ∷ replicate 8 0 ∷ a.mode ∷ a.vector ∷ replicate 128 0 ∷ table ∷ replicate 1536 0 ∷ [])

-- the single words that stand in the record, stored
abbrev pub worded : Aic → List ℕ → List ℕ
worded a l =
    set (set (set (set (set (set (set (set (set (set (set (set l 1 a.lines) 2 a.enabled) 3 a.memory) 4 a.forced) 5 a.spurious) 6 a.debug) 7 a.depth)
    8 a.seen.what) 9 a.seen.source) 10 a.seen.level) 11 a.seen.vector) 15 a.external

-- the single words that the record determines, stored
abbrev pub kept_beside : Aic → List ℕ → List ℕ
kept_beside a l =
    set (set (set (set (set (set l 13 (mode_word a.mode 5)) 14 (mode_word a.mode 6)) 16 (without a.external (mode_word a.mode 6)))
    17 (without a.enabled (fast_word a))) 18 (both a.enabled (fast_word a))) 19 (level_below a.level a.depth)

-- what a read answers stands in the room, and its value is the one given
abbrev pub Gives : Answer → List ℕ → ℕ → Type 0
Gives x room v = Laid x.aic room × (v ≡ x.value)
