-- An AINTC laid out in a room: the numbers of its record, and the words that are kept beside the routes, each of which the record determines.
use Rattle.std.specs.Prelude.{ℕ, ◌+◌, ◌*◌, ◌/◌, ◌%◌, ◌<◌, Bool, true, false, ◌≡◌, List, [], ◌∷◌, get_or, set, replicate}
use Rattle.words.specs.Counting.{one}
use Rattle.words.specs.Word.{bit, word_of, with_bit}
use Rattle.rooms.specs.Parts.{flat, made}
use Rattle.aintc_record.specs.declared.Aintc.{Aintc}
use Rattle.aintc_record.specs.declared.Chosen.{Chosen}
use Rattle.aintc_record.specs.Promises.{Shaped}
use Rattle.aintc_record.specs.Record.{with_sides}
use Rattle.aintc_record.specs.Route.{priority_of}
use Rattle.aintc_registers.specs.Search.{route_word}

-- word n of the inputs that ask for FIQ (000, table 4-23)
abbrev pub fiq_word : List ℕ → ℕ → ℕ
fiq_word routes n = route_word routes (32 * n) 1

-- bit b of the priority of each input of word n (000, 4.3.1.2.2)
unfoldable pub priority_word : List ℕ → ℕ → ℕ → ℕ
priority_word routes n b = word_of 32 (λ i. bit (priority_of (get_or routes (32 * n + i) 0)) b)

-- the 28 words of the priorities, in their order: word 4 b + n has bit b of the inputs of word n
abbrev pub bits_word : List ℕ → ℕ → ℕ
bits_word routes j = priority_word routes (j % 4) (j / 4)

-- the single words, from 0 on: the kind, the settings, and from 8 and from 12 on the one chosen for IRQ and for FIQ (000, 4.5; 01, House trace)
abbrev pub cells : Aintc → List ℕ
cells a =
    3 ∷ a.threshold ∷ a.revision ∷ one a.guarded ∷ one a.autoidle ∷ one a.turbo ∷ one a.funcidle ∷ 0
    ∷ one a.irq.active ∷ a.irq.number ∷ a.irq.priority ∷ 0 ∷ one a.fiq.active ∷ a.fiq.number ∷ a.fiq.priority ∷ 0 ∷ []

-- the parts of a room and their sizes: the single words; from 16 on the lines, from 20 the soft interrupts, from 24 the masks, from 28 the inputs that
-- ask for FIQ, from 32 the bits of the priorities, from 128 the routes; all else is 0
abbrev pub parts : Aintc → List (List ℕ)
parts a =
    cells a ∷ a.lines ∷ a.soft ∷ a.masks ∷ made 4 (fiq_word a.routes) ∷ made 28 (bits_word a.routes) ∷ replicate 68 0 ∷ a.routes ∷ replicate 1792 0 ∷ []

abbrev pub sizes : List ℕ
sizes = 16 ∷ 4 ∷ 4 ∷ 4 ∷ 4 ∷ 28 ∷ 68 ∷ 128 ∷ 1792 ∷ []

-- the room of a record
unfoldable pub laid : Aintc → List ℕ
laid a = flat (parts a)

-- what the record keeps in a byte is one
pub record Bytes (a : Aintc) : Type 0 where
  pub threshold : a.threshold < 256
  pub revision : a.revision < 256
  pub routes : (k : ℕ) → k < 128 → get_or a.routes k 0 < 256

-- the record stands in the room
pub record Laid (a : Aintc) (room : List ℕ) : Type 0 where
  pub shaped : Shaped a
  pub bytes : Bytes a
  pub words : room ≡ laid a

-- where the one that is chosen for FIQ stands, or for IRQ
abbrev pub chosen_from : Bool → ℕ
chosen_from true = 12
chosen_from false = 8

-- another one chosen for FIQ, or for IRQ
abbrev pub with_side : Aintc → Bool → Chosen → Aintc
with_side a true c = with_sides a a.irq c
with_side a false c = with_sides a c a.fiq

-- one that is chosen, stored from a place on
abbrev pub chosen_put : ℕ → Chosen → List ℕ → List ℕ
chosen_put at c l = set (set (set l at (one c.active)) (at + 1) c.number) (at + 2) c.priority

-- the tables of the record stand in the room, and all else is 0
pub record Tabled (a : Aintc) (room : List ℕ) : Type 0 where
  pub shaped : Shaped a
  pub bytes : (k : ℕ) → k < 128 → get_or a.routes k 0 < 256
  pub words : room ≡ flat (replicate 16 0 ∷ a.lines ∷ a.soft ∷ a.masks ∷ made 4 (fiq_word a.routes) ∷ made 28 (bits_word a.routes) ∷ replicate 68 0 ∷ a.routes ∷ replicate 1792 0 ∷ [])

-- bit i of the seven words of the priorities of word n, as p has its bits, stored one after another
abbrev pub bit_put : ℕ → ℕ → ℕ → List ℕ → ℕ → List ℕ
bit_put n i p l b = set l (32 + (4 * b + n)) (with_bit (get_or l (32 + (4 * b + n)) 0) i (bit p b))
