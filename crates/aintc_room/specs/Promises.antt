-- What is promised of the layout: a record determines every word of its room, and a room has one record.
use Rattle.std.specs.Prelude.{ℕ, ◌+◌, ◌*◌, ◌<◌, ◌≡◌, List, eqb, length, get_or}
use Rattle.words.specs.Word.{bit}
use Rattle.aintc_record.specs.declared.Aintc.{Aintc}
use Rattle.aintc_record.specs.Promises.{Shaped}
use Rattle.aintc_record.specs.Route.{route_at, route_of, priority}
use Rattle.aintc_room.specs.Room.{Bytes, Laid}

pub record Promises : Type 0 where
  -- two rooms in which one record stands are equal: no word is free
  pub determined : (a : Aintc) (r s : List ℕ) → Laid a r → Laid a s → r ≡ s
  -- two records that stand in one room are equal: no number of a record is left out
  pub whole : (a b : Aintc) (r : List ℕ) → Laid a r → Laid b r → a ≡ b
  -- each record of the shape, what it keeps in a byte being one, has a room, of 2,048 words, whose word 0 is the kind of an AINTC (02, 2/12)
  pub stands : (a : Aintc) → Shaped a → Bytes a → (r : List ℕ) × Laid a r
  pub size : (a : Aintc) (r : List ℕ) → Laid a r → (length r ≡ 2048) × (get_or r 0 0 ≡ 3)
  -- bit i of word 28 + n tells whether input 32 n + i asks for FIQ (000, table 4-23)
  pub fiqs : (a : Aintc) (r : List ℕ) (n i : ℕ) → Laid a r → n < 4 → i < 32 → bit (get_or r (28 + n) 0) i ≡ eqb (route_of (route_at a (32 * n + i))) 1
  -- bit i of word 32 + 4 b + n is bit b of the priority of input 32 n + i (000, 4.3.1.2.2)
  pub bits : (a : Aintc) (r : List ℕ) (b n i : ℕ) → Laid a r → b < 7 → n < 4 → i < 32 → bit (get_or r (32 + (4 * b + n)) 0) i ≡ bit (priority a (32 * n + i)) b
  -- words 7, 11 and 15, which no number needs, are 0, and so are the 68 before the routes
  pub spare : (a : Aintc) (r : List ℕ) → Laid a r → (get_or r 7 0 ≡ 0) × (get_or r 11 0 ≡ 0) × (get_or r 15 0 ≡ 0)
  pub before : (a : Aintc) (r : List ℕ) (i : ℕ) → Laid a r → i < 68 → get_or r (60 + i) 0 ≡ 0
  -- what no number needs is 0
  pub rest : (a : Aintc) (r : List ℕ) (i : ℕ) → Laid a r → i < 1792 → get_or r (256 + i) 0 ≡ 0
