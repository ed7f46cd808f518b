-- Rows of the makers' register maps: where registers stand, what they are called, and where the maker describes them.
use Rattle.std.specs.Prelude.{ℕ, ◌+◌, ◌-◌, ◌*◌, ◌/◌, ◌%◌, Bool, ◌&&◌, List, [], ◌∷◌, ◌++◌, eqb, ltb, leb}
use Prim.Native.String.{String}
use Rattle.words.specs.Choice.{pick}
use Rattle.text.specs.Text.{space}
use Rattle.text.specs.Phrases.{bytes, counted}

-- ---- a row

-- a register that stands alone: offset, name, section; or some that repeat: first offset, how many, bytes from one to the next, name, section
pub data Row : Type 0 where
  alone : ℕ → List ℕ → List ℕ → Row
  group : ℕ → ℕ → ℕ → List ℕ → List ℕ → Row

-- the offset is that of one of the registers of a group
unfoldable pub in_group : ℕ → ℕ → ℕ → ℕ → Bool
in_group first count step o = leb first o && (eqb ((o - first) % step) 0 && ltb ((o - first) / step) count)

unfoldable pub in_row : Row → ℕ → Bool
in_row (alone first name section) o = eqb o first
in_row (group first count step name section) o = in_group first count step o

-- where a register is described: the document, then the section
unfoldable pub sectioned : List ℕ → List ℕ
sectioned section = bytes " (" ++ section ++ bytes ")"

unfoldable pub named : List ℕ → List ℕ → List ℕ
named name section = (space ∷ []) ++ name ++ sectioned section

-- the number of a register in its group stands right behind the name
unfoldable pub numbered : List ℕ → ℕ → List ℕ → List ℕ
numbered name n section = (space ∷ []) ++ counted name n ++ sectioned section

unfoldable pub row_words : Row → ℕ → List ℕ
row_words (alone first name section) o = named name section
row_words (group first count step name section) o = numbered name ((o - first) / step) section

-- ---- a map

-- name and section by the first row that has the offset; nothing where none has
unfoldable pub place_in : List Row → ℕ → List ℕ
place_in [] o = []
place_in (r ∷ rs) o = pick (in_row r o) (row_words r o) (place_in rs o)

abbrev pub single : ℕ → String → String → Row
single first name section = alone first (bytes name) (bytes section)

abbrev pub several : ℕ → ℕ → ℕ → String → String → Row
several first count step name section = group first count step (bytes name) (bytes section)

-- the section that has reads, and the one that has writes, where the register's own page says otherwise of one of them
abbrev pub by : Bool → String → String → List ℕ
by written reading writing = pick written (bytes writing) (bytes reading)

-- of `most` registers with `share` things each, those that have one of n
unfoldable pub there_of : ℕ → ℕ → ℕ → ℕ
there_of share most n = pick (leb (share * most) n) most ((n + (share - 1)) / share)

-- of `most` registers, one for each of n things
unfoldable pub at_most : ℕ → ℕ → ℕ
at_most most n = pick (leb most n) most n
