-- The names that are answered of a typed table: one for each source, of 0 to 24 bytes (docs/STACK.md).
use Rattle.std.specs.Prelude.{ℕ, ◌+◌, ◌/◌, ◌%◌, ◌<◌, ◌≡◌, List, eqb, leb, length, get_or, take, drop, replicate}
use Rattle.words.specs.Choice.{pick}
use Rattle.steps.specs.Refusals.{carried_out}
use Rattle.tables.specs.declared.names.Place.{Place}
use Rattle.tables.specs.declared.names.Names.{Names}
use Rattle.tables.specs.Names.{place_in, unnamed_to}
use Rattle.tables.specs.Reading.{list_of, read_table}

-- where the name of source i stands
abbrev pub place_of : List ℕ → ℕ → Place
place_of s i = place_in (unnamed_to s i) i

abbrev pub no_place : Place
no_place = record { start = 0; count = 0 }

-- the places of all names
abbrev pub PlacesOf : List ℕ → List Place → Type 0
PlacesOf s ps = (i : ℕ) → i < 32 → get_or ps i no_place ≡ place_of s i

-- the name of source i: what stands in quotes behind its three numbers; of no byte where there is none
unfoldable pub name_of : List ℕ → ℕ → List ℕ
name_of s i = take (place_of s i).count (drop (place_of s i).start s)

-- the kth byte of a name that begins at an offset and has so many; 0 behind it
unfoldable pub byte_in : List ℕ → ℕ → ℕ → ℕ → ℕ
byte_in s start count k = pick (leb count k) 0 (get_or s (start + k) 0)

-- 24 bytes for each of the names that stand there
unfoldable pub names_at : List ℕ → List Place → Names
names_at s ps =
    record {
      bytes = list_of 768 (λ k. byte_in s (get_or ps (k / 24) no_place).start (get_or ps (k / 24) no_place).count (k % 24));
      lengths = list_of 32 (λ i. (get_or ps i no_place).count);
    }

-- the names of all sources, 24 bytes for each, zeros behind a shorter one
unfoldable pub names_in : List ℕ → Names
names_in s = record { bytes = list_of 768 (λ k. get_or (name_of s (k / 24)) (k % 24) 0); lengths = list_of 32 (λ i. length (name_of s i)) }

unfoldable pub no_names : Names
no_names = record { bytes = replicate 768 0; lengths = replicate 32 0 }

-- the names of a table that is read; none where it is refused
unfoldable pub names_of : List ℕ → Names
names_of s = pick (eqb (read_table s).refusal carried_out) (names_in s) no_names
