-- Map registers: four bytes each, lowest number in the lowest byte, one byte for each of n things (01, CIC, registers; 001, 2.2.15 and 2.2.16).
use Rattle.std.specs.Prelude.{Bool, ◌||◌, List, ℕ, ◌+◌, ◌*◌, ◌^◌, ltb, leb, get_or, set}
use Rattle.words.specs.Array.{byte_of}
use Rattle.words.specs.Choice.{pick}
use Rattle.words.specs.Counting.{all_below, sum_below, upto}

-- byte j of register k as it is read; a spare one reads 0
unfoldable pub byte_read : ℕ → List ℕ → ℕ → ℕ → ℕ
byte_read n m k j = pick (ltb (4 * k + j) n) (get_or m (4 * k + j) 0) 0

-- register k as it is read
unfoldable pub map_read : ℕ → List ℕ → ℕ → ℕ
map_read n m k = sum_below 4 (λ j. byte_read n m k j * 2 ^ (8 * j))

-- byte j of v may stand in register k: it is spare and not checked, or below the limit
unfoldable pub byte_taken : ℕ → ℕ → ℕ → ℕ → ℕ → Bool
byte_taken n limit k v j = leb n (4 * k + j) || ltb (byte_of v j) limit

-- one byte at or beyond the limit refuses the whole write
unfoldable pub map_taken : ℕ → ℕ → ℕ → ℕ → Bool
map_taken n limit k v = all_below 4 (byte_taken n limit k v)

-- the map with byte j of v in its place; a spare one is dropped
unfoldable pub byte_put : ℕ → ℕ → ℕ → List ℕ → ℕ → List ℕ
byte_put n k v m j = pick (ltb (4 * k + j) n) (set m (4 * k + j) (byte_of v j)) m

-- the map with register k written
unfoldable pub map_put : ℕ → ℕ → ℕ → List ℕ → List ℕ
map_put n k v m = upto (byte_put n k v) m 4
