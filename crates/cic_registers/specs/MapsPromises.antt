-- What is promised of map registers, byte by byte: byte j of register k is thing 4 * k + j.
use Rattle.std.specs.Prelude.{true, List, ◌↔◌, ◌≡◌, ℕ, ◌+◌, ◌*◌, ◌/◌, ◌^◌, ◌<◌, ◌≤◌, get_or, length}
use Rattle.words.specs.Array.{byte_of}
use Rattle.cic_registers.specs.Maps.{map_read, map_taken, map_put}

pub record Promises : Type 0 where
  -- a register reads the bytes of its things, the lowest number in the lowest byte (01, CIC, registers; 001, 2.2.15)
  pub reads : (n : ℕ) (m : List ℕ) (k j : ℕ) → ((i : ℕ) → get_or m i 0 < 256) → j < 4 → 4 * k + j < n → byte_of (map_read n m k) j ≡ get_or m (4 * k + j) 0
  -- spare bytes read 0 (01, CIC, registers)
  pub reads_spare : (n : ℕ) (m : List ℕ) (k j : ℕ) → ((i : ℕ) → get_or m i 0 < 256) → j < 4 → n ≤ 4 * k + j → byte_of (map_read n m k) j ≡ 0
  -- and what is read is a word of 32 bits
  pub reads_word : (n : ℕ) (m : List ℕ) (k : ℕ) → ((i : ℕ) → get_or m i 0 < 256) → map_read n m k < 2 ^ 32
  -- a value is taken exactly if each of its bytes that is not spare is below the limit (01, CIC, registers)
  pub taken : (n limit k v : ℕ) → (map_taken n limit k v ≡ true) ↔ ((j : ℕ) → j < 4 → 4 * k + j < n → byte_of v j < limit)
  -- a write puts byte j to thing 4 * k + j (01, CIC, registers)
  pub puts : (n k v : ℕ) (m : List ℕ) (j : ℕ) → j < 4 → 4 * k + j < n → 4 * k + j < length m → get_or (map_put n k v m) (4 * k + j) 0 ≡ byte_of v j
  -- and drops spare bytes (01, CIC, registers)
  pub puts_no_spare : (n k v : ℕ) (m : List ℕ) (i : ℕ) → n ≤ i → get_or (map_put n k v m) i 0 ≡ get_or m i 0
  -- and changes no other register, nor the number of bytes
  pub puts_no_other : (n k v : ℕ) (m : List ℕ) (i : ℕ) → (i / 4 ≡ k → ⊥) → get_or (map_put n k v m) i 0 ≡ get_or m i 0
  pub puts_length : (n k v : ℕ) (m : List ℕ) → length (map_put n k v m) ≡ length m
