-- What is promised of registers of bits, and of the registers of any record, sound or not: the reads of words, and what no write touches. The rest is told by
-- offsets, in crate cic.
use Rattle.std.specs.Prelude.{not, ◌&&◌, ◌||◌, List, ◌≢◌, ◌≡◌, ℕ, ◌+◌, ◌*◌, ◌^◌, ◌<◌, ltb, get_or, length}
use Rattle.words.specs.Array.{bit_at}
use Rattle.words.specs.Word.{bit}
use Rattle.cic_record.specs.declared.Cic.{Cic}
use Rattle.cic_registers.specs.declared.layout.Register.{Register}
use Rattle.cic_registers.specs.declared.layout.Register.TheVariants.{RawSet, EnabledClear, EnableSet, EnableClear, HostEnable}
use Rattle.cic_registers.specs.Bits.{word_read, bits_set, bits_cleared, word_replaced}
use Rattle.cic_registers.specs.Registers.{value_of, written_to}

-- no write has touched what is configured, or a line
pub record SameOutside (c d : Cic) : Type 0 where
  pub systems : d.systems ≡ c.systems
  pub channels : d.channels ≡ c.channels
  pub hosts : d.hosts ≡ c.hosts
  pub revision : d.revision ≡ c.revision
  pub lines : d.lines ≡ c.lines

pub record Promises : Type 0 where
  -- ---- registers of bits, bit by bit: bit j of register k is thing 32 * k + j
  -- a register reads the bits of its things; spare bits read 0 (01, CIC, registers)
  pub reads : (n : ℕ) (ws : List ℕ) (k j : ℕ) → j < 32 → bit (word_read n ws k) j ≡ (bit_at ws (32 * k + j) && ltb (32 * k + j) n)
  -- each bit written as 1 sets its own bit; spare bits are dropped (01, CIC, registers)
  pub sets : (n : ℕ) (ws : List ℕ) (k v j : ℕ) → k < length ws → j < 32
      → bit_at (bits_set n ws k v) (32 * k + j) ≡ (bit_at ws (32 * k + j) || (bit v j && ltb (32 * k + j) n))
  -- each bit written as 1 clears its own bit (01, CIC, registers)
  pub clears : (ws : List ℕ) (k v j : ℕ) → k < length ws → j < 32 → bit_at (bits_cleared ws k v) (32 * k + j) ≡ (bit_at ws (32 * k + j) && not (bit v j))
  -- host enables are replaced by what is written; spare bits are dropped (01, CIC, registers)
  pub replaces : (n : ℕ) (ws : List ℕ) (k v j : ℕ) → k < length ws → j < 32 → bit_at (word_replaced n ws k v) (32 * k + j) ≡ (bit v j && ltb (32 * k + j) n)
  -- no other register of the group changes
  pub sets_no_other : (n : ℕ) (ws : List ℕ) (k v i : ℕ) → i ≢ k → get_or (bits_set n ws k v) i 0 ≡ get_or ws i 0
  pub clears_no_other : (ws : List ℕ) (k v i : ℕ) → i ≢ k → get_or (bits_cleared ws k v) i 0 ≡ get_or ws i 0
  pub replaces_no_other : (n : ℕ) (ws : List ℕ) (k v i : ℕ) → i ≢ k → get_or (word_replaced n ws k v) i 0 ≡ get_or ws i 0
  -- nor does the number of words
  pub lengths : (n : ℕ) (ws : List ℕ) (k v : ℕ) → (length (bits_set n ws k v) ≡ length ws) × (length (bits_cleared ws k v) ≡ length ws) × (length (word_replaced n ws k v) ≡ length ws)
  -- what is read and what is put is a word of 32 bits
  pub reads_word : (n : ℕ) (ws : List ℕ) (k : ℕ) → get_or ws k 0 < 2 ^ 32 → word_read n ws k < 2 ^ 32
  pub puts_word : (n : ℕ) (ws : List ℕ) (k v : ℕ) → k < length ws → v < 2 ^ 32
      → (get_or (bits_set n ws k v) k 0 < 2 ^ 32) × (get_or (bits_cleared ws k v) k 0 < 2 ^ 32) × (get_or (word_replaced n ws k v) k 0 < 2 ^ 32)
  -- ---- the registers of a record
  -- raw/set reads the status, enabled/clear the status of those that are enabled, both enable groups the enables; spare bits read 0, also where they are set (01, CIC, registers)
  pub raw_reads : (c : Cic) (k j : ℕ) → j < 32 → bit (value_of c (RawSet k)) j ≡ (bit_at c.status (32 * k + j) && ltb (32 * k + j) c.systems)
  pub enabled_reads : (c : Cic) (k j : ℕ) → j < 32
      → bit (value_of c (EnabledClear k)) j ≡ ((bit_at c.status (32 * k + j) && ltb (32 * k + j) c.systems) && (bit_at c.enable (32 * k + j) && ltb (32 * k + j) c.systems))
  pub enables_read : (c : Cic) (k j : ℕ) → j < 32 → bit (value_of c (EnableSet k)) j ≡ (bit_at c.enable (32 * k + j) && ltb (32 * k + j) c.systems)
  pub enables_alike : (c : Cic) (k : ℕ) → value_of c (EnableClear k) ≡ value_of c (EnableSet k)
  pub hosts_read : (c : Cic) (k j : ℕ) → j < 32 → bit (value_of c (HostEnable k)) j ≡ (bit_at c.allow (32 * k + j) && ltb (32 * k + j) c.hosts)
  -- no write changes what is configured, the revision among it, or the level of a line (01, CIC, configuration; registers)
  pub writes_keep : (c : Cic) (r : Register) (v : ℕ) → SameOutside c (written_to c r v)
