-- The map, the limits, the reads and the writes as sentences, register by register: the promises are made of these.
use Rattle.std.specs.Prelude.{Bool, not, ◌&&◌, ◌||◌, List, ◌↔◌, ◌≢◌, ◌⊎◌, ◌≡◌, ℕ, ◌+◌, ◌*◌, ◌/◌, ◌%◌, ◌^◌, ◌<◌, ◌≤◌, eqb, ltb, get_or, set, length}
use Rattle.words.specs.Array.{bit_at, byte_of}
use Rattle.words.specs.Choice.{pick}
use Rattle.words.specs.Word.{bit}
use Rattle.steps.specs.declared.Access.TheVariants.{NoRegister, ReadOnly, WriteOnly, ReadWrite}
use Rattle.cic_record.specs.declared.Answer.{Answer}
use Rattle.cic_record.specs.declared.Cic.{Cic}
use Rattle.cic_record.specs.Record.{with_global, with_status, with_enable, with_channel, with_host, with_allow, answered}
use Rattle.cic_registers.specs.Map.{access}
use Rattle.cic_registers.specs.Model.{refusal_at, read, write}

-- the register at the offset o can be read and written exactly if thing `first` is one of n things, and is not there exactly if it is none
abbrev pub ThereIf : Cic → ℕ → ℕ → ℕ → Type 0
ThereIf c o first n = ((access c o ≡ ReadWrite) ↔ (first < n)) × ((access c o ≡ NoRegister) ↔ (n ≤ first))

-- what each register allows, and which offsets have none (01, CIC, registers; 001, table 2-1)
pub record MapTable (c : Cic) : Type 0 where
  pub revision : access c 0x000 ≡ ReadOnly
  pub global_enable : access c 0x010 ≡ ReadWrite
  -- by an index: status set and clear, enable set and clear, host enable set and clear
  pub status_index : (access c 0x020 ≡ WriteOnly) × (access c 0x024 ≡ WriteOnly)
  pub enable_index : (access c 0x028 ≡ WriteOnly) × (access c 0x02C ≡ WriteOnly)
  pub host_index : (access c 0x034 ≡ WriteOnly) × (access c 0x038 ≡ WriteOnly)
  -- a bit for each system interrupt: raw/set, enabled/clear, enable set, enable clear
  pub raw_set : (k : ℕ) → k < 32 → ThereIf c (0x200 + 4 * k) (32 * k) c.systems
  pub enabled_clear : (k : ℕ) → k < 32 → ThereIf c (0x280 + 4 * k) (32 * k) c.systems
  pub enable_set : (k : ℕ) → k < 32 → ThereIf c (0x300 + 4 * k) (32 * k) c.systems
  pub enable_clear : (k : ℕ) → k < 32 → ThereIf c (0x380 + 4 * k) (32 * k) c.systems
  -- a byte for each system interrupt, a byte for each channel
  pub channel_map : (k : ℕ) → k < 256 → ThereIf c (0x400 + 4 * k) (4 * k) c.systems
  pub host_map : (k : ℕ) → k < 64 → ThereIf c (0x800 + 4 * k) (4 * k) c.channels
  -- a bit for each host interrupt
  pub host_enable : (k : ℕ) → k < 8 → ThereIf c (0x1500 + 4 * k) (32 * k) c.hosts
  -- no control register, no prioritised indices, nothing else
  pub no_control : access c 0x004 ≡ NoRegister
  pub no_global_index : access c 0x080 ≡ NoRegister
  pub no_other : (o : ℕ) → o < 0x200 → o ≢ 0x000 → o ≢ 0x010 → o ≢ 0x020 → o ≢ 0x024 → o ≢ 0x028 → o ≢ 0x02C → o ≢ 0x034 → o ≢ 0x038 → access c o ≡ NoRegister
  pub no_host_indices : (o : ℕ) → 0x900 ≤ o → o < 0x1500 → access c o ≡ NoRegister
  pub nothing_after : (o : ℕ) → 0x1520 ≤ o → access c o ≡ NoRegister

-- the whole word v is refused at the offset o, by 6, exactly if it is not below n
abbrev pub LimitAt : Cic → ℕ → ℕ → ℕ → Type 0
LimitAt c v o n = (refusal_at c o v ≡ 6) ↔ (n ≤ v)

-- it is not refused exactly if each of its four bytes is below the limit, save those of none of n things: byte j is for thing 4 * k + j
abbrev pub BytesAt : Cic → ℕ → ℕ → ℕ → ℕ → ℕ → Type 0
BytesAt c v o k n limit = (refusal_at c o v ≡ 0) ↔ ((j : ℕ) → j < 4 → 4 * k + j < n → byte_of v j < limit)

-- by which number the value v is refused at the offset of a register that takes writes, 0 for none (01, CIC, registers)
pub record Limits (c : Cic) (v : ℕ) : Type 0 where
  -- indices: the limit is the number of systems, for the host ones that of hosts (001, 2.2.4 to 2.2.9)
  pub status_index : LimitAt c v 0x020 c.systems × LimitAt c v 0x024 c.systems
  pub enable_index : LimitAt c v 0x028 c.systems × LimitAt c v 0x02C c.systems
  pub host_index : LimitAt c v 0x034 c.hosts × LimitAt c v 0x038 c.hosts
  -- maps: the limit is the number of channels, for the host map that of hosts (01, CIC, registers; 001, 2.2.15; that the host map is written: D1)
  pub channel_map : (k : ℕ) → k < 256 → BytesAt c v (0x400 + 4 * k) k c.systems c.channels
  pub host_map : (k : ℕ) → k < 64 → BytesAt c v (0x800 + 4 * k) k c.channels c.hosts
  -- the others take every value
  pub global_enable : refusal_at c 0x010 v ≡ 0
  pub system_words : (k : ℕ) → k < 32
      → ((refusal_at c (0x200 + 4 * k) v ≡ 0) × (refusal_at c (0x280 + 4 * k) v ≡ 0)) × ((refusal_at c (0x300 + 4 * k) v ≡ 0) × (refusal_at c (0x380 + 4 * k) v ≡ 0))
  pub host_enable : (k : ℕ) → k < 8 → refusal_at c (0x1500 + 4 * k) v ≡ 0
  -- no value is refused by a number other than 6
  pub six_only : (o : ℕ) → (refusal_at c o v ≡ 0) ⊎ (refusal_at c o v ≡ 6)

-- the read is carried out and changes nothing, and its value has the property
abbrev pub Shows : Cic → Answer → (ℕ → Type 0) → Type 0
Shows c a p = (a ≡ answered c a.value) × p a.value

-- bit j of the word w is f of thing 32 * k + j; a spare bit, of none of n things, is 0
abbrev pub BitsOf : ℕ → (ℕ → Bool) → ℕ → ℕ → Type 0
BitsOf n f k w = (j : ℕ) → j < 32 → bit w j ≡ (f (32 * k + j) && ltb (32 * k + j) n)

-- byte j of the word w is f of thing 4 * k + j; a spare byte, of none of n things, is 0
abbrev pub BytesOf : ℕ → (ℕ → ℕ) → ℕ → ℕ → Type 0
BytesOf n f k w = (j : ℕ) → j < 4 → byte_of w j ≡ pick (ltb (4 * k + j) n) (f (4 * k + j)) 0

-- what a read of each register answers of a sound record; none changes it (01, CIC, registers)
pub record Reads (c : Cic) : Type 0 where
  pub revision : read c 0x000 ≡ answered c c.revision
  pub global_enable : read c 0x010 ≡ answered c c.global
  -- raw/set: the status, as it is stored (001, 2.2.11)
  pub raw_set : (k : ℕ) → 32 * k < c.systems
      → Shows c (read c (0x200 + 4 * k)) (λ w. (w ≡ get_or c.status k 0) × BitsOf c.systems (bit_at c.status) k w)
  -- enabled/clear: the status of those that are enabled (001, 2.2.12)
  pub enabled_clear : (k : ℕ) → 32 * k < c.systems
      → Shows c (read c (0x280 + 4 * k)) (λ w. (w < 2 ^ 32) × BitsOf c.systems (λ s. bit_at c.status s && bit_at c.enable s) k w)
  -- both enable groups: the enables, as they are stored (001, 2.2.13 and 2.2.14)
  pub enable_set : (k : ℕ) → 32 * k < c.systems
      → Shows c (read c (0x300 + 4 * k)) (λ w. (w ≡ get_or c.enable k 0) × BitsOf c.systems (bit_at c.enable) k w)
  pub enable_clear : (k : ℕ) → 32 * k < c.systems → read c (0x380 + 4 * k) ≡ read c (0x300 + 4 * k)
  -- the channels of four system interrupts, the hosts of four channels (001, 2.2.15 and 2.2.16)
  pub channel_map : (k : ℕ) → 4 * k < c.systems
      → Shows c (read c (0x400 + 4 * k)) (λ w. (w < 2 ^ 32) × BytesOf c.systems (λ s. get_or c.channel s 0) k w)
  pub host_map : (k : ℕ) → 4 * k < c.channels
      → Shows c (read c (0x800 + 4 * k)) (λ w. (w < 2 ^ 32) × BytesOf c.channels (λ n. get_or c.host n 0) k w)
  -- the host enables, as they are stored (001, 2.2.18)
  pub host_enable : (k : ℕ) → 32 * k < c.hosts
      → Shows c (read c (0x1500 + 4 * k)) (λ w. (w ≡ get_or c.allow k 0) × BitsOf c.hosts (bit_at c.allow) k w)

-- the write is carried out and answers 0; its record is what `put` makes of the array ws with word k put anew, a word of 32 bits
-- whose bit j is f of thing 32 * k + j
pub record Sets (a : Answer) (put : List ℕ → Cic) (ws : List ℕ) (k : ℕ) (f : ℕ → Bool) : Type 0 where
  pub word : ℕ
  pub done : a ≡ answered (put (set ws k word)) 0
  pub fits : word < 2 ^ 32
  pub bits : (j : ℕ) → j < 32 → bit word j ≡ f (32 * k + j)

-- the same of a map m: its record is what `put` makes of a map of as many bytes, whose byte i is f i
pub record Maps (a : Answer) (put : List ℕ → Cic) (m : List ℕ) (f : ℕ → ℕ) : Type 0 where
  pub map : List ℕ
  pub done : a ≡ answered (put map) 0
  pub size : length map ≡ length m
  pub bytes : (i : ℕ) → get_or map i 0 ≡ f i

-- what a write of the value v does to a sound record: to one word bit by bit, to one map byte by byte, and to nothing else (01, CIC, registers)
pub record Writes (c : Cic) (v : ℕ) : Type 0 where
  -- global enable keeps bit 0 (001, 2.2.3)
  pub global_enable : write c 0x010 v ≡ answered (with_global c (v % 2)) 0
  -- an index sets, or clears, the one bit that it names (001, 2.2.4 to 2.2.9)
  pub status_index_set : v < c.systems → Sets (write c 0x020 v) (with_status c) c.status (v / 32) (λ s. bit_at c.status s || eqb s v)
  pub status_index_clear : v < c.systems → Sets (write c 0x024 v) (with_status c) c.status (v / 32) (λ s. bit_at c.status s && not (eqb s v))
  pub enable_index_set : v < c.systems → Sets (write c 0x028 v) (with_enable c) c.enable (v / 32) (λ s. bit_at c.enable s || eqb s v)
  pub enable_index_clear : v < c.systems → Sets (write c 0x02C v) (with_enable c) c.enable (v / 32) (λ s. bit_at c.enable s && not (eqb s v))
  pub host_index_set : v < c.hosts → Sets (write c 0x034 v) (with_allow c) c.allow (v / 32) (λ h. bit_at c.allow h || eqb h v)
  pub host_index_clear : v < c.hosts → Sets (write c 0x038 v) (with_allow c) c.allow (v / 32) (λ h. bit_at c.allow h && not (eqb h v))
  -- each bit written as 1 sets, or clears, its own bit; spare bits are dropped (001, 2.2.11 to 2.2.14)
  pub raw_set : (k : ℕ) → 32 * k < c.systems
      → Sets (write c (0x200 + 4 * k) v) (with_status c) c.status k (λ s. bit_at c.status s || (bit v (s % 32) && ltb s c.systems))
  pub enabled_clear : (k : ℕ) → 32 * k < c.systems
      → Sets (write c (0x280 + 4 * k) v) (with_status c) c.status k (λ s. bit_at c.status s && not (bit v (s % 32)))
  pub enable_set : (k : ℕ) → 32 * k < c.systems
      → Sets (write c (0x300 + 4 * k) v) (with_enable c) c.enable k (λ s. bit_at c.enable s || (bit v (s % 32) && ltb s c.systems))
  pub enable_clear : (k : ℕ) → 32 * k < c.systems
      → Sets (write c (0x380 + 4 * k) v) (with_enable c) c.enable k (λ s. bit_at c.enable s && not (bit v (s % 32)))
  -- byte j goes to thing 4 * k + j; spare bytes are dropped (01, CIC, registers; 001, 2.2.15; that the host map is written: D1)
  pub channel_map : (k : ℕ) → 4 * k < c.systems → ((j : ℕ) → j < 4 → 4 * k + j < c.systems → byte_of v j < c.channels)
      → Maps (write c (0x400 + 4 * k) v) (with_channel c) c.channel (λ s. pick (eqb (s / 4) k && ltb s c.systems) (byte_of v (s % 4)) (get_or c.channel s 0))
  pub host_map : (k : ℕ) → 4 * k < c.channels → ((j : ℕ) → j < 4 → 4 * k + j < c.channels → byte_of v j < c.hosts)
      → Maps (write c (0x800 + 4 * k) v) (with_host c) c.host (λ n. pick (eqb (n / 4) k && ltb n c.channels) (byte_of v (n % 4)) (get_or c.host n 0))
  -- the host enables are replaced by the word written; spare bits are dropped (001, 2.2.18)
  pub host_enable : (k : ℕ) → 32 * k < c.hosts → v < 2 ^ 32
      → Sets (write c (0x1500 + 4 * k) v) (with_allow c) c.allow k (λ h. bit v (h % 32) && ltb h c.hosts)
