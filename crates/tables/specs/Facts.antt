-- What the promises of a typed table speak of: where numbers begin and end, slips, and what a table and its names hold (docs/STACK.md; 02, 4/12).
use Rattle.std.specs.Prelude.{ℕ, ◌+◌, ◌*◌, ◌^◌, ◌≤◌, ◌<◌, ◌≡◌, true, false, List, ◌⊎◌, length, get_or}
use Rattle.stack.specs.declared.Table.{Table}
use Rattle.tables.specs.Typed.{nth_start, nth_typed}
use Rattle.tables.specs.declared.names.Names.{Names}
use Rattle.tables.specs.Names.{named, behind, cleared}
use Rattle.tables.specs.Number.{digit, is_number, worth}
use Rattle.tables.specs.Layout.{White}

-- from an offset on, i is the first byte that is not white, or the end of the text
pub record Starts (s : List ℕ) (at i : ℕ) : Type 0 where
  pub from : at ≤ i
  pub within : i ≤ length s
  pub before : (j : ℕ) → at ≤ j → j < i → White (get_or s j 0)
  pub found : i < length s → White (get_or s i 0) → ⊥

-- i is the first byte that is white, or the end of the text
pub record Ends (s : List ℕ) (at i : ℕ) : Type 0 where
  pub from : at ≤ i
  pub within : i ≤ length s
  pub before : (j : ℕ) → at ≤ j → j < i → White (get_or s j 0) → ⊥
  pub found : i < length s → White (get_or s i 0)

-- one digit at least, and each less than the base
pub record Digits (base : ℕ) (ds : List ℕ) : Type 0 where
  pub some : 0 < length ds
  pub each : (k : ℕ) → k < length ds → digit (get_or ds k 0) < base

-- the first n numbers of a text without comments are numbers, and the word of forced sources, where it is among them, has 32 bits
abbrev pub Numbers : List ℕ → ℕ → Type 0
Numbers s n = (k : ℕ) → k < n → (is_number (nth_typed s k) ≡ true) × (k ≡ 96 → worth (nth_typed s k) < 2 ^ 32)

-- the nth is no number, or it is the word of forced sources and has more than 32 bits
abbrev pub Slip : List ℕ → ℕ → Type 0
Slip s n = (is_number (nth_typed s n) ≡ false) ⊎ ((n ≡ 96) × (2 ^ 32 ≤ worth (nth_typed s n)))

-- the first slip of such a text begins at p: it is the nth of the 98, or there is none and something follows them
abbrev pub SlipAt : List ℕ → ℕ → Type 0
SlipAt s p =
    ((n : ℕ) × (n < 98) × Numbers s n × Slip s n × (p ≡ nth_start s n)) ⊎ (Numbers s 98 × (p ≡ nth_start s 98) × (p < length s))

-- a text of at most 65,536 bytes with the 98 numbers and nothing behind them
abbrev pub Whole : List ℕ → Type 0
Whole s = (length s ≤ 65536) × Numbers (cleared s) 98 × (nth_start (cleared s) 98 ≡ length s)

-- among the numbers is a priority over 7, a type over 3 or a frame over 65,535, however many digits it has (02, 4/12, Refusals)
abbrev pub TooLarge : List ℕ → Type 0
TooLarge s =
    (65535 < worth (nth_typed s 97))
    ⊎ ((i : ℕ) × (i < 32) × ((7 < worth (nth_typed s (3 * i)))
    ⊎ ((3 < worth (nth_typed s (3 * i + 1))) ⊎ (65535 < worth (nth_typed s (3 * i + 2))))))

-- the arrays of a table have a number for each source, and every number is a word
pub record Words (t : Table) : Type 0 where
  pub lengths : (length t.priority ≡ 32) × (length t.kind ≡ 32) × (length t.frame ≡ 32)
  pub priority : (i : ℕ) → i < 32 → get_or t.priority i 0 < 2 ^ 32
  pub kind : (i : ℕ) → i < 32 → get_or t.kind i 0 < 2 ^ 32
  pub frame : (i : ℕ) → i < 32 → get_or t.frame i 0 < 2 ^ 32
  pub forced : t.forced < 2 ^ 32
  pub mark : t.mark < 2 ^ 32

-- the numbers vs as a table: for each source three, then two
pub record Rows (vs : List ℕ) (t : Table) : Type 0 where
  pub lengths : (length t.priority ≡ 32) × (length t.kind ≡ 32) × (length t.frame ≡ 32)
  pub priority : (i : ℕ) → i < 32 → get_or t.priority i 0 ≡ get_or vs (3 * i) 0
  pub kind : (i : ℕ) → i < 32 → get_or t.kind i 0 ≡ get_or vs (3 * i + 1) 0
  pub frame : (i : ℕ) → i < 32 → get_or t.frame i 0 ≡ get_or vs (3 * i + 2) 0
  pub forced : t.forced ≡ get_or vs 96 0
  pub mark : t.mark ≡ get_or vs 97 0

-- the byte at k belongs to the name of source i, or is one of its quotes, in a text without the names before it
pub record Within (s : List ℕ) (i k : ℕ) : Type 0 where
  pub there : 1 ≤ named s (behind s i)
  pub from : behind s i ≤ k
  pub to : k < behind s i + named s (behind s i) + 2

-- 24 bytes for each source: its name, and zeros behind it
pub record NamesOf (name : ℕ → List ℕ) (n : Names) : Type 0 where
  pub sizes : (length n.bytes ≡ 768) × (length n.lengths ≡ 32)
  pub lengths : (i : ℕ) → i < 32 → get_or n.lengths i 0 ≡ length (name i)
  pub bytes : (i k : ℕ) → i < 32 → k < 24 → get_or n.bytes (24 * i + k) 0 ≡ get_or (name i) k 0
