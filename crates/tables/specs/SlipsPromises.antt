-- What is promised of the line that leads to a slip: when there is one, which line it names, and what it says there (docs/STACK.md).
use Rattle.std.specs.Prelude.{ℕ, suc, ◌+◌, ◌*◌, ◌≤◌, ◌<◌, ◌≡◌, Bool, true, false, List, [], ◌∷◌, ◌++◌, ◌↔◌, ◌≢◌, eqb, length, get_or, take}
use Rattle.text.specs.Text.{decimal}
use Rattle.text.specs.Phrases.{bytes}
use Rattle.tables.specs.Typed.{nth_start, nth_typed}
use Rattle.tables.specs.Number.{is_number, worth}
use Rattle.tables.specs.Names.{cleared}
use Rattle.tables.specs.Reading.{first_fault, read_table}
use Rattle.tables.specs.Facts.{Whole, TooLarge}
use Rattle.tables.specs.Slips.{line_of, told, limit_of, shortened, over_words, expected_words, slip_line}

-- the nth of the 98 numbers is over its limit; the word of forced sources has none
abbrev pub OverAt : List ℕ → ℕ → Type 0
OverAt c n = (n ≢ 96) × (limit_of n < worth (nth_typed c n))

pub record Promises : Type 0 where
  -- there is no line exactly where the table has a figure (02, 4/12)
  pub none : (s : List ℕ) → (slip_line s ≡ []) ↔ (Whole s × (TooLarge (cleared s) → ⊥))
  -- of 11 it tells the limit
  pub long : (s : List ℕ) → 65536 < length s → slip_line s ≡ bytes "the text is longer than 65536 bytes\n"
  -- of 8 it names the line in which the offset stands, and tells what was expected there
  pub slip : (s : List ℕ) → (read_table s).refusal ≡ 8
      → slip_line s ≡ told s (read_table s).offset (expected_words (eqb (get_or (cleared s) (read_table s).offset 0) 34) (first_fault (cleared s)) (is_number (nth_typed (cleared s) (first_fault (cleared s)))))
  -- of 14 it names the line of the first number that is over its limit, and tells the number as it was typed
  pub over : (s : List ℕ) (n : ℕ) → Whole s → n < 98 → OverAt (cleared s) n → ((k : ℕ) → k < n → OverAt (cleared s) k → ⊥)
      → slip_line s ≡ told s (nth_start (cleared s) n) (over_words n (nth_typed (cleared s) n))
  -- no line is longer than 85 bytes
  pub most : (s : List ℕ) → length (slip_line s) ≤ 85
  -- ---- which line

  pub told_is : (s : List ℕ) (at : ℕ) (what : List ℕ) → told s at what ≡ bytes "line " ++ decimal (line_of s at) ++ bytes ": " ++ what ++ (10 ∷ [])
  -- counted from 1, and one more behind each line feed
  pub line_first : (s : List ℕ) → line_of s 0 ≡ 1
  pub line_next : (s : List ℕ) (at : ℕ) → get_or s at 0 ≡ 10 → line_of s (suc at) ≡ line_of s at + 1
  pub line_same : (s : List ℕ) (at : ℕ) → get_or s at 0 ≢ 10 → line_of s (suc at) ≡ line_of s at
  -- ---- what it says

  pub expected_name : (n : ℕ) (b : Bool) → expected_words true n b ≡ bytes "a name has 1 to 24 characters and stands behind a source's three numbers"
  pub expected_end : (b : Bool) → expected_words false 98 b ≡ bytes "nothing may follow the mark's frame"
  pub expected_bits : (n : ℕ) → n < 98 → expected_words false n true ≡ bytes "the word of forced sources has more than 32 bits"
  pub expected_number : (n : ℕ) → n < 98 → expected_words false n false ≡ bytes "a number was expected"
  -- the limits are 7, 3 and 65,535 for each source, and 65,535 for the mark (02, 4/12, Refusals)
  pub limits : (i : ℕ) → i < 32 → (limit_of (3 * i) ≡ 7) × (limit_of (3 * i + 1) ≡ 3) × (limit_of (3 * i + 2) ≡ 65535) × (limit_of 97 ≡ 65535)
  pub over_priority : (i : ℕ) (w : List ℕ) → i < 32 → over_words (3 * i) w ≡ bytes "priority " ++ shortened w ++ bytes " is over 7"
  pub over_type : (i : ℕ) (w : List ℕ) → i < 32 → over_words (3 * i + 1) w ≡ bytes "type " ++ shortened w ++ bytes " is over 3"
  pub over_frame : (i : ℕ) (w : List ℕ) → i < 32 → over_words (3 * i + 2) w ≡ bytes "frame " ++ shortened w ++ bytes " is over 65535"
  pub over_mark : (w : List ℕ) → over_words 97 w ≡ bytes "frame " ++ shortened w ++ bytes " of the mark is over 65535"
  -- a word of at most 20 characters as it is, of a longer one the first 20 and two dots
  pub short_whole : (w : List ℕ) → length w ≤ 20 → shortened w ≡ w
  pub short_cut : (w : List ℕ) → 20 < length w → shortened w ≡ take 20 w ++ bytes ".."
