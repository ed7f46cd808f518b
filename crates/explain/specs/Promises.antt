-- What is promised of an explained trace: the statement of each step, what its comment tells, which lines there are, and how long they get
-- (docs/TEXT.md, "A trace explained").
use Rattle.std.specs.Prelude.{ℕ, ◌+◌, ◌-◌, ◌^◌, ◌≤◌, ◌<◌, ◌≡◌, Bool, true, false, List, [], ◌∷◌, ◌++◌, ◌↔◌, ◌≢◌, length, replicate}
use Rattle.steps.specs.declared.Recorded.{Recorded}
use Rattle.steps.specs.declared.Step.TheVariants.{Read, Write, Line}
use Rattle.text.specs.Text.{hex_of, hex, decimal}
use Rattle.text.specs.Phrases.{bytes}
use Rattle.numbers.specs.Promises.{told_at}
use Rattle.trace.specs.Promises.{made}
use Rattle.trace.specs.Steps.{numbers_of}
use Rattle.kinds.specs.Kinds.{wanted, tells_privilege}
use Rattle.machine.specs.declared.record.Machine.{Machine}
use Rattle.machine.specs.declared.Answer.{Answer}
use Rattle.machine.specs.Steps.{step}
use Rattle.beginning.specs.Begin.{begin_of}
use Rattle.beginning.specs.Play.{records_of}
use Rattle.register_words.specs.Registers.{place_words, field_words, limit_words}
use Rattle.deeds.specs.Deeds.{deed_words, output_words}
use Rattle.explain.specs.Stated.{numbers_at, controller, stated, to_column}
use Rattle.explain.specs.Explain.{controller_line, document_words, reason_words, step_line, end_line, whole, window_of, shows, lines_from, explained_of, explained_window}

-- these numbers fit 32 bits
abbrev pub Words : List ℕ → Type 0
Words [] = Unit
Words (n ∷ ns) = (n < 2 ^ 32) × Words ns

-- and so do those of each of these steps
abbrev pub AllWords : Bool → List Recorded → Type 0
AllWords told [] = Unit
AllWords told (x ∷ xs) = Words (numbers_of told x) × AllWords told xs

-- the line of a step up to what it did: its statement, spaces up to the column, its number, and where it went
abbrev pub opened : Bool → ℕ → Machine → Recorded → List ℕ
opened told n m x = to_column (stated told x) ++ bytes "# " ++ decimal n ++ place_words m x

pub record Promises : Type 0 where
  -- ---- statements

  -- an offset has at least three digits and no 0 before them, a value eight; all others are decimal, and a privilege follows the offset where one is told
  pub read_stated : (offset p : ℕ) → offset < 0x1000 → stated false (made (Read offset) p) ≡ bytes "read 0x" ++ hex_of 3 offset
  pub write_stated : (offset v p : ℕ) → offset < 0x1000 → stated false (made (Write offset v) p) ≡ bytes "write 0x" ++ hex_of 3 offset ++ bytes " 0x" ++ hex v
  pub read_told : (offset p : ℕ) → offset < 0x1000 → stated true (made (Read offset) p) ≡ bytes "read 0x" ++ hex_of 3 offset ++ (32 ∷ []) ++ decimal p
  pub write_told : (offset v p : ℕ) → offset < 0x1000
      → stated true (made (Write offset v) p) ≡ bytes "write 0x" ++ hex_of 3 offset ++ (32 ∷ []) ++ decimal p ++ bytes " 0x" ++ hex v
  pub line_stated : (told : Bool) (line level p : ℕ) → stated told (made (Line line level) p) ≡ bytes "line " ++ decimal line ++ (32 ∷ []) ++ decimal level
  pub four_digits : stated false (made (Read 0x1500) 1) ≡ bytes "read 0x1500"
  pub eight_digits : stated true (made (Read 0xFFFFFFFF) 2) ≡ bytes "read 0xFFFFFFFF 2"
  pub aic_stated : controller 0 (7 ∷ 4294967295 ∷ []) ≡ bytes "aic 7 4294967295"
  pub core_stated : controller 1 (8 ∷ 32 ∷ 1 ∷ 0 ∷ []) ≡ bytes "coreinterrupt 8 32 1 0"
  pub cic_stated : controller 2 (1024 ∷ 256 ∷ 1 ∷ 5 ∷ []) ≡ bytes "cic 1024 256 1 5"
  pub aintc_stated : controller 3 [] ≡ bytes "aintc"
  pub indexed_stated : controller 4 (40 ∷ 8 ∷ 1 ∷ 0 ∷ 1 ∷ []) ≡ bytes "indexed 40 8 1 0 1"
  -- a comment begins at column 28; where the statement has as many bytes or more, one space behind it
  pub column : (l : List ℕ) → length l < 28 → to_column l ≡ l ++ replicate (28 - length l) 32
  pub no_column : (l : List ℕ) → 28 ≤ length l → to_column l ≡ l ++ (32 ∷ [])
  -- ---- the line of a step

  -- carried out: a read tells its value, a write its fields, each then what it did and which outputs it changed
  pub read_line : (told : Bool) (n offset p : ℕ) (m : Machine) (a : Answer) → a.refusal ≡ 0
      → step_line told n m (made (Read offset) p) a
      ≡ opened told n m (made (Read offset) p)
      ++ (bytes " = 0x" ++ hex a.value ++ deed_words m (made (Read offset) p) a.machine ++ output_words m a.machine) ++ (10 ∷ [])
  pub write_line : (told : Bool) (n offset v p : ℕ) (m : Machine) (a : Answer) → a.refusal ≡ 0
      → step_line told n m (made (Write offset v) p) a
      ≡ opened told n m (made (Write offset v) p)
      ++ (field_words m (made (Write offset v) p) ++ deed_words m (made (Write offset v) p) a.machine ++ output_words m a.machine) ++ (10 ∷ [])
  pub line_line : (told : Bool) (n line level p : ℕ) (m : Machine) (a : Answer) → a.refusal ≡ 0
      → step_line told n m (made (Line line level) p) a
      ≡ opened told n m (made (Line line level) p) ++ (deed_words m (made (Line line level) p) a.machine ++ output_words m a.machine) ++ (10 ∷ [])
  -- refused: by which number, and why
  pub refused_line : (told : Bool) (n : ℕ) (m : Machine) (x : Recorded) (a : Answer) → a.refusal ≢ 0
      → step_line told n m x a ≡ opened told n m x ++ (bytes " refused by " ++ decimal a.refusal ++ bytes ": " ++ reason_words m x a.refusal) ++ (10 ∷ [])
  pub by_one : (m : Machine) (x : Recorded) → reason_words m x 1 ≡ bytes "the offset is no multiple of 4"
  pub by_two : (m : Machine) (x : Recorded) → reason_words m x 2 ≡ bytes "no register at this offset"
  pub by_three : (m : Machine) (x : Recorded) → reason_words m x 3 ≡ bytes "this register can only be written"
  pub by_four : (m : Machine) (x : Recorded) → reason_words m x 4 ≡ bytes "this register can only be read"
  pub by_six : (m : Machine) (x : Recorded) → reason_words m x 6 ≡ limit_words m x
  pub by_thirteen : (m : Machine) (x : Recorded) → reason_words m x 13 ≡ bytes "only a privileged access may do this"
  -- ---- which lines there are

  -- of a trace that starts a controller: its own line, with the numbers that follow its kind in the trace, then those of the steps played, numbered from 1,
  -- and a last one where the trace ends with a refusal
  pub started_text : (s : List ℕ) (limit : ℕ) → (begin_of s).refusal ≡ 0 → (records_of s limit).refusal ≡ 0
      → explained_of s limit ≡ controller_line s (begin_of s).machine.kind
      ++ (lines_from whole (tells_privilege (begin_of s).machine.kind) 0 (begin_of s).machine (records_of s limit).steps ++ [])
  pub ended_text : (s : List ℕ) (limit : ℕ) → (begin_of s).refusal ≡ 0 → (records_of s limit).refusal ≢ 0
      → explained_of s limit ≡ controller_line s (begin_of s).machine.kind
      ++ (lines_from whole (tells_privilege (begin_of s).machine.kind) 0 (begin_of s).machine (records_of s limit).steps
      ++ end_line (records_of s limit).refusal (records_of s limit).offset)
  pub head_line : (s : List ℕ) (kind : ℕ)
      → controller_line s kind
      ≡ to_column (controller kind (numbers_at (wanted kind) s (told_at s 0).place)) ++ bytes "# " ++ document_words kind ++ (10 ∷ [])
  pub no_lines : (told : Bool) (n : ℕ) (m : Machine) → lines_from whole told n m [] ≡ []
  pub more_lines : (told : Bool) (n : ℕ) (m : Machine) (x : Recorded) (xs : List Recorded)
      → lines_from whole told n m (x ∷ xs) ≡ step_line told (n + 1) m x (step m x) ++ lines_from whole told (n + 1) (step m x).machine xs
  -- of one that starts none: the last line alone
  pub refused_text : (s : List ℕ) (limit : ℕ) → (begin_of s).refusal ≢ 0 → explained_of s limit ≡ end_line (begin_of s).refusal (begin_of s).place
  pub seven_line : (offset : ℕ) → end_line 7 offset ≡ bytes "# E 7 " ++ decimal offset ++ bytes ": the limit of steps is reached, and bytes are left\n"
  pub eight_line : (offset : ℕ) → end_line 8 offset
      ≡ bytes "# E 8 " ++ decimal offset ++ bytes ": a number breaks off here, or has more than 32 bits or five bytes\n"
  pub nine_line : (offset : ℕ) → end_line 9 offset ≡ bytes "# E 9 " ++ decimal offset ++ bytes ": no controller or step has this number\n"
  pub ten_line : (offset : ℕ) → end_line 10 offset ≡ bytes "# E 10 " ++ decimal offset ++ bytes ": the controller cannot be configured so\n"
  pub eleven_line : (offset : ℕ) → end_line 11 offset ≡ bytes "# E 11 " ++ decimal offset ++ bytes ": the trace has more than 65536 bytes\n"
  -- of a window: the lines of its steps among those played, exactly, and nothing else
  pub window_text : (s : List ℕ) (limit first steps : ℕ) → (begin_of s).refusal ≡ 0
      → explained_window s limit first steps
      ≡ lines_from (window_of first steps) (tells_privilege (begin_of s).machine.kind) 0 (begin_of s).machine (records_of s limit).steps
  pub window_refused : (s : List ℕ) (limit first steps : ℕ) → (begin_of s).refusal ≢ 0 → explained_window s limit first steps ≡ []
  pub in_window : (first steps n : ℕ) → (shows (window_of first steps) n ≡ true) ↔ ((first ≤ n) × (n < first + steps))
  pub window_shown : (first steps : ℕ) (told : Bool) (n : ℕ) (m : Machine) (x : Recorded) (xs : List Recorded) → shows (window_of first steps) (n + 1) ≡ true
      → lines_from (window_of first steps) told n m (x ∷ xs)
      ≡ step_line told (n + 1) m x (step m x) ++ lines_from (window_of first steps) told (n + 1) (step m x).machine xs
  pub window_passed : (first steps : ℕ) (told : Bool) (n : ℕ) (m : Machine) (x : Recorded) (xs : List Recorded) → shows (window_of first steps) (n + 1) ≡ false
      → lines_from (window_of first steps) told n m (x ∷ xs) ≡ lines_from (window_of first steps) told (n + 1) (step m x).machine xs
  -- ---- how long they get

  -- the numbers of the steps of a trace fit 32 bits
  pub numbers_fit : (s : List ℕ) (limit : ℕ) → AllWords (tells_privilege (begin_of s).machine.kind) (records_of s limit).steps
  -- a line has at most 256 bytes, its line feed among them, where its number has at most five digits
  pub line_most : (told : Bool) (n : ℕ) (m : Machine) (x : Recorded) (a : Answer) → n < 100000 → Words (numbers_of told x) → length (step_line told n m x a) ≤ 256
  pub head_most : (s : List ℕ) (kind : ℕ) → length (controller_line s kind) ≤ 256
  pub end_most : (refusal offset : ℕ) → length (end_line refusal offset) ≤ 256
  -- so an explanation of 20,000 steps has at most 5,242,880 bytes, and a window of it too
  pub most : (s : List ℕ) → length (explained_of s 20000) ≤ 5242880
  pub window_most : (s : List ℕ) (first steps : ℕ) → length (explained_window s 20000 first steps) ≤ 5242880
