-- What is promised of a trace that is typed as text: its lines and words, the bytes of each statement, and what is refused where (docs/TEXT.md).
-- The nth word of a line l, counted from 0, is `nth_typed (uncommented l) n`.
use Rattle.std.specs.Prelude.{ℕ, ◌+◌, ◌/◌, ◌%◌, ◌^◌, ◌≤◌, ◌<◌, ◌≡◌, true, false, List, [], ◌∷◌, ◌++◌, ◌≢◌, ◌⊎◌, eqb, length}
use Rattle.kinds.specs.Kinds.{wanted}
use Rattle.trace.specs.Steps.{operands_of}
use Rattle.tables.specs.Typed.{nth_start, nth_typed}
use Rattle.tables.specs.Number.{is_number, worth}
use Rattle.tables.specs.Layout.{Without}
use Rattle.tables.specs.Reading.{list_of}
use Rattle.encode.specs.declared.statements.Statement.{Statement}
use Rattle.encode.specs.Bytes.{shortest, bytes_of}
use Rattle.encode.specs.Words.{kind_of, step_of}
use Rattle.encode.specs.Statements.{uncommented, statement_of, bytes_in}
use Rattle.encode.specs.Encode.{lines_of, after, encoded_from, encoded}

-- a word of a line is a number of at most 32 bits
abbrev pub Fits : List ℕ → Type 0
Fits w = (is_number w ≡ true) × (worth w < 2 ^ 32)

-- or it is not
abbrev pub Misfits : List ℕ → Type 0
Misfits w = (is_number w ≡ false) ⊎ (2 ^ 32 ≤ worth w)

-- a word stands in the line as the nth
abbrev pub Stands : List ℕ → ℕ → Type 0
Stands l n = nth_start (uncommented l) n < length (uncommented l)

-- the first word of a line opens a statement: it names a controller where none has been named (kind 5), else a step; this is its number, and so many follow
abbrev pub Opens : ℕ → List ℕ → ℕ → ℕ → ℕ → Type 0
Opens kind l first n later =
    ((kind ≡ 5) × ((first ≡ kind_of (nth_typed (uncommented l) 0)) × ((first ≢ 5) × ((n ≡ wanted first) × (later ≡ first)))))
    ⊎ ((kind ≢ 5) × ((first ≡ step_of (nth_typed (uncommented l) 0)) × ((first ≢ 0) × ((n ≡ operands_of (eqb kind 3) first) × (later ≡ kind)))))

-- the n words behind the first are numbers
abbrev pub Numbered : List ℕ → ℕ → Type 0
Numbered l n = (k : ℕ) → k < n → Fits (nth_typed (uncommented l) (k + 1))

-- what is refused: in a line, as a word, something is expected
abbrev pub refused_by : ℕ → ℕ → Statement
refused_by expected word = record { expected = expected; word = word; kind = 5; first = 0; words = 0; size = 0 }

pub record Promises : Type 0 where
  -- ---- numbers in a trace, each in its shortest form (01, House trace)

  pub one_byte : (v : ℕ) → v < 128 → shortest v ≡ v ∷ []
  pub two_bytes : (v : ℕ) → 128 ≤ v → v < 16384 → shortest v ≡ (128 + v % 128) ∷ (v / 128) ∷ []
  pub three_bytes : (v : ℕ) → 16384 ≤ v → v < 2097152 → shortest v ≡ (128 + v % 128) ∷ (128 + v / 128 % 128) ∷ (v / 128 / 128) ∷ []
  pub four_bytes : (v : ℕ) → 2097152 ≤ v → v < 268435456
      → shortest v ≡ (128 + v % 128) ∷ (128 + v / 128 % 128) ∷ (128 + v / 128 / 128 % 128) ∷ (v / 128 / 128 / 128) ∷ []
  pub five_bytes : (v : ℕ) → 268435456 ≤ v → v < 2 ^ 32
      → shortest v ≡ (128 + v % 128) ∷ (128 + v / 128 % 128) ∷ (128 + v / 128 / 128 % 128) ∷ (128 + v / 128 / 128 / 128 % 128) ∷ (v / 128 / 128 / 128 / 128) ∷ []
  -- numbers stand one after the other
  pub no_bytes : bytes_of [] ≡ []
  pub more_bytes : (v : ℕ) (vs : List ℕ) → bytes_of (v ∷ vs) ≡ shortest v ++ bytes_of vs
  -- ---- lines, their comments and their words

  -- a line ends before its line feed, the last one with the text
  pub line_ended : (l rest : List ℕ) → Without 10 l → lines_of (l ++ (10 ∷ rest)) ≡ l ∷ lines_of rest
  pub line_open : (l : List ℕ) → Without 10 l → lines_of l ≡ l ∷ []
  -- # and what follows it in a line does nothing
  pub comment_none : (l : List ℕ) → Without 35 l → uncommented l ≡ l
  pub comment_gone : (l c : List ℕ) → Without 35 l → uncommented (l ++ (35 ∷ c)) ≡ l
  -- aic, coreinterrupt, cic, aintc and indexed are the kinds 0 to 4, letter by letter; read, write and line the steps 1, 2 and 3
  pub aic_word : kind_of (97 ∷ 105 ∷ 99 ∷ []) ≡ 0
  pub core_word : kind_of (99 ∷ 111 ∷ 114 ∷ 101 ∷ 105 ∷ 110 ∷ 116 ∷ 101 ∷ 114 ∷ 114 ∷ 117 ∷ 112 ∷ 116 ∷ []) ≡ 1
  pub cic_word : kind_of (99 ∷ 105 ∷ 99 ∷ []) ≡ 2
  pub aintc_word : kind_of (97 ∷ 105 ∷ 110 ∷ 116 ∷ 99 ∷ []) ≡ 3
  pub indexed_word : kind_of (105 ∷ 110 ∷ 100 ∷ 101 ∷ 120 ∷ 101 ∷ 100 ∷ []) ≡ 4
  pub read_word : step_of (114 ∷ 101 ∷ 97 ∷ 100 ∷ []) ≡ 1
  pub write_word : step_of (119 ∷ 114 ∷ 105 ∷ 116 ∷ 101 ∷ []) ≡ 2
  pub line_word : step_of (108 ∷ 105 ∷ 110 ∷ 101 ∷ []) ≡ 3
  -- ---- one line

  -- a line without a word says nothing
  pub silent_line : (kind : ℕ) (l : List ℕ) → nth_start (uncommented l) 0 ≡ length (uncommented l)
      → statement_of kind l ≡ record { expected = 0; word = 0; kind = kind; first = 0; words = 0; size = 0 }
  pub silent_bytes : (l : List ℕ) (first : ℕ) → bytes_in l first 0 ≡ []
  -- a word that opens no statement: a controller was expected, or a step
  pub controller_expected : (l : List ℕ) → Stands l 0 → kind_of (nth_typed (uncommented l) 0) ≡ 5 → statement_of 5 l ≡ refused_by 1 1
  pub step_expected : (kind : ℕ) (l : List ℕ) → kind ≢ 5 → Stands l 0 → step_of (nth_typed (uncommented l) 0) ≡ 0 → statement_of kind l ≡ refused_by 2 1
  -- the first word behind it that is no number of 32 bits, and one too many
  pub number_expected : (kind first n later k : ℕ) (l : List ℕ) → Stands l 0 → Opens kind l first n later → k < n → Numbered l k
      → Misfits (nth_typed (uncommented l) (k + 1)) → statement_of kind l ≡ refused_by 3 (k + 2)
  pub end_expected : (kind first n later : ℕ) (l : List ℕ) → Stands l 0 → Opens kind l first n later → Numbered l n
      → Stands l (n + 1) → statement_of kind l ≡ refused_by 4 (n + 2)
  -- else it is taken, whatever the numbers are: the kind that it leaves, and how many bytes it takes
  pub taken : (kind first n later : ℕ) (l : List ℕ) → Stands l 0 → Opens kind l first n later → Numbered l n
      → length (uncommented l) ≤ nth_start (uncommented l) (n + 1)
      → statement_of kind l
      ≡ record { expected = 0; word = 0; kind = later; first = first; words = n + 1; size = length (bytes_in l first (n + 1)) }
  -- and its bytes are those of the number of its first word and of what the others are worth, in their order
  pub bytes_said : (l : List ℕ) (first n : ℕ) → Numbered l n
      → bytes_in l first (n + 1) ≡ bytes_of (first ∷ list_of n (λ k. worth (nth_typed (uncommented l) (k + 1))))
  -- ---- the whole text

  -- its lines from the first on, with no controller named and no byte yet
  pub whole : (s : List ℕ) → encoded s ≡ encoded_from 0 0 5 0 (lines_of s)
  -- behind the last line: a controller was expected, in that line, if none has been named
  pub ends_unnamed : (lines at size : ℕ) → encoded_from lines at 5 size [] ≡ record { refusal = record { expected = 1; line = lines; word = 1 }; bytes = [] }
  pub ends : (lines at kind size : ℕ) → kind ≢ 5
      → encoded_from lines at kind size [] ≡ record { refusal = record { expected = 0; line = 0; word = 0 }; bytes = [] }
  -- a line that does not end within 5,242,880 bytes is refused, whatever it says; lines count from 1
  pub text_too_long : (lines at kind size : ℕ) (l : List ℕ) (ls : List (List ℕ)) → 5242880 < at + length l
      → encoded_from lines at kind size (l ∷ ls) ≡ record { refusal = record { expected = 6; line = lines + 1; word = 0 }; bytes = [] }
  -- one by which the trace would have more than 65,536 bytes is too
  pub trace_too_long : (lines at kind size : ℕ) (l : List ℕ) (ls : List (List ℕ)) → at + length l ≤ 5242880 → 65536 < size + (statement_of kind l).size
      → encoded_from lines at kind size (l ∷ ls) ≡ record { refusal = record { expected = 5; line = lines + 1; word = 0 }; bytes = [] }
  -- else its own refusal is told, and nothing behind it is read
  pub line_refused : (lines at kind size : ℕ) (l : List ℕ) (ls : List (List ℕ)) → at + length l ≤ 5242880 → size + (statement_of kind l).size ≤ 65536
      → (statement_of kind l).expected ≢ 0 → encoded_from lines at kind size (l ∷ ls)
      ≡ record { refusal = record { expected = (statement_of kind l).expected; line = lines + 1; word = (statement_of kind l).word }; bytes = [] }
  -- or its bytes stand before those of the lines behind it
  pub line_taken : (lines at kind size : ℕ) (l : List ℕ) (ls : List (List ℕ)) → at + length l ≤ 5242880 → size + (statement_of kind l).size ≤ 65536
      → (statement_of kind l).expected ≡ 0 → encoded_from lines at kind size (l ∷ ls)
      ≡ after (bytes_in l (statement_of kind l).first (statement_of kind l).words)
      (encoded_from (lines + 1) (at + length l + 1) (statement_of kind l).kind (size + (statement_of kind l).size) ls)
