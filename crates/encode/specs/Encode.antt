-- The bytes of a trace that is typed as text, or what was expected in it and where (docs/TEXT.md).
use Rattle.std.specs.Prelude.{ℕ, ◌+◌, List, [], ◌∷◌, ◌++◌, eqb, ltb, length}
use Rattle.words.specs.Choice.{pick}
use Rattle.encode.specs.declared.statements.Statement.{Statement}
use Rattle.encode.specs.Words.{no_kind}
use Rattle.encode.specs.Statements.{as_it_should_be, a_controller, astray, statement_of, bytes_in}
use Rattle.encode.specs.declared.Refusal.{Refusal}

-- the most bytes that a text may have, and a trace (01, Numbers, 11)
abbrev pub longest_text : ℕ
longest_text = 5242880

abbrev pub longest_trace : ℕ
longest_trace = 65536

-- what may be expected besides what a line may lack: a shorter trace, a shorter text
abbrev pub a_shorter_trace : ℕ
a_shorter_trace = 5

abbrev pub a_shorter_text : ℕ
a_shorter_text = 6

-- ---- lines

-- a byte before the first of some lines
abbrev pub on_first : ℕ → List (List ℕ) → List (List ℕ)
on_first b [] = (b ∷ []) ∷ []
on_first b (l ∷ ls) = (b ∷ l) ∷ ls

-- the lines of a text, each without the line feed that ends it; the last one ends with the text
unfoldable pub lines_of : List ℕ → List (List ℕ)
lines_of [] = [] ∷ []
lines_of (b ∷ bs) = pick (eqb b 10) ([] ∷ lines_of bs) (on_first b (lines_of bs))

-- the statement of a line, where the trace, which has so many bytes before it, does not get too long by it
unfoldable pub room_for : ℕ → Statement → Statement
room_for size s = pick (ltb longest_trace (size + s.size)) (astray a_shorter_trace 0) s

-- and where the line, which ends at this offset, is within the longest text
unfoldable pub line_of : ℕ → ℕ → ℕ → List ℕ → Statement
line_of end kind size l = pick (ltb longest_text end) (astray a_shorter_text 0) (room_for size (statement_of kind l))

-- ---- the whole text

-- the first refusal, and the bytes of the statements before it; where nothing is refused, of all
pub record Encoding : Type 0 where
  pub refusal : Refusal
  pub bytes : List ℕ

abbrev pub refused_as : ℕ → ℕ → ℕ → Refusal
refused_as expected line word = record { expected = expected; line = line; word = word }

-- at the end of a text of so many lines its controller has been named
unfoldable pub ended_by : ℕ → ℕ → Refusal
ended_by kind lines = pick (eqb kind no_kind) (refused_as a_controller lines 1) (refused_as as_it_should_be 0 0)

-- the bytes of the first statement before those of the others
abbrev pub after : List ℕ → Encoding → Encoding
after bs e = record { refusal = e.refusal; bytes = bs ++ e.bytes }

-- a statement and what follows it, or its refusal in the line of this number
unfoldable pub go_on : ℕ → List ℕ → Statement → Encoding → Encoding
go_on line l s rest =
    pick (eqb s.expected as_it_should_be) (after (bytes_in l s.first s.words) rest) (record { refusal = refused_as s.expected line s.word; bytes = [] })

-- these lines, behind so many others, from an offset of the text on, of a text that has named this kind and has so many bytes of its trace
unfoldable pub encoded_from : ℕ → ℕ → ℕ → ℕ → List (List ℕ) → Encoding
encoded_from lines at kind size [] = record { refusal = ended_by kind lines; bytes = [] }
encoded_from lines at kind size (l ∷ ls) =
    go_on (lines + 1) l (line_of (at + length l) kind size l)
    (encoded_from (lines + 1) (at + length l + 1) (line_of (at + length l) kind size l).kind (size + (line_of (at + length l) kind size l).size) ls)

-- a text
unfoldable pub encoded : List ℕ → Encoding
encoded s = encoded_from 0 0 no_kind 0 (lines_of s)
