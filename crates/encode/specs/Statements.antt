-- The statement of a line: the numbers that it stands for, or what was expected in it (docs/TEXT.md).
use Rattle.std.specs.Prelude.{ℕ, ◌+◌, ◌-◌, ◌^◌, Bool, not, ◌&&◌, List, [], ◌∷◌, eqb, ltb, length, get_or, take}
use Rattle.words.specs.Choice.{pick}
use Rattle.words.specs.Counting.{lowest_below}
use Rattle.kinds.specs.Kinds.{wanted, tells_privilege}
use Rattle.trace.specs.Steps.{operands_of}
use Rattle.tables.specs.Typed.{nth_start, nth_typed}
use Rattle.tables.specs.Number.{is_number, worth}
use Rattle.tables.specs.Reading.{entered, list_of}
use Rattle.encode.specs.declared.statements.Statement.{Statement}
use Rattle.encode.specs.Bytes.{shortest, bytes_of}
use Rattle.encode.specs.Words.{no_kind, kind_of, no_step, step_of}

-- ---- what may be expected; 0 says that nothing else was

abbrev pub as_it_should_be : ℕ
as_it_should_be = 0

abbrev pub a_controller : ℕ
a_controller = 1

abbrev pub a_step : ℕ
a_step = 2

abbrev pub a_number : ℕ
a_number = 3

abbrev pub the_line_end : ℕ
the_line_end = 4

-- ---- the words of a line

-- where a byte first stands from a place on; where it does not, the end
unfoldable pub place_from : ℕ → List ℕ → ℕ → ℕ
place_from b s at = at + lowest_below (length s - at) (λ k. eqb (get_or s (at + k) 0) b)

-- a line up to its comment, which # begins
unfoldable pub uncommented : List ℕ → List ℕ
uncommented l = take (place_from 35 l 0) l

-- a word is a number of 32 bits
unfoldable pub fitting : List ℕ → Bool
fitting w = is_number w && ltb (worth w) (2 ^ 32)

-- what it is worth; a word that is none is worth 0
unfoldable pub worth_of : List ℕ → ℕ
worth_of w = pick (is_number w) (entered (worth w)) 0

-- the numbers of the n words behind the first
unfoldable pub values_in : List ℕ → ℕ → List ℕ
values_in l n = list_of n (λ k. worth_of (nth_typed l (k + 1)))

-- how many of these come before the first that is no such number
unfoldable pub fitting_in : List ℕ → ℕ → ℕ
fitting_in l n = lowest_below n (λ k. not (fitting (nth_typed l (k + 1))))

-- ---- its statement

-- a line that says nothing: it has no word
unfoldable pub silent : ℕ → Statement
silent kind = record { expected = as_it_should_be; word = 0; kind = kind; first = 0; words = 0; size = 0 }

-- another word was expected than the one of this number, counted from 1
unfoldable pub astray : ℕ → ℕ → Statement
astray expected word = record { expected = expected; word = word; kind = no_kind; first = 0; words = 0; size = 0 }

-- what the first word of a statement says: what was expected in its place, the controller's kind, its own number, and how many numbers follow it
pub record Opening : Type 0 where
  pub expected : ℕ
  pub kind : ℕ
  pub first : ℕ
  pub numbers : ℕ

-- a word names a controller, and as many numbers follow as configure it (01, House trace)
unfoldable pub controller_by : ℕ → Opening
controller_by kind = record { expected = pick (eqb kind no_kind) a_controller as_it_should_be; kind = kind; first = kind; numbers = wanted kind }

-- a word names a step of a controller, and as many numbers follow as go with it (01, House trace; 02, 2/12)
unfoldable pub step_by : ℕ → ℕ → Opening
step_by kind step =
    record { expected = pick (eqb step no_step) a_step as_it_should_be; kind = kind; first = step; numbers = operands_of (tells_privilege kind) step }

-- the first word of a statement names the controller, and behind that a step
unfoldable pub opening_of : ℕ → List ℕ → Opening
opening_of kind w = pick (eqb kind no_kind) (controller_by (kind_of w)) (step_by kind (step_of w))

-- the numbers behind the first word, and nothing behind them
unfoldable pub by_numbers : List ℕ → Opening → Statement
by_numbers l o =
    pick (ltb (fitting_in l o.numbers) o.numbers) (astray a_number (fitting_in l o.numbers + 2))
    (pick (ltb (nth_start l (o.numbers + 1)) (length l)) (astray the_line_end (o.numbers + 2))
    (record {
      expected = as_it_should_be;
      word = 0;
      kind = o.kind;
      first = o.first;
      words = o.numbers + 1;
      size = length (shortest o.first) + length (bytes_of (values_in l o.numbers));
    }))

-- what the first word says, and the rest
unfoldable pub by_opening : List ℕ → Opening → Statement
by_opening l o = pick (eqb o.expected as_it_should_be) (by_numbers l o) (astray o.expected 1)

-- the statement of a line without its comment
unfoldable pub statement_in : ℕ → List ℕ → Statement
statement_in kind l = pick (eqb (nth_start l 0) (length l)) (silent kind) (by_opening l (opening_of kind (nth_typed l 0)))

-- of a line as it stands, for a text that has named this kind
unfoldable pub statement_of : ℕ → List ℕ → Statement
statement_of kind l = statement_in kind (uncommented l)

-- ---- what it brings into the trace

-- the number of its first word and those behind it
unfoldable pub numbers_of : List ℕ → ℕ → ℕ → List ℕ
numbers_of l first words = pick (eqb words 0) [] (first ∷ values_in l (words - 1))

-- and their bytes
unfoldable pub bytes_in : List ℕ → ℕ → ℕ → List ℕ
bytes_in l first words = bytes_of (numbers_of (uncommented l) first words)
