-- What the inner functions answer, as they take a line; what its statement is stands in Statements.
use Rattle.std.specs.Prelude.{ℕ, ◌+◌, ◌^◌, List, Option, Some, None, Result, Ok, Err, eqb, ltb, length}
use Rattle.words.specs.Choice.{pick}
use Rattle.tables.specs.Typed.{nth_start}
use Rattle.tables.specs.Reading.{entered}
use Rattle.encode.specs.declared.statements.Expected.{Expected}
use Rattle.encode.specs.declared.statements.Expected.TheVariants.{Controller, Step, Number, LineEnd, ShorterTrace, ShorterText}
use Rattle.encode.specs.declared.statements.Opening.{Opening as Opens}
use Rattle.encode.specs.declared.statements.Numbers.{Numbers}
use Rattle.encode.specs.declared.statements.Statement.{Statement}
use Rattle.encode.specs.Bytes.{bytes_of}
use Rattle.encode.specs.Words.{no_kind, kind_of, step_of}
use Rattle.encode.specs.Statements.{Opening, as_it_should_be, a_controller, a_step, a_number, the_line_end, astray, values_in, fitting_in, controller_by, step_by, by_numbers}

-- the number that a refusal has of what was expected; 5 and 6 are what Encode says of a trace and a text that are too long
abbrev pub number_of : Expected → ℕ
number_of Controller = a_controller
number_of Step = a_step
number_of Number = a_number
number_of LineEnd = the_line_end
number_of ShorterTrace = 5
number_of ShorterText = 6

-- n, unless it is the number that stands for none
unfoldable pub unless : ℕ → ℕ → Option ℕ
unless none n = pick (eqb n none) None (Some n)

-- ---- the first word

-- as it is said of a word that opens a statement
abbrev pub opened : Opens → Opening
opened o = record { expected = as_it_should_be; kind = o.kind; first = o.first; numbers = o.numbers }

-- a word opens a statement, or something was expected in its place
unfoldable pub opens_as : Expected → Opening → Result Opens Expected
opens_as e o = pick (eqb o.expected as_it_should_be) (Ok (record { kind = o.kind; first = o.first; numbers = o.numbers })) (Err e)

unfoldable pub opening_in : ℕ → List ℕ → Result Opens Expected
opening_in kind w = pick (eqb kind no_kind) (opens_as Controller (controller_by (kind_of w))) (opens_as Step (step_by kind (step_of w)))

-- the statement that it opens
unfoldable pub by_opened : List ℕ → Result Opens Expected → Statement
by_opened l (Ok o) = by_numbers l (opened o)
by_opened l (Err e) = astray (number_of e) 1

-- ---- the numbers behind it

-- a number that was read, if it has 32 bits
unfoldable pub short_of : Option ℕ → Option ℕ
short_of None = None
short_of (Some v) = pick (ltb v (2 ^ 32)) (Some (entered v)) None

-- where the next word begins, and how many bytes of a trace they take; or how many come before the first that is no such number
unfoldable pub numbers_in : List ℕ → ℕ → Result Numbers ℕ
numbers_in l n = pick (ltb (fitting_in l n) n) (Err (fitting_in l n)) (Ok (record { start = nth_start l (n + 1); size = length (bytes_of (values_in l n)) }))
