-- The text of a listing: the controller's name, a line for each step, and how it ended (01, "House trace").
use Rattle.std.specs.Prelude.{ℕ, ◌+◌, List, [], ◌∷◌, ◌++◌, eqb}
use Rattle.words.specs.Choice.{pick}
use Rattle.steps.specs.Refusals.{carried_out}
use Rattle.steps.specs.declared.Recorded.{Recorded}
use Rattle.steps.specs.declared.Step.{Step}
use Rattle.steps.specs.declared.Step.TheVariants.{Read, Write, Line}
use Rattle.text.specs.Text.{space, newline, hex, decimal, field}
use Rattle.trace.specs.Steps.{read_kind, write_kind}
use Rattle.trace.specs.Trace.{Trace}
use Rattle.machine.specs.declared.Answer.{Answer}
use Rattle.machine.specs.declared.record.Columns.{Columns}
use Rattle.machine.specs.declared.record.Machine.{Machine}
use Rattle.kinds.specs.Kinds.{name}
use Rattle.machine.specs.Shown.{shown}
use Rattle.machine.specs.Steps.{step}
use Rattle.beginning.specs.declared.Begun.{Begun}
use Rattle.beginning.specs.Begin.{begin_of}
use Rattle.beginning.specs.Play.{records_of}

-- ---- the line of a step

-- R, W or L (01, House trace)
abbrev pub letter_of : Step → ℕ
letter_of (Read offset) = 82
letter_of (Write offset value) = 87
letter_of (Line line level) = 76

-- X where the step is refused (01, House trace)
unfoldable pub letter : Step → ℕ → ℕ
letter x refusal = pick (eqb refusal carried_out) (letter_of x) 88

-- the same by the number of the kind of step, 1, 2 or 3 (01, House trace)
abbrev pub letter_of_kind : ℕ → ℕ
letter_of_kind kind = pick (eqb kind read_kind) 82 (pick (eqb kind write_kind) 87 76)

unfoldable pub letter_by : ℕ → ℕ → ℕ
letter_by kind refusal = pick (eqb refusal carried_out) (letter_of_kind kind) 88

-- the value read, else 0; the refusal's number where the step is refused (01, House trace)
unfoldable pub shown_value : ℕ → ℕ → ℕ
shown_value refusal value = pick (eqb refusal carried_out) value refusal

-- a step's number, its letter, eight digits and three decimals (01, House trace)
unfoldable pub line_of : ℕ → ℕ → ℕ → Columns → List ℕ
line_of n letter value c =
    decimal n ++ (space ∷ []) ++ (letter ∷ []) ++ (space ∷ []) ++ hex value ++ field c.first ++ field c.second ++ field c.third ++ (newline ∷ [])

-- the line of step n by what it answered; the decimals are those of the machine after it (01, House trace)
abbrev pub step_line : ℕ → Step → Answer → List ℕ
step_line n x a = line_of n (letter x a.refusal) (shown_value a.refusal a.value) (shown a.machine)

-- ---- the lines of a trace

-- those of steps of which n others come before; they are numbered from 1
unfoldable pub lines_from : ℕ → Machine → List Recorded → List (List ℕ)
lines_from n m [] = []
lines_from n m (x ∷ xs) = step_line (n + 1) x.step (step m x) ∷ lines_from (n + 1) (step m x).machine xs

-- one line after the other
unfoldable pub joined : List (List ℕ) → List ℕ
joined [] = []
joined (l ∷ ls) = l ++ joined ls

-- E, the refusal's number and the offset of the number at fault (01, House trace)
unfoldable pub end_line : ℕ → ℕ → List ℕ
end_line refusal offset = (69 ∷ []) ++ field refusal ++ field offset ++ (newline ∷ [])

-- a trace that ends without a refusal has no such line
unfoldable pub end_of : ℕ → ℕ → List ℕ
end_of refusal offset = pick (eqb refusal carried_out) [] (end_line refusal offset)

-- step records of which n others come before, and how they end
unfoldable pub text_from : ℕ → Machine → Trace → List ℕ
text_from n m t = joined (lines_from n m t.steps) ++ end_of t.refusal t.offset

-- ---- the listing

-- the controller's name, once its configuration is accepted (01, House trace)
unfoldable pub name_line : Begun → List ℕ
name_line b = pick (eqb b.refusal carried_out) (name b.machine.kind) []

-- the name, the step records that the player plays, and their end (01, House trace)
unfoldable pub listing_of : List ℕ → ℕ → List ℕ
listing_of s limit = name_line (begin_of s) ++ text_from 0 (begin_of s).machine (records_of s limit)
