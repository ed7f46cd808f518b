-- What stands where a step would begin: its kind and the numbers that go with it (01, "House trace"; 02, 2/12).
use Rattle.std.specs.Prelude.{ℕ, ◌+◌, Bool, true, false, List, [], ◌∷◌, eqb, Ok, Err}
use Rattle.words.specs.Choice.{pick}
use Rattle.words.specs.Counting.{one}
use Rattle.std.specs.declared.result.Result.{Result}
use Rattle.steps.specs.Refusals.{carried_out, unknown, privileged}
use Rattle.steps.specs.declared.Recorded.{Recorded}
use Rattle.steps.specs.declared.Step.{Step}
use Rattle.steps.specs.declared.Step.TheVariants.{Read, Write, Line}
use Rattle.numbers.specs.declared.Fault.{Fault}
use Rattle.numbers.specs.Number.{Number, number_at}
use Rattle.trace.specs.declared.Turn.{Turn}
use Rattle.trace.specs.declared.Turn.TheVariants.{Found, Ended}

-- ---- kinds of steps (01, House trace)

abbrev pub read_kind : ℕ
read_kind = 1

abbrev pub write_kind : ℕ
write_kind = 2

abbrev pub line_kind : ℕ
line_kind = 3

-- how many numbers go with a kind: the offset; the offset and the value; the line and the level; none with a kind that is not known. Where privilege is
-- told, each offset is followed by one more number (02, 2/12)
unfoldable pub operands_of : Bool → ℕ → ℕ
operands_of told kind = pick (eqb kind read_kind) (1 + one told) (pick (eqb kind write_kind) (2 + one told) (pick (eqb kind line_kind) 2 0))

-- a step of which the trace tells no privilege
abbrev pub plain : Step → Recorded
plain x = record { step = x; privilege = privileged }

-- the step of a kind with two numbers; a read has two only where its privilege is told
unfoldable pub two_numbers : ℕ → ℕ → ℕ → Recorded
two_numbers kind x y = pick (eqb kind read_kind) (record { step = Read x; privilege = y }) (pick (eqb kind write_kind) (plain (Write x y)) (plain (Line x y)))

-- ---- reading one, number by number: the first that is refused refuses the step, at its own place (01, House trace)

-- the third number; only a write whose privilege is told has one, its value
abbrev pub by_third : ℕ → ℕ → Number → Turn
by_third offset privilege (Err f) = Ended f.refusal f.at
by_third offset privilege (Ok value) = Found (record { step = Write offset value.value; privilege = privilege }) value.next

-- the second number that goes with a kind
abbrev pub by_second : Bool → List ℕ → ℕ → ℕ → Number → Turn
by_second told s kind x (Err f) = Ended f.refusal f.at
by_second told s kind x (Ok y) =
    pick (eqb (operands_of told kind) 2) (Found (two_numbers kind x y.value) y.next) (by_third x y.value (number_at s y.next))

-- the first one; only a read whose privilege is not told has no other
abbrev pub by_first : Bool → List ℕ → ℕ → Number → Turn
by_first told s kind (Err f) = Ended f.refusal f.at
by_first told s kind (Ok x) =
    pick (eqb (operands_of told kind) 1) (Found (plain (Read x.value)) x.next) (by_second told s kind x.value (number_at s x.next))

-- the kind: one that is not known is refused by 9 where it stands, and nothing after it is read
abbrev pub by_kind : Bool → List ℕ → ℕ → Number → Turn
by_kind told s at (Err f) = Ended f.refusal f.at
by_kind told s at (Ok kind) =
    pick (eqb (operands_of told kind.value) 0) (Ended unknown at) (by_first told s kind.value (number_at s kind.next))

-- the step at a place of a trace
unfoldable pub step_at : Bool → List ℕ → ℕ → Turn
step_at told s at = by_kind told s at (number_at s at)

-- the turn that the code makes of a step with the place after it, or of what is wrong with it
abbrev pub made_turn : Result (Recorded × ℕ) Fault → Turn
made_turn (Ok found) = Found found.0 found.1
made_turn (Err f) = Ended f.refusal f.at

-- ---- what an answer tells, in the numbers of 01

-- the numbers that write a step made by a privilege, its kind first; the privilege is written after an offset, where it is told (02, 2/12)
abbrev pub numbers_for : Step → Bool → ℕ → List ℕ
numbers_for (Read offset) false p = read_kind ∷ offset ∷ []
numbers_for (Read offset) true p = read_kind ∷ offset ∷ p ∷ []
numbers_for (Write offset value) false p = write_kind ∷ offset ∷ value ∷ []
numbers_for (Write offset value) true p = write_kind ∷ offset ∷ p ∷ value ∷ []
numbers_for (Line line level) told p = line_kind ∷ line ∷ level ∷ []

abbrev pub numbers_of : Bool → Recorded → List ℕ
numbers_of told x = numbers_for x.step told x.privilege

-- the number given (0: none), the numbers of the step, and a place
pub record Told : Type 0 where
  pub refusal : ℕ
  pub numbers : List ℕ
  pub place : ℕ

-- a step that was found: 0, its numbers and the next place; an end: its refusal, no numbers, and its offset
abbrev pub tell : Bool → Turn → Told
tell told (Found x next) = record { refusal = carried_out; numbers = numbers_of told x; place = next }
tell told (Ended n at) = record { refusal = n; numbers = []; place = at }
