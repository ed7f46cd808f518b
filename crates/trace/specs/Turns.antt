-- One turn of a loop over the steps of a trace, as numbers.
use Rattle.std.specs.Prelude.{ℕ, ◌≡◌, Bool, not, ◌&&◌, List, eqb}
use Rattle.words.specs.Choice.{pick}
use Rattle.steps.specs.Refusals.{carried_out, privileged}
use Rattle.steps.specs.declared.Recorded.{Recorded}
use Rattle.steps.specs.declared.Step.{Step}
use Rattle.steps.specs.declared.Step.TheVariants.{Read, Write, Line}
use Rattle.numbers.specs.Number.{Number, Value, number_at}
use Rattle.trace.specs.declared.Turn.{Turn}
use Rattle.trace.specs.declared.Turn.TheVariants.{Found, Ended}
use Rattle.trace.specs.Steps.{read_kind, write_kind, line_kind}
use Rattle.trace.specs.declared.turns.Told.{Told}

-- the kind of a turn that finds no step: 0 is no kind of step (01, House trace)
abbrev pub ended_kind : ℕ
ended_kind = 0

-- the kind that says nothing, where the numbers of a step are not short
abbrev pub unsure_kind : ℕ
unsure_kind = 4

-- the step of a kind with its numbers: the offset; the offset and the value; the line and the level (01, House trace)
unfoldable pub step_of : ℕ → ℕ → ℕ → Step
step_of kind x y = pick (eqb kind read_kind) (Read x) (pick (eqb kind write_kind) (Write x y) (Line x y))

-- a step made by a privilege (02, 2/12)
abbrev pub made : Step → ℕ → Recorded
made x privilege = record { step = x; privilege = privilege }

-- the step that the numbers tell
abbrev pub recorded_of : Told → Recorded
recorded_of t = made (step_of t.kind t.x t.y) t.privilege

-- the turn that they tell: the end with its refusal and offset, or the step with the place after it (01, House trace)
unfoldable pub turn_of : Told → Turn
turn_of t = pick (eqb t.kind ended_kind) (Ended t.refusal t.next) (Found (recorded_of t) t.next)

-- ---- back: one way to tell a turn

-- the numbers of a step; a read has no second one
abbrev pub numbers_of : Step → ℕ → ℕ → Told
numbers_of (Read offset) privilege next =
    record { kind = read_kind; x = offset; y = 0; privilege = privilege; next = next; refusal = carried_out }
numbers_of (Write offset value) privilege next =
    record { kind = write_kind; x = offset; y = value; privilege = privilege; next = next; refusal = carried_out }
numbers_of (Line line level) privilege next =
    record { kind = line_kind; x = line; y = level; privilege = privilege; next = next; refusal = carried_out }

-- the numbers of a turn; those that it has no use for are 0
unfoldable pub told_of : Turn → Told
told_of (Ended refusal offset) = record { kind = ended_kind; x = 0; y = 0; privilege = 0; next = offset; refusal = refusal }
told_of (Found r next) = numbers_of r.step r.privilege next

-- those are 0
pub record Spare (t : Told) : Type 0 where
  pub ended : t.kind ≡ ended_kind → (t.x ≡ 0) × (t.y ≡ 0) × (t.privilege ≡ 0)
  pub read : t.kind ≡ read_kind → t.y ≡ 0
  pub found : (t.kind ≡ ended_kind → ⊥) → t.refusal ≡ carried_out

-- ---- inside a step

-- the privilege after the first number of a step: where it is told each offset has one, else it is 1 and takes no byte (02, 2/12)
unfoldable pub privilege_at : Bool → ℕ → List ℕ → ℕ → Number
privilege_at told kind s at = pick (told && not (eqb kind line_kind)) (number_at s at) (Value privileged at)
