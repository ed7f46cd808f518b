-- A trace from a place on, as the list of its steps and how it ends (01, "House trace").
use Rattle.std.specs.Prelude.{ℕ, zero, suc, Bool, List, [], ◌∷◌, length, eqb, ltb}
use Rattle.words.specs.Choice.{pick}
use Rattle.steps.specs.Refusals.{carried_out, limit_reached}
use Rattle.steps.specs.declared.Recorded.{Recorded}
use Rattle.trace.specs.declared.Turn.{Turn}
use Rattle.trace.specs.declared.Turn.TheVariants.{Found, Ended}
use Rattle.trace.specs.Steps.{step_at}

-- the steps, and the ending refusal with its offset, else 0 and the length
pub record Trace : Type 0 where
  pub steps : List Recorded
  pub refusal : ℕ
  pub offset : ℕ

-- no step, and this ending
abbrev pub ends : ℕ → ℕ → Trace
ends refusal offset = record { steps = []; refusal = refusal; offset = offset }

-- a step before those of a trace
abbrev pub after : Recorded → Trace → Trace
after x t = record { steps = x ∷ t.steps; refusal = t.refusal; offset = t.offset }

-- the turn at a place with so much left of a limit: the end with 0 and the length where no byte is left, with 7 here where bytes remain and nothing is left of
-- the limit, else the step, or the end that its refusal makes (01, House trace; Numbers, 7)
unfoldable pub turn_at : Bool → List ℕ → ℕ → ℕ → Turn
turn_at told s at left = pick (ltb at (length s)) (pick (eqb left 0) (Ended limit_reached at) (step_at told s at)) (Ended carried_out (length s))

-- a step and what follows it, or the end
abbrev pub go_on : (ℕ → Trace) → Turn → Trace
go_on rest (Found x next) = after x (rest next)
go_on rest (Ended n p) = ends n p

-- at most so many steps from a place on, turn by turn; where nothing is left of the limit no turn finds a step
unfoldable pub steps_from : Bool → ℕ → List ℕ → ℕ → Trace
steps_from told zero s at = go_on (ends limit_reached) (turn_at told s at 0)
steps_from told (suc limit) s at = go_on (steps_from told limit s) (turn_at told s at (suc limit))
