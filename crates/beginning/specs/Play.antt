-- What a player reports of a trace: the steps it played, the machine after them, and how it ended (01, "House trace").
use Rattle.std.specs.Prelude.{ℕ, ◌+◌, List, [], ◌∷◌, length, eqb}
use Rattle.words.specs.Choice.{pick}
use Rattle.steps.specs.Refusals.{carried_out}
use Rattle.steps.specs.declared.Recorded.{Recorded}
use Rattle.trace.specs.Trace.{Trace, ends, steps_from}
use Rattle.kinds.specs.Kinds.{tells_privilege}
use Rattle.machine.specs.declared.record.Machine.{Machine}
use Rattle.machine.specs.Steps.{step}
use Rattle.beginning.specs.declared.Begun.{Begun}
use Rattle.beginning.specs.declared.reports.Played.{Played}
use Rattle.beginning.specs.Begin.{begin_of}

-- the step records of a trace after its beginning, at most so many, and how it ends; none where it has no beginning. They tell their privilege where the
-- steps of the machine's kind do (02, 2/12)
unfoldable pub records_from : ℕ → List ℕ → Begun → Trace
records_from limit s b =
    pick (eqb b.refusal carried_out) (steps_from (tells_privilege b.machine.kind) limit s b.place) (ends b.refusal b.place)

-- those of a whole trace (01, House trace)
abbrev pub records_of : List ℕ → ℕ → Trace
records_of s limit = records_from limit s (begin_of s)

-- the machine after some steps, refused ones among them
unfoldable pub run_of : Machine → List Recorded → Machine
run_of m [] = m
run_of m (x ∷ xs) = run_of (step m x).machine xs

-- the report on step records of which n others have been played before
unfoldable pub report : ℕ → Machine → Trace → Played
report n m t = record { steps = n + length t.steps; machine = run_of m t.steps; refusal = t.refusal; offset = t.offset }

-- the steps played are the step records, and the machine is the one that they make of the first (01, House trace; 01, Forms)
unfoldable pub play_of : List ℕ → ℕ → Played
play_of s limit = report 0 (begin_of s).machine (records_of s limit)
