-- The moments of a trace, after the start and after each step, and the text of their ticks.
use Rattle.std.specs.Prelude.{ℕ, List, [], ◌∷◌, ◌++◌, map}
use Rattle.steps.specs.declared.Recorded.{Recorded}
use Rattle.trace.specs.Trace.{Trace}
use Rattle.machine.specs.declared.record.Machine.{Machine}
use Rattle.machine.specs.declared.Answer.{Answer}
use Rattle.machine.specs.Steps.{step}
use Rattle.lines.specs.Listing.{letter}
use Rattle.vcd.specs.Dump.{ticks_from, ending}
use Rattle.waves.specs.Signals.{Moment, moment, widths, values}

-- the moment after the start: no step yet, so no letter
abbrev pub at_start : Machine → Moment
at_start m = moment 0 0 0 m

-- that after a step which answered so; its letter is that of the listing's line (01, House trace)
abbrev pub after : Recorded → Answer → Moment
after x a = moment a.refusal a.value (letter x.step a.refusal) a.machine

-- those after some steps, refused ones among them
unfoldable pub moments_from : Machine → List Recorded → List Moment
moments_from m [] = []
moments_from m (x ∷ xs) = after x (step m x) ∷ moments_from (step m x).machine xs

-- what follows the ticks of n steps, with the values before: the ticks of step records, and how they end
unfoldable pub rest_from : ℕ → List ℕ → Machine → Trace → List ℕ
rest_from n before m t = ticks_from n (widths m.kind) before (map values (moments_from m t.steps)) ++ ending t.refusal t.offset
