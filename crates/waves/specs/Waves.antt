-- The waves of a trace: the value change dump of what its machine shows after the start and after each step.
use Rattle.std.specs.Prelude.{ℕ, List, ◌++◌, map, eqb}
use Rattle.words.specs.Choice.{pick}
use Rattle.steps.specs.Refusals.{carried_out}
use Rattle.trace.specs.Trace.{Trace}
use Rattle.kinds.specs.Kinds.{name}
use Rattle.machine.specs.declared.record.Machine.{Machine}
use Rattle.beginning.specs.Begin.{begin_of}
use Rattle.beginning.specs.Play.{records_of}
use Rattle.vcd.specs.Dump.{opening, declared, heading, ending, ticks}
use Rattle.waves.specs.Signals.{signals, widths, values}
use Rattle.waves.specs.Moments.{at_start, moments_from}

-- the dump of step records on a machine
unfoldable pub dump_of : Machine → Trace → List ℕ
dump_of m t =
    heading (name m.kind) (signals m.kind)
    ++ ticks (widths m.kind) (values (at_start m)) (map values (moments_from m t.steps)) t.refusal t.offset

-- where no configuration is accepted nothing is declared, and only the refusal is told
unfoldable pub no_dump : ℕ → ℕ → List ℕ
no_dump refusal offset = opening ++ declared ++ ending refusal offset

-- the waves of a trace of which at most so many steps are played
unfoldable pub waves_of : List ℕ → ℕ → List ℕ
waves_of s limit =
    pick (eqb (begin_of s).refusal carried_out) (dump_of (begin_of s).machine (records_of s limit)) (no_dump (begin_of s).refusal (begin_of s).place)
