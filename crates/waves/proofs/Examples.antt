-- The worked waves, computed from the definitions: first the values of every moment, and then their text (01, "House trace").
use Prim.Native.Nat.{ℕ}
use mathlib.Core.Path.{◌≡◌, refl, ◌∙◌}
use mathlib.Core.List.{List, [], ◌∷◌, ◌++◌, map}
use Rattle.numbers.specs.Number.{size_at, worth_at, faulty, number_at}
use Rattle.text.specs.Text.{decimal_of, field}
use Rattle.text.specs.Phrases.{bytes}
use Rattle.trace.specs.Steps.{operands_of, two_numbers, step_at}
use Rattle.trace.specs.Trace.{turn_at, steps_from}
use Rattle.vcd.specs.Dump.{opening, declared, declaration, declarations, heading, binary_of, change, values_from, changes_from, tick, first_tick, next_tick, ticks_from, ending, ticks}
use Rattle.kinds.specs.Kinds.{name}
use Rattle.machine.proofs.Computing.{aic_computes}
use Rattle.beginning.specs.Begin.{setup_from, setup_of, by_setup, begin_of}
use Rattle.beginning.specs.Play.{records_from, records_of, report, play_of}
use Rattle.lines.specs.Listing.{letter}
use Rattle.aic_record.specs.Last.{last_source, last_level}
use Rattle.waves.specs.Signals.{own_rows, rows, signals, widths, values}
use Rattle.waves.specs.Moments.{at_start, moments_from}
use Rattle.waves.specs.Waves.{waves_of}
use Rattle.waves.specs.Promises.{first, aic_trace, aic_waves}
use Rattle.waves.proofs.ReadLaws.{begun}

-- what is read of a trace
unfoldable reading : Unit {0}
unfolding size_at worth_at faulty number_at operands_of two_numbers step_at turn_at steps_from setup_from setup_of by_setup begin_of records_from
reading = tt

-- the values of tick 0, and those of the six ticks after it
abbrev start : List ℕ
start = 0 ∷ 0 ∷ 0 ∷ 0 ∷ 0 ∷ 0 ∷ 0 ∷ 255 ∷ 0 ∷ 0 ∷ 0 ∷ []

abbrev rest : List (List ℕ)
rest =
    (0 ∷ 0 ∷ 87 ∷ 0 ∷ 0 ∷ 0 ∷ 0 ∷ 255 ∷ 0 ∷ 0 ∷ 0 ∷ [])
    ∷ (0 ∷ 0 ∷ 87 ∷ 0 ∷ 0 ∷ 0 ∷ 0 ∷ 255 ∷ 0 ∷ 0 ∷ 0 ∷ [])
    ∷ (0 ∷ 0 ∷ 87 ∷ 0 ∷ 0 ∷ 0 ∷ 0 ∷ 255 ∷ 0 ∷ 0 ∷ 32 ∷ [])
    ∷ (0 ∷ 0 ∷ 76 ∷ 1 ∷ 0 ∷ 0 ∷ 0 ∷ 255 ∷ 32 ∷ 32 ∷ 32 ∷ [])
    ∷ (0 ∷ 160 ∷ 82 ∷ 0 ∷ 0 ∷ 1 ∷ 5 ∷ 3 ∷ 32 ∷ 0 ∷ 32 ∷ [])
    ∷ (1 ∷ 0 ∷ 88 ∷ 0 ∷ 0 ∷ 1 ∷ 5 ∷ 3 ∷ 32 ∷ 0 ∷ 32 ∷ []) ∷ []

begins : (begin_of aic_trace).refusal ≡ 0
unfolding aic_computes reading
begins = refl

kind-is : (first aic_trace).kind ≡ 0
unfolding aic_computes reading
kind-is = refl

ended : (play_of aic_trace 20000).refusal ≡ 8
unfolding aic_computes reading report play_of
ended = refl

offset-is : (play_of aic_trace 20000).offset ≡ 24
unfolding aic_computes reading report play_of
offset-is = refl

start_is : values (at_start (first aic_trace)) ≡ start
unfolding aic_computes reading last_source last_level own_rows rows values
start_is = refl

rest-is : map values (moments_from (first aic_trace) (records_of aic_trace 20000).steps) ≡ rest
unfolding aic_computes reading letter last_source last_level own_rows rows values moments_from
rest-is = refl

-- the text of these values
written : heading (name 0) (signals 0) ++ ticks (widths 0) start rest 8 24 ≡ aic_waves
unfolding aic_computes bytes decimal_of field opening declared declaration declarations heading binary_of change values_from changes_from tick first_tick next_tick ticks_from ending ticks own_rows rows signals widths
written = refl

pub worked : waves_of aic_trace 20000 ≡ aic_waves
worked = begun aic_trace 20000 begins ∙ rw (rest-is, start_is, ended, offset-is, kind-is) written
