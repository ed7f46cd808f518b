-- How a trace begins: its length, the controller's kind and the configuration, read in byte order (01, "House trace").
use Rattle.std.specs.Prelude.{ℕ, zero, suc, ◌+◌, List, length, ltb, Ok, Err}
use Rattle.std.specs.declared.result.Result.{Result}
use Rattle.words.specs.Choice.{pick}
use Rattle.steps.specs.Refusals.{carried_out, unknown, misconfigured, too_long}
use Rattle.numbers.specs.declared.Fault.{Fault}
use Rattle.numbers.specs.Number.{Number, number_at}
use Rattle.kinds.specs.declared.Configuration.{Configuration}
use Rattle.kinds.specs.Kinds.{is_kind, wanted, within}
use Rattle.kinds.specs.Configuration.{no_numbers, with_number}
use Rattle.machine.specs.Machine.{blank, start}
use Rattle.beginning.specs.declared.Setup.{Setup}
use Rattle.beginning.specs.declared.Begun.{Begun}

-- the most bytes that a trace may have (01, Numbers, 11)
abbrev pub longest : ℕ
longest = 65536

-- ---- the configuration

-- refused, with the offset of the number at fault
abbrev pub refused_setup : ℕ → ℕ → Result Setup Fault
refused_setup refusal offset = Err (record { refusal = refusal; at = offset })

-- accepted, with the place of the first step
abbrev pub accepted_setup : Configuration → ℕ → Result Setup Fault
accepted_setup c at = Ok (record { place = at; configuration = c })

-- the nth number stands at a place: 8 where it is damaged, 10 where it is beyond its limit, else the rest (01, House trace)
abbrev pub by_value : ℕ → ℕ → Configuration → ℕ → (Configuration → ℕ → Result Setup Fault) → Number → Result Setup Fault
by_value kind nth c at rest (Err f) = Err f
by_value kind nth c at rest (Ok v) = pick (within kind nth v.value) (rest (with_number c nth v.value) v.next) (refused_setup misconfigured at)

-- so many numbers from the nth on, each checked as it is read (01, House trace)
unfoldable pub setup_from : ℕ → ℕ → ℕ → List ℕ → Configuration → ℕ → Result Setup Fault
setup_from kind zero nth s c at = accepted_setup c at
setup_from kind (suc left) nth s c at = by_value kind nth c at (setup_from kind left (nth + 1) s) (number_at s at)

-- the whole configuration of a kind, from a place on
unfoldable pub setup_of : ℕ → List ℕ → ℕ → Result Setup Fault
setup_of kind s at = setup_from kind (wanted kind) 0 s no_numbers at

-- ---- the beginning

-- no machine is started: its numbers are all 0 (01, House trace)
abbrev pub not_begun : ℕ → ℕ → Begun
not_begun refusal offset = record { refusal = refusal; place = offset; machine = blank }

-- the machine of a configuration, once all of it is accepted
unfoldable pub by_setup : ℕ → Result Setup Fault → Begun
by_setup kind (Ok t) = record { refusal = carried_out; place = t.place; machine = start kind t.configuration }
by_setup kind (Err f) = not_begun f.refusal f.at

-- the same of what the code finds: the controller's kind with its configuration, or what is wrong
abbrev pub begun_by : Result (ℕ × Setup) Fault → Begun
begun_by (Ok x) = by_setup x.0 (Ok x.1)
begun_by (Err f) = not_begun f.refusal f.at

-- the number at the start of a trace is the controller's kind: 8 where it is damaged, 9 where there is no such kind (01, Numbers)
abbrev pub by_controller : List ℕ → Number → Begun
by_controller s (Err f) = not_begun f.refusal f.at
by_controller s (Ok kind) = pick (is_kind kind.value) (by_setup kind.value (setup_of kind.value s kind.next)) (not_begun unknown 0)

-- where the steps begin and with which machine, or the refusal with its offset; the length is checked before all else (01, House trace)
unfoldable pub begin_of : List ℕ → Begun
begin_of s = pick (ltb longest (length s)) (not_begun too_long longest) (by_controller s (number_at s 0))
