-- Reads, writes, line steps and steps of a CIC with prioritised indices: what is not at one of its own registers is the CIC's (02, 6/12).
use Rattle.std.specs.Prelude.{Bool, ℕ, ◌*◌, eqb, set}
use Rattle.words.specs.Choice.{pick}
use Rattle.steps.specs.declared.Access.TheVariants.{ReadWrite}
use Rattle.steps.specs.declared.Step.{Step}
use Rattle.steps.specs.declared.Step.TheVariants.{Read, Write, Line}
use Rattle.steps.specs.Refusals.{carried_out, unsound, read_refusal, write_refusal}
use Rattle.cic_record.specs.declared.Answer.{Answer as CicAnswer}
use Rattle.cic_record.specs.declared.Signals.{Signals}
use Rattle.cic_registers.specs.Hosts.{shown}
use Rattle.cic_registers.specs.Model as cic
use Rattle.cic_held.specs.declared.Answer.{Answer}
use Rattle.cic_held.specs.declared.Held.{Held}
use Rattle.cic_held.specs.declared.Prioritised.{Prioritised}
use Rattle.cic_held.specs.Held.{prioritised, with_global, with_hosts, sound, controlled}
use Rattle.cic_indexed.specs.declared.Own.{Own}
use Rattle.cic_indexed.specs.declared.Own.TheVariants.{Elsewhere, Control, GlobalIndex, HostIndex}
use Rattle.cic_indexed.specs.Registers.{own_at, host_access, hold_after, global_word, host_word, held_after}

-- ---- answers (01, Numbers)

abbrev pub refused : Prioritised → ℕ → Answer
refused p n = record { refusal = n; value = 0; prioritised = p }

abbrev pub answered : Prioritised → ℕ → Answer
answered p v = record { refusal = carried_out; value = v; prioritised = p }

abbrev pub unless_refused : Prioritised → ℕ → Answer → Answer
unless_refused p n a = pick (eqb n carried_out) a (refused p n)

-- what the CIC answers, with what is held then beside it
abbrev pub beside : Held → CicAnswer → Answer
beside h a = record { refusal = a.refusal; value = a.value; prioritised = prioritised a.cic h }

-- ---- reads and writes of a record that is sound, or not

-- control shows the mode in bit 4; an index answers its word, and holds it in the mode (001, 2.2.2, 2.2.10 and 2.2.17)
unfoldable pub read_as : Bool → Prioritised → ℕ → Own → Answer
read_as ok p offset Elsewhere = beside p.held (cic.read_as ok p.cic offset)
read_as ok p offset Control = unless_refused p (read_refusal ok offset ReadWrite) (answered p (16 * p.held.hold))
read_as ok p offset GlobalIndex =
    unless_refused p (read_refusal ok offset ReadWrite) (answered (prioritised p.cic (with_global p.held (hold_after p (global_word p)))) (global_word p))
read_as ok p offset (HostIndex h) =
    unless_refused p (read_refusal ok offset (host_access p h.0))
    (answered (prioritised p.cic (with_hosts p.held (set p.held.host h.0 (hold_after p (host_word p h.0))))) (host_word p h.0))

-- the CIC's write, and if it is carried out in the mode, what it ends (001, 1.3.5)
abbrev pub written_by : Prioritised → ℕ → ℕ → CicAnswer → Answer
written_by p offset v a =
    pick (eqb a.refusal carried_out) (beside (pick (eqb p.held.hold 1) (held_after p.cic p.held offset v) p.held) a) (refused p a.refusal)

-- control keeps bit 4; a write of an index, of any value, ends its hold (001, 1.3.5 and 2.2.2)
unfoldable pub write_as : Bool → Prioritised → ℕ → ℕ → Own → Answer
write_as ok p offset v Elsewhere = written_by p offset v (cic.write_as ok p.cic offset v)
write_as ok p offset v Control =
    unless_refused p (write_refusal ok offset ReadWrite carried_out) (answered (prioritised p.cic (controlled p.held v)) 0)
write_as ok p offset v GlobalIndex =
    unless_refused p (write_refusal ok offset ReadWrite carried_out) (answered (prioritised p.cic (with_global p.held 0)) 0)
write_as ok p offset v (HostIndex h) =
    unless_refused p (write_refusal ok offset (host_access p h.0) carried_out)
    (answered (prioritised p.cic (with_hosts p.held (set p.held.host h.0 0))) 0)

unfoldable pub step_as : Bool → Prioritised → Step → Answer
step_as ok p (Read offset) = read_as ok p offset (own_at p offset)
step_as ok p (Write offset v) = write_as ok p offset v (own_at p offset)
step_as ok p (Line s level) = beside p.held (cic.line_as ok p.cic s level)

-- ---- of any record: one that is not sound is refused by 12 (01, Numbers)

abbrev pub read : Prioritised → ℕ → Answer
read p offset = step_as (sound p) p (Read offset)

abbrev pub write : Prioritised → ℕ → ℕ → Answer
write p offset v = step_as (sound p) p (Write offset v)

abbrev pub line : Prioritised → ℕ → ℕ → Answer
line p s level = step_as (sound p) p (Line s level)

abbrev pub step : Prioritised → Step → Answer
step p x = step_as (sound p) p x

-- holds touch no output: they are the CIC's; 12 and nothing else where the record is not sound (02, 6/12; 01, CIC, outputs)
unfoldable pub outputs : Prioritised → Signals
outputs p = pick (sound p) (shown p.cic) (record { refusal = unsound; hosts = 0; lowest = 0 })
