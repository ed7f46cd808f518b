-- Reads, writes and line steps, with their refusals (01, Numbers; 01, CIC).
use Rattle.std.specs.Prelude.{Bool, true, not, ◌&&◌, ℕ, eqb}
use Rattle.words.specs.Array.{bit_at, with_bit_at}
use Rattle.words.specs.Choice.{pick}
use Rattle.steps.specs.declared.Step.{Step}
use Rattle.steps.specs.declared.Step.TheVariants.{Read, Write, Line}
use Rattle.steps.specs.Refusals.{carried_out, read_refusal, write_refusal, line_refusal}
use Rattle.cic_record.specs.declared.Answer.{Answer}
use Rattle.cic_record.specs.declared.Cic.{Cic}
use Rattle.cic_record.specs.declared.System.{System}
use Rattle.cic_record.specs.Kinds.{system}
use Rattle.cic_record.specs.Record.{with_lines, with_status, refused, answered}
use Rattle.cic_record.specs.Sound.{sound}
use Rattle.cic_registers.specs.Map.{register_at, access}
use Rattle.cic_registers.specs.Registers.{value_of, value_refusal, written_to}

-- the first answer where nothing is refused, else the same record with the number (01, Numbers)
abbrev pub unless_refused : Cic → ℕ → Answer → Answer
unless_refused c n a = pick (eqb n carried_out) a (refused c n)

-- the number by which the value v is refused at an offset, 0 where it is not (01, Numbers; CIC, registers)
abbrev pub refusal_at : Cic → ℕ → ℕ → ℕ
refusal_at c offset v = value_refusal c (register_at offset) v

-- a read of a record that is sound or not, as `ok` says (01, Numbers)
unfoldable pub read_as : Bool → Cic → ℕ → Answer
read_as ok c offset = unless_refused c (read_refusal ok offset (access c offset)) (answered c (value_of c (register_at offset)))

-- a write to such a record; one that is carried out answers the value 0 (01, Numbers)
unfoldable pub write_as : Bool → Cic → ℕ → ℕ → Answer
write_as ok c offset v =
    unless_refused c (write_refusal ok offset (access c offset) (refusal_at c offset v)) (answered (written_to c (register_at offset) v) 0)

-- a rising line sets the status, a falling one changes nothing; the line keeps its level (01, CIC, configuration)
unfoldable pub moved : Cic → System → Bool → Cic
moved c s high =
    pick (high && not (bit_at c.lines s.0))
    (with_lines (with_status c (with_bit_at c.status s.0 true)) (with_bit_at c.lines s.0 high))
    (with_lines c (with_bit_at c.lines s.0 high))

-- a line step of such a record; the inputs are the configured systems (01, Numbers)
unfoldable pub line_as : Bool → Cic → ℕ → ℕ → Answer
line_as ok c s level = unless_refused c (line_refusal ok c.systems s level) (answered (moved c (system s) (eqb level 1)) 0)

-- any step of such a record (01, Numbers)
unfoldable pub step_as : Bool → Cic → Step → Answer
step_as ok c (Read offset) = read_as ok c offset
step_as ok c (Write offset v) = write_as ok c offset v
step_as ok c (Line s level) = line_as ok c s level

-- a read of the record c; one that is not sound is refused by 12 (01, Numbers)
abbrev pub read : Cic → ℕ → Answer
read c offset = read_as (sound c) c offset

-- a write to the record c (01, Numbers)
abbrev pub write : Cic → ℕ → ℕ → Answer
write c offset v = write_as (sound c) c offset v

-- a line step of the record c (01, Numbers)
abbrev pub line : Cic → ℕ → ℕ → Answer
line c s level = line_as (sound c) c s level

-- any step of the record c (01, Numbers)
abbrev pub step : Cic → Step → Answer
step c s = step_as (sound c) c s
