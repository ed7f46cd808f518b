-- The controller as its callers see it: start, read, write, line step, step and outputs, refused ones among them.
use Rattle.std.specs.Prelude.{ℕ, Bool, false, eqb, ltb}
use Rattle.words.specs.Choice.{pick}
use Rattle.steps.specs.declared.Step.{Step}
use Rattle.steps.specs.declared.Step.TheVariants.{Read, Write, Line}
use Rattle.steps.specs.Refusals.{carried_out, unsound, read_refusal, write_refusal, line_refusal}
use Rattle.aic_record.specs.declared.Aic.{Aic}
use Rattle.aic_record.specs.Record.{reset}
use Rattle.aic_record.specs.Sound.{sound}
use Rattle.aic_sources.specs.Fast.{fiq}
use Rattle.aic_sources.specs.Normal.{irq}
use Rattle.aic.specs.declared.Begun.{Begun}
use Rattle.aic_registers.specs.declared.Answer.{Answer}
use Rattle.aic.specs.declared.Signals.{Signals}
use Rattle.aic_registers.specs.Map.{access}
use Rattle.aic_registers.specs.Handlers.{answered, refused}
use Rattle.aic_registers.specs.Effects.{moved}
use Rattle.aic_registers.specs.Registers.{read_at, written_at}

-- two configuration numbers, the external sources and the first line levels, each any word: no start is refused (01, AIC, Configuration)
unfoldable pub within : ℕ → ℕ → Bool
within nth value = ltb nth 2

unfoldable pub start : ℕ → ℕ → Begun
start external lines = record { refusal = carried_out; aic = reset external lines }

-- by which number a read, a write or a line step is refused, 0 for none; a register that is written takes any value, and lines 0 to 31 are the
-- inputs (01, Numbers; 02, 9/12)
unfoldable pub read_number : Aic → ℕ → ℕ
read_number s o = read_refusal (sound s) o (access o)

unfoldable pub write_number : Aic → ℕ → ℕ → ℕ
write_number s o v = write_refusal (sound s) o (access o) carried_out

unfoldable pub line_number : Aic → ℕ → ℕ → ℕ
line_number s k l = line_refusal (sound s) 32 k l

-- a read, a write and a line step: carried out, or refused
unfoldable pub read : Aic → ℕ → Answer
read s o = pick (eqb (read_number s o) carried_out) (read_at s o) (refused s (read_number s o))

unfoldable pub write : Aic → ℕ → ℕ → Answer
write s o v = pick (eqb (write_number s o v) carried_out) (answered (written_at s o v) 0) (refused s (write_number s o v))

unfoldable pub line : Aic → ℕ → ℕ → Answer
line s k l = pick (eqb (line_number s k l) carried_out) (answered (moved s k (eqb l 1)) 0) (refused s (line_number s k l))

-- a step of a recorded trace
abbrev pub step : Aic → Step → Answer
step s (Read o) = read s o
step s (Write o v) = write s o v
step s (Line k l) = line s k l

-- the outputs, active or not, and the entries open; of a record that breaks a rule 12 and nothing else
unfoldable pub outputs : Aic → Signals
outputs s =
    pick (sound s)
    (record { refusal = carried_out; irq = irq s; fiq = fiq s; entries = s.depth })
    (record { refusal = unsound; irq = false; fiq = false; entries = 0 })
