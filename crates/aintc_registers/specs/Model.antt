-- The controller as its callers see it: start, read, write, line step, step and outputs, refused ones among them.
use Rattle.std.specs.Prelude.{ℕ, ◌%◌, Bool, true, false, ◌&&◌, ◌||◌, eqb, leb, replicate}
use Rattle.words.specs.Choice.{pick}
use Rattle.steps.specs.declared.Access.{Access}
use Rattle.steps.specs.declared.Access.TheVariants.{NoRegister, ReadOnly, WriteOnly, ReadWrite}
use Rattle.steps.specs.declared.Step.{Step}
use Rattle.steps.specs.declared.Step.TheVariants.{Read, Write, Line}
use Rattle.steps.specs.Refusals.{carried_out, beyond, unsound, unprivileged, read_refusal, write_refusal, line_refusal}
use Rattle.aintc_record.specs.declared.Aintc.{Aintc}
use Rattle.aintc_record.specs.Record.{reset}
use Rattle.aintc_registers.specs.Settle.{settle, sound}
use Rattle.aintc_registers.specs.declared.Answer.{Answer}
use Rattle.aintc_registers.specs.Effects.{written_at, moved}
use Rattle.aintc_registers.specs.Map.{protection, access}
use Rattle.aintc_registers.specs.Registers.{answered, refused, read_at}
use Rattle.aintc_registers.specs.declared.model.Begun.{Begun}
use Rattle.aintc_registers.specs.declared.model.Signals.{Signals}

-- there is no configuration number (02, 2/12)
abbrev pub within : ℕ → ℕ → Bool
within nth value = false

-- what a reset leaves, with the lines low: no start is refused (02, 2/12)
unfoldable pub start : Begun
start = record { refusal = carried_out; aintc = reset (replicate 4 0) }

-- ---- privilege: 1 is privileged, 0 is not

-- there is a register
abbrev pub is_register : Access → Bool
is_register NoRegister = false
is_register ReadOnly = true
is_register WriteOnly = true
is_register ReadWrite = true

-- an unprivileged access of a register, where all are protected or it is the protection register (000, 4.3.2)
unfoldable pub barred : Bool → ℕ → ℕ → Bool
barred guarded p o = eqb p 0 && eqb (o % 4) 0 && is_register (access o) && (guarded || eqb o protection)

-- the checks in their order: 12, 6 for the privilege, 13, then those of the read or the write; of these 1 and 2 come before 13, since a
-- barred access is aligned and of a register (02, 2/12)
unfoldable pub access_number : Bool → ℕ → Bool → ℕ → ℕ
access_number sound p bars rest = pick sound (pick (leb p 1) (pick bars unprivileged rest) beyond) unsound

-- by which number a read, a write or a line step is refused, 0 for none; no value is refused, and lines 0 to 127 are the inputs
-- (01, Numbers; 02, 2/12)
unfoldable pub read_number : Aintc → ℕ → ℕ → ℕ
read_number s p o = access_number (sound s) p (barred s.guarded p o) (read_refusal true o (access o))

unfoldable pub write_number : Aintc → ℕ → ℕ → ℕ
write_number s p o = access_number (sound s) p (barred s.guarded p o) (write_refusal true o (access o) carried_out)

unfoldable pub line_number : Aintc → ℕ → ℕ → ℕ
line_number s k l = line_refusal (sound s) 128 k l

-- a read changes nothing; after a write and after a line step each output with none chosen takes its first (000, 4.3.1.2.3)
unfoldable pub read : Aintc → ℕ → ℕ → Answer
read s p o = pick (eqb (read_number s p o) carried_out) (answered s (read_at s o)) (refused s (read_number s p o))

unfoldable pub write : Aintc → ℕ → ℕ → ℕ → Answer
write s p o v = pick (eqb (write_number s p o) carried_out) (answered (settle (written_at s o v)) 0) (refused s (write_number s p o))

unfoldable pub line : Aintc → ℕ → ℕ → Answer
line s k l = pick (eqb (line_number s k l) carried_out) (answered (settle (moved s k (eqb l 1))) 0) (refused s (line_number s k l))

-- a step of a recorded trace; a line step has no privilege (02, 2/12)
abbrev pub step : Aintc → ℕ → Step → Answer
step s p (Read o) = read s p o
step s p (Write o v) = write s p o v
step s p (Line k l) = line s k l

-- an output is active exactly if one is chosen for it; of a record that breaks a rule 12 and nothing else (02, 2/12)
unfoldable pub outputs : Aintc → Signals
outputs s =
    pick (sound s)
    (record { refusal = carried_out; irq = s.irq.active; fiq = s.fiq.active; number = s.irq.number })
    (record { refusal = unsound; irq = false; fiq = false; number = 0 })
