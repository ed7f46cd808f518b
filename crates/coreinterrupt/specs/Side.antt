-- One side of the controller, FIQ and IRQ alike: its sources, its six registers and its output (01, CoreInterrupt; 004, Programmer's Model).
use Rattle.std.specs.Prelude.{ℕ, ◌≡◌, ◌≤◌, Bool, not, ◌&&◌, [], ◌∷◌, eqb, ltb, leb, get_or, Option, Some, None}
use Rattle.words.specs.Choice.{pick}
use Rattle.words.specs.Word.{either, both, without, with_bit, kept, clean}
use Rattle.steps.specs.declared.Access.{Access}
use Rattle.steps.specs.declared.Access.TheVariants.{NoRegister, ReadOnly, WriteOnly, ReadWrite}
use Rattle.coreinterrupt.specs.declared.sides.Side.{Side}
use Rattle.coreinterrupt.specs.declared.sides.Register.{Register}
use Rattle.coreinterrupt.specs.declared.sides.Register.TheVariants.{Soft, SoftClear, Enable, EnableClear, Raw, Status}

-- ---- the record, written out once for each field that moves

-- a side with this number of sources and this active level, its lines low and its registers 0 (01, CoreInterrupt; 004, table 3, reset values)
abbrev pub idle : ℕ → ℕ → Side
idle n l = record { count = n; level = l; inputs = 0; soft = 0; enable = 0 }

-- the side with its lines as the word w says
abbrev pub with_inputs : Side → ℕ → Side
with_inputs s w = record { count = s.count; level = s.level; inputs = w; soft = s.soft; enable = s.enable }

-- the side with w in its soft register
abbrev pub with_soft : Side → ℕ → Side
with_soft s w = record { count = s.count; level = s.level; inputs = s.inputs; soft = w; enable = s.enable }

-- the side with w in its enable register
abbrev pub with_enable : Side → ℕ → Side
with_enable s w = record { count = s.count; level = s.level; inputs = s.inputs; soft = s.soft; enable = w }

-- ---- raw, status and the output

-- a source is raised by its line or by software (01, CoreInterrupt; 004, FIQRawStatus, IRQRawStatus)
unfoldable pub raw : Side → ℕ
raw s = either s.inputs s.soft

-- the raised sources that are enabled (01, CoreInterrupt; 004, FIQStatus, IRQStatus)
unfoldable pub status : Side → ℕ
status s = both (raw s) s.enable

-- the output is active if the status is not 0 (01, CoreInterrupt)
unfoldable pub active : Side → Bool
active s = not (eqb (status s) 0)

-- the level that is not this one
abbrev pub other : ℕ → ℕ
other l = pick (eqb l 0) 1 0

-- the active level while the output is active, else the other (01, CoreInterrupt; 004, table 2, Active Level)
unfoldable pub output_level : Side → ℕ
output_level s = pick (active s) s.level (other s.level)

-- ---- the six registers, by number: 0 soft, 1 soft clear, 2 enable, 3 enable clear, 4 raw, 5 status

-- the register of a number, or none past the last (01, CoreInterrupt; 004, table 3)
abbrev pub Numbered : Option Register → ℕ → Type 0
Numbered (Some Soft) i = i ≡ 0
Numbered (Some SoftClear) i = i ≡ 1
Numbered (Some Enable) i = i ≡ 2
Numbered (Some EnableClear) i = i ≡ 3
Numbered (Some Raw) i = i ≡ 4
Numbered (Some Status) i = i ≡ 5
Numbered None i = 6 ≤ i

-- the clears are write-only; where there are no sources they may be read as well (01, CoreInterrupt; 004, FIQSoftIntClear and the like)
unfoldable pub clear_access : Side → Access
clear_access s = pick (eqb s.count 0) ReadWrite WriteOnly

-- what each register may be used for (01, CoreInterrupt; 004, table 3)
unfoldable pub side_access : Side → ℕ → Access
side_access s i = get_or (ReadWrite ∷ clear_access s ∷ ReadWrite ∷ clear_access s ∷ ReadOnly ∷ ReadOnly ∷ []) i NoRegister

-- what each register answers (01, CoreInterrupt)
unfoldable pub side_read : Side → ℕ → ℕ
side_read s i = get_or (s.soft ∷ 0 ∷ s.enable ∷ 0 ∷ raw s ∷ status s ∷ []) i 0

-- the word w with the bits written as 1 set; those from n on are dropped (01, CoreInterrupt)
unfoldable pub set_bits : ℕ → ℕ → ℕ → ℕ
set_bits n w v = either w (kept n v)

-- the word w with the bits written as 1 cleared; those from n on are dropped (01, CoreInterrupt)
unfoldable pub clear_bits : ℕ → ℕ → ℕ → ℕ
clear_bits n w v = without w (kept n v)

-- the side after the value v is written to a register that takes it (01, CoreInterrupt; 004, FIQSoftInt to FIQEnableClear)
unfoldable pub side_write : Side → ℕ → ℕ → Side
side_write s i v =
    get_or
    (with_soft s (set_bits s.count s.soft v)
    ∷ with_soft s (clear_bits s.count s.soft v)
    ∷ with_enable s (set_bits s.count s.enable v)
    ∷ with_enable s (clear_bits s.count s.enable v)
    ∷ [])
    i s

-- ---- the lines

-- the side after its input k is put high or low; an input beyond the count is not stored (01, CoreInterrupt; 004, table 2, Number of Sources)
unfoldable pub moved : Side → ℕ → Bool → Side
moved s k high = pick (ltb k s.count) (with_inputs s (with_bit s.inputs k high)) s

-- ---- soundness

-- the count within the side's inputs, the active level 0 or 1, no stored bit beyond the count (01, CoreInterrupt)
unfoldable pub side_sound : ℕ → Side → Bool
side_sound limit s =
    leb s.count limit && leb s.level 1 && clean s.count s.inputs && clean s.count s.soft && clean s.count s.enable
