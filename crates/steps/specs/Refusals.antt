-- The numbers given when a step is not carried out, and the order of the checks (01, "Numbers given when a step is not carried out").
use Rattle.std.specs.Prelude.{ℕ, ◌%◌, Bool, ◌&&◌, eqb, ltb, leb}
use Rattle.words.specs.Choice.{pick}
use Rattle.steps.specs.declared.Access.{Access}
use Rattle.steps.specs.declared.Access.TheVariants.{NoRegister, ReadOnly, WriteOnly, ReadWrite}

-- nothing is refused
abbrev pub carried_out : ℕ
carried_out = 0

-- the offset is no multiple of 4
abbrev pub misaligned : ℕ
misaligned = 1

-- no register is at the offset
abbrev pub absent : ℕ
absent = 2

-- a read of a write-only register
abbrev pub unreadable : ℕ
unreadable = 3

-- a write of a read-only register
abbrev pub unwritable : ℕ
unwritable = 4

-- the AIC's protect mode is asked for: given by no model since 02, 9/12
abbrev pub protecting : ℕ
protecting = 5

-- a line number, a line level, an index or a map byte is beyond its limit (01, Numbers), a privilege above 1 (02, 2/12), or a number or a level of a board
-- (02, 8/12)
abbrev pub beyond : ℕ
beyond = 6

-- the player's limit of steps is reached and bytes remain
abbrev pub limit_reached : ℕ
limit_reached = 7

-- a number of the trace is cut short, too large or too long (01, Numbers; 02, 1/12)
abbrev pub damaged : ℕ
damaged = 8

-- no such kind of controller or of step
abbrev pub unknown : ℕ
unknown = 9

-- a number of the configuration is beyond its limit
abbrev pub misconfigured : ℕ
misconfigured = 10

-- the trace has more than 65,536 bytes
abbrev pub too_long : ℕ
too_long = 11

-- the record breaks a rule of its model
abbrev pub unsound : ℕ
unsound = 12

-- an access without the privilege that it needs (02, 2/12)
abbrev pub unprivileged : ℕ
unprivileged = 13

-- a number of a stack table is beyond its limit (02, 4/12)
abbrev pub oversized : ℕ
oversized = 14

-- a wire of a board to the controller's own number or to a higher one (02, 8/12)
abbrev pub upward : ℕ
upward = 15

-- a total of handlers started would pass 4,294,967,295 (02, 11/12)
abbrev pub overfull : ℕ
overfull = 16

-- a file that cannot be opened or read (02, 11/12)
abbrev pub unopened : ℕ
unopened = 17

-- ---- privilege

-- the privilege of a step where the trace does not tell one: it bars nothing (02, 2/12)
abbrev pub privileged : ℕ
privileged = 1

-- ---- the order of the checks

-- what an aligned read is refused with
abbrev pub read_access : Access → ℕ
read_access NoRegister = absent
read_access ReadOnly = carried_out
read_access WriteOnly = unreadable
read_access ReadWrite = carried_out

-- what an aligned write is refused with; a value that may not stand in the register has its number in `value`, else 0
abbrev pub write_access : Access → ℕ → ℕ
write_access NoRegister value = absent
write_access ReadOnly value = unwritable
write_access WriteOnly value = value
write_access ReadWrite value = value

-- the checks of a read in their order: 12, 1, 2, 3
unfoldable pub read_refusal : Bool → ℕ → Access → ℕ
read_refusal sound offset access = pick sound (pick (eqb (offset % 4) 0) (read_access access) misaligned) unsound

-- the checks of a write in their order: 12, 1, 2, 4, then 5 or 6 for the value
unfoldable pub write_refusal : Bool → ℕ → Access → ℕ → ℕ
write_refusal sound offset access value = pick sound (pick (eqb (offset % 4) 0) (write_access access value) misaligned) unsound

-- the checks of a line step in their order: 12, then 6 for the line number or the level
unfoldable pub line_refusal : Bool → ℕ → ℕ → ℕ → ℕ
line_refusal sound inputs line level = pick sound (pick (ltb line inputs && leb level 1) carried_out beyond) unsound
