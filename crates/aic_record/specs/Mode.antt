-- The fields of a source mode (01, AIC, Mode; 003, 27.8.3).
use Rattle.std.specs.Prelude.{ℕ, ◌+◌, ◌*◌, ◌/◌, ◌%◌, Bool, eqb, get_or}
use Rattle.aic_record.specs.declared.Aic.{Aic}

-- bits 2:0, the priority: 7 is the highest
abbrev pub priority_of : ℕ → ℕ
priority_of mode = mode % 8

-- bits 6:5, the type
abbrev pub type_of : ℕ → ℕ
type_of mode = mode / 32 % 4

-- the bits of a written mode that are kept
abbrev pub kept_mode : ℕ → ℕ
kept_mode mode = type_of mode * 32 + priority_of mode

-- types 1 and 3 are edge-triggered, types 0 and 2 level-sensitive
abbrev pub edge_of : ℕ → Bool
edge_of mode = eqb (type_of mode % 2) 1

-- the mode of source k
abbrev pub mode_at : Aic → ℕ → ℕ
mode_at s k = get_or s.mode k 0

-- the priority of source k
unfoldable pub priority : Aic → ℕ → ℕ
priority s k = priority_of (mode_at s k)

-- the type of source k
unfoldable pub kind : Aic → ℕ → ℕ
kind s k = type_of (mode_at s k)

-- source k is edge-triggered
unfoldable pub edge : Aic → ℕ → Bool
edge s k = edge_of (mode_at s k)
