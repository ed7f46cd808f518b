-- Which numbers a beginning asks for: the kind, then those of its configuration (01, "House trace").
use Rattle.std.specs.Prelude.{ℕ, ◌<◌, ◌≡◌, true, List, [], ◌∷◌, length}
use Rattle.kinds.specs.Kinds.{is_kind, wanted}
use Rattle.kinds.specs.Promises.{Within}

-- a beginning that has been read as far as these numbers, the kind first, asks for another one
abbrev pub Wanting : List ℕ → Type 0
Wanting [] = Unit
Wanting (kind ∷ ns) = (is_kind kind ≡ true) × (Within kind 0 ns × (length ns < wanted kind))

-- these numbers configure a controller of a kind
abbrev pub Configures : ℕ → List ℕ → Type 0
Configures kind ns = (is_kind kind ≡ true) × (Within kind 0 ns × (length ns ≡ wanted kind))
