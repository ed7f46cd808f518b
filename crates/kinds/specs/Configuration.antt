-- The numbers of a configuration (01, "House trace").
use Rattle.std.specs.Prelude.{ℕ, ◌+◌, List, [], ◌∷◌, get_or, set}
use Rattle.kinds.specs.declared.Configuration.{Configuration}

-- none yet
abbrev pub no_numbers : Configuration
no_numbers = record { numbers = 0 ∷ 0 ∷ 0 ∷ 0 ∷ 0 ∷ [] }

-- the nth put anew
unfoldable pub with_number : Configuration → ℕ → ℕ → Configuration
with_number c nth v = record { numbers = set c.numbers nth v }

-- these put one after the other from the nth on
unfoldable pub filled : Configuration → ℕ → List ℕ → Configuration
filled c nth [] = c
filled c nth (v ∷ vs) = filled (with_number c nth v) (nth + 1) vs

abbrev pub number_in : Configuration → ℕ → ℕ
number_in c nth = get_or c.numbers nth 0
