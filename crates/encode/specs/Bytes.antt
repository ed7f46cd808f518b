-- Numbers as they are written into a trace, each in its shortest form (01, "House trace").
use Rattle.std.specs.Prelude.{ℕ, zero, suc, ◌+◌, ◌/◌, ◌%◌, List, [], ◌∷◌, ◌++◌, ltb}
use Rattle.words.specs.Choice.{pick}

-- groups of seven bits, the lowest first, up to the last that is not 0; all but that one with the top bit set; at most so many (01, House trace)
unfoldable pub groups : ℕ → ℕ → List ℕ
groups zero v = []
groups (suc most) v = pick (ltb v 128) (v ∷ []) ((128 + v % 128) ∷ groups most (v / 128))

-- the shortest form of a number: five groups are enough for 32 bits
abbrev pub shortest : ℕ → List ℕ
shortest v = groups 5 v

-- numbers one after the other
unfoldable pub bytes_of : List ℕ → List ℕ
bytes_of [] = []
bytes_of (v ∷ vs) = shortest v ++ bytes_of vs
