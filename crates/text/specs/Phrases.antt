-- Words in ASCII, and a number behind what it counts (02, 11/12).
use Rattle.std.specs.Prelude.{ℕ, List, [], ◌∷◌, ◌++◌}
use Prim.Native.Char.{code}
use Prim.Native.String.{String, [] as nil, ◌∷◌ as ◌then◌}
use Rattle.text.specs.Text.{decimal}

-- the bytes of a text in ASCII
unfoldable pub bytes : String → List ℕ
bytes nil = []
bytes (c then s) = code c ∷ bytes s

-- a number behind the words that say what it counts (02, 11/12)
unfoldable pub counted : List ℕ → ℕ → List ℕ
counted what n = what ++ decimal n
