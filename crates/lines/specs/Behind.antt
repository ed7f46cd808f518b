-- A line without its number, which a loop may keep as text.
use Rattle.std.specs.Prelude.{ℕ, List, [], ◌∷◌, ◌++◌}
use Rattle.text.specs.Text.{space, newline, hex, field}
use Rattle.machine.specs.declared.record.Columns.{Columns}

-- what follows the number of a line: its letter, eight digits and three decimals (01, House trace)
unfoldable pub behind : ℕ → ℕ → Columns → List ℕ
behind letter value c =
    (space ∷ []) ++ (letter ∷ []) ++ (space ∷ []) ++ hex value ++ field c.first ++ field c.second ++ field c.third ++ (newline ∷ [])
