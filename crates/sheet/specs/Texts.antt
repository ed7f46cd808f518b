-- The pieces of the page: a number with its unit, a cell that is found by the name of its figure, and texts one after the other (02, 11/12).
use Rattle.std.specs.Prelude.{ℕ, zero, suc, List, [], ◌∷◌, ◌++◌}
use Rattle.text.specs.Text.{decimal}
use Rattle.text.specs.Phrases.{bytes, counted}

-- a number with the word of what it counts: the unit is part of the figure (02, 4/12 and 11/12)
unfoldable pub amount : ℕ → List ℕ → List ℕ
amount n unit = decimal n ++ bytes " " ++ unit

-- the cell of a figure
unfoldable pub cell : List ℕ → ℕ → List ℕ → List ℕ
cell figure n unit = bytes "<td data-figure=\"" ++ figure ++ bytes "\">" ++ amount n unit ++ bytes "</td>"

-- how the cell of a source's figure begins
unfoldable pub cell_of : List ℕ → ℕ → List ℕ
cell_of figure i = bytes "<td data-figure=\"" ++ figure ++ counted (bytes "\" data-source=\"") i ++ bytes "\">"

-- that cell
unfoldable pub source_cell : List ℕ → ℕ → ℕ → List ℕ → List ℕ
source_cell figure i n unit = cell_of figure i ++ amount n unit ++ bytes "</td>"

-- the same where there is nothing to count
unfoldable pub empty_cell : List ℕ → ℕ → List ℕ
empty_cell figure i = cell_of figure i ++ bytes "-</td>"

-- what f makes of every element, in their order
unfoldable pub each : (ℕ → List ℕ) → List ℕ → List ℕ
each f [] = []
each f (x ∷ xs) = f x ++ each f xs

-- what f makes of the numbers below n, the highest first
unfoldable pub down : (ℕ → List ℕ) → ℕ → List ℕ
down f zero = []
down f (suc n) = f n ++ down f n
