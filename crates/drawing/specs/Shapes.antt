-- The shapes of a drawing as SVG: steps go to the right, a column of 24 for each, places of the stack upwards, a row of 28 for each.
use Rattle.std.specs.Prelude.{ℕ, ◌+◌, ◌-◌, ◌*◌, ◌%◌, List, [], ◌++◌, eqb}
use Rattle.words.specs.Choice.{pick}
use Rattle.text.specs.Phrases.{bytes, counted}

-- ---- where things stand

-- the left edge of column k, of which the first is column 1
abbrev pub left : ℕ → ℕ
left k = 40 + 24 * k

-- its middle
abbrev pub middle : ℕ → ℕ
middle k = 52 + 24 * k

-- the top of a place's row, the lowest place at the bottom
abbrev pub top : ℕ → ℕ
top place = 288 - 28 * place

-- ---- shapes

-- a box: its left and top edge, its width and height, and how it looks
unfoldable pub box : ℕ → ℕ → ℕ → ℕ → List ℕ → List ℕ
box x y w h look =
    counted (bytes "<rect x=\"") x ++ counted (bytes "\" y=\"") y ++ counted (bytes "\" width=\"") w ++ counted (bytes "\" height=\"") h ++ bytes "\" " ++ look ++ bytes "/>\n"

-- a number behind a word, or alone, from a place on, or in the middle of it
unfoldable pub label : ℕ → ℕ → List ℕ → ℕ → List ℕ
label x y word n = counted (bytes "<text x=\"") x ++ counted (bytes "\" y=\"") y ++ counted (bytes "\">" ++ word) n ++ bytes "</text>\n"

unfoldable pub centred : ℕ → ℕ → ℕ → List ℕ
centred x y n = counted (bytes "<text text-anchor=\"middle\" x=\"") x ++ counted (bytes "\" y=\"") y ++ counted (bytes "\">") n ++ bytes "</text>\n"

-- ---- what each column has

-- an output that is active, in the row whose top is y
unfoldable pub active : ℕ → ℕ → ℕ → List ℕ
active y k on = pick (eqb on 0) [] (box (left k) y 24 14 (bytes "fill=\"#333\""))

-- a refused step: a tick, and the number of the refusal
unfoldable pub refused : ℕ → ℕ → List ℕ
refused k refusal = pick (eqb refusal 0) [] (counted (bytes "<path d=\"M") (middle k) ++ bytes " 64v8\" stroke=\"black\"/>\n" ++ centred (middle k) 84 refusal)

-- the number of every fifth step
unfoldable pub numbered : ℕ → ℕ → List ℕ
numbered k step = pick (eqb (step % 5) 0) (centred (middle k) 332 step) []

-- ---- bars

-- the box of a mark, from x on, and so wide
unfoldable pub mark : ℕ → ℕ → ℕ → List ℕ
mark x y w =
    box x y w 26 (bytes "fill=\"#ddd\" stroke=\"black\" stroke-dasharray=\"3 2\"")
    ++ counted (bytes "<text font-size=\"9\" x=\"") (x + 1) ++ counted (bytes "\" y=\"") (y + 17) ++ bytes "\">mark</text>\n"

-- and of a handler: S and its source over L and its level
unfoldable pub handler : ℕ → ℕ → ℕ → ℕ → ℕ → List ℕ
handler x y w source level =
    box x y w 26 (bytes "fill=\"white\" stroke=\"black\"") ++ label (x + 3) (y + 11) (bytes "S") source ++ label (x + 3) (y + 22) (bytes "L") level

-- an entry in a place, over the columns from one on and before another: a mark is of source 0 (02, 3/12)
unfoldable pub bar : ℕ → ℕ → ℕ → ℕ → ℕ → List ℕ
bar place from to source level =
    pick (eqb source 0) (mark (left from) (top place) (24 * (to - from))) (handler (left from) (top place) (24 * (to - from)) source level)
