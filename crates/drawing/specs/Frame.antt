-- What stands around the columns and bars of a drawing.
use Rattle.std.specs.Prelude.{ℕ, zero, suc, ◌+◌, ◌-◌, ◌*◌, List, [], ◌++◌, ltb}
use Rattle.words.specs.Choice.{pick}
use Rattle.text.specs.Phrases.{bytes, counted}
use Rattle.drawing.specs.Shapes.{left, top, centred}

-- the width of a drawing of n columns: never narrower than its words
unfoldable pub wide : ℕ → ℕ
wide n = pick (ltb n 26) 704 (80 + 24 * n)

-- what a column is, and which steps are drawn
unfoldable pub title : ℕ → ℕ → List ℕ
title first n =
    counted (bytes "<svg xmlns=\"http://www.w3.org/2000/svg\" font-family=\"sans-serif\" font-size=\"10\" height=\"390\" width=\"") (wide n)
    ++ bytes "\">\n<rect width=\"100%\" height=\"100%\" fill=\"white\"/>\n"
    ++ counted (bytes "<text x=\"8\" y=\"14\">AIC, steps ") first ++ counted (bytes " to ") (first + n - 1)
    ++ bytes " of the trace: a column is one step, and shows what holds after it</text>\n"

-- the rows with their names, and the axes
unfoldable pub axes : ℕ → List ℕ
axes n =
    bytes "<text x=\"8\" y=\"36\">IRQ</text>\n<text x=\"8\" y=\"56\">FIQ</text>\n<text x=\"8\" y=\"80\">refused by</text>\n<text x=\"8\" y=\"332\">steps</text>\n"
    ++ bytes "<text transform=\"translate(24 262) rotate(-90)\">entries open, at most 8</text>\n"
    ++ counted (bytes "<path d=\"M64 92V316H") (left (n + 1)) ++ bytes "\" fill=\"none\" stroke=\"black\"/>\n"

-- what the signs mean
unfoldable pub signs : List ℕ
signs =
    bytes "<text x=\"8\" y=\"352\">A bar is one open entry, from the step that opens it to the one that closes it or to the last one: S is its source, L its level;</text>\n"
    ++ bytes "<text x=\"8\" y=\"366\">a dashed bar is a spurious mark. A dark box says that the output is active.</text>\n"
    ++ bytes "<text x=\"8\" y=\"380\">A tick says that the step is refused, by the number under it.</text>\n"

unfoldable pub head : ℕ → ℕ → List ℕ
head first n = title first n ++ axes n ++ signs

-- the numbers of the first n rows, 1 to 8: how many entries are open with this one
unfoldable pub rows : ℕ → List ℕ
rows zero = []
rows (suc n) = rows n ++ centred 52 (top n + 18) (n + 1)
