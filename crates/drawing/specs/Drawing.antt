-- The drawing as SVG: its frame, what each column shows, and the bars.
use Rattle.std.specs.Prelude.{ℕ, zero, suc, ◌+◌, ◌-◌, List, [], ◌∷◌, ◌++◌, length}
use Rattle.text.specs.Phrases.{bytes}
use Rattle.drawing.specs.Shapes.{active, refused, numbered, bar}
use Rattle.drawing.specs.Frame.{head, rows}
use Rattle.drawing.specs.Bars.{Column, Bar, column_at, bars}

-- ---- columns

-- the kth column, of a window whose first step has this number
unfoldable pub column_text : ℕ → ℕ → Column → List ℕ
column_text first k c = active 26 k c.irq ++ active 46 k c.fiq ++ refused k c.refusal ++ numbered k (first + k - 1)

-- n of them, from the kth on
unfoldable pub column_texts : ℕ → ℕ → List ℕ → ℕ → List ℕ
column_texts zero first ws k = []
column_texts (suc n) first ws k = column_text first k (column_at ws k) ++ column_texts n first ws (k + 1)

-- ---- bars

unfoldable pub bar_text : Bar → List ℕ
bar_text b = bar b.place b.from b.to b.source b.level

unfoldable pub bar_texts : List Bar → List ℕ
bar_texts [] = []
bar_texts (b ∷ bs) = bar_text b ++ bar_texts bs

-- ---- the whole

-- the drawing of a window whose first step has this number: its columns, and the sources and levels of the entries that were open before it
unfoldable pub drawing : ℕ → List ℕ → List ℕ → List ℕ → List ℕ
drawing first ws source level =
    head first (length ws - 1) ++ rows 8 ++ column_texts (length ws - 1) first ws 1 ++ bar_texts (bars ws source level) ++ bytes "</svg>\n"
