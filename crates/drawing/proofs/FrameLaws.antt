-- Texts of the frame, put together from their parts.
use Prim.Native.Nat.{ℕ, ◌+◌, ◌-◌}
use mathlib.Core.Path.{◌≡◌, sym, ap, ◌∙◌}
use mathlib.Core.List.{List, ◌++◌}
use native.Mathlib.Numerals.{add-one}
use Rattle.text.specs.Text.{write}
use Rattle.text.proofs.WriteLaws.{and_then, nothing}
use Rattle.text.specs.Phrases.{bytes, counted}
use Rattle.drawing.specs.Shapes.{top, centred}
use Rattle.drawing.specs.Frame.{wide, title, rows}

pub title-made : (first n w last : ℕ) → w ≡ wide n → last ≡ first + n - 1
    → counted (bytes "<svg xmlns=\"http://www.w3.org/2000/svg\" font-family=\"sans-serif\" font-size=\"10\" height=\"390\" width=\"") w
    ++ bytes "\">\n<rect width=\"100%\" height=\"100%\" fill=\"white\"/>\n" ++ counted (bytes "<text x=\"8\" y=\"14\">AIC, steps ") first ++ counted (bytes " to ") last
    ++ bytes " of the trace: a column is one step, and shows what holds after it</text>\n"
    ≡ title first n
unfolding title
title-made first n w last e f = rw (e, f)

-- ---- rows

pub rows_none : (o : List ℕ × ℕ) → o ≡ write o (rows 0)
unfolding rows
rows_none o = nothing o

pub rows_more : (o p q : List ℕ × ℕ) (n y : ℕ) → y ≡ top n + 18 → p ≡ write o (rows n) → q ≡ write p (centred 52 y (n + 1)) → q ≡ write o (rows (n + 1))
unfolding rows
rows_more o p q n y t e f =
    and_then o (rows n) (centred 52 (top n + 18) (n + 1)) e (f ∙ ap (λ (y : ℕ). write p (centred 52 y (n + 1))) t)
    ∙ ap (λ (n : ℕ). write o (rows n)) (sym (add-one n))
