-- A label, put together from its parts.
use Prim.Native.Nat.{ℕ}
use mathlib.Core.Path.{◌≡◌}
use mathlib.Core.List.{List, ◌++◌, append_assoc}
use Rattle.text.specs.Phrases.{bytes, counted}
use Rattle.drawing.specs.Shapes.{label}

pub label-made : (x y : ℕ) (word : List ℕ) (n : ℕ)
    → counted (bytes "<text x=\"") x ++ counted (bytes "\" y=\"") y ++ bytes "\">" ++ counted word n ++ bytes "</text>\n" ≡ label x y word n
unfolding label counted
label-made x y word n = simp append_assoc
