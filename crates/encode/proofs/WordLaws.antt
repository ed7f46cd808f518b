-- Two words that are compared character by character.
use Prim.Native.Nat.{ℕ}
use mathlib.Core.Path.{◌≡◌, refl, ap}
use mathlib.Core.Bool.{Bool, ◌&&◌}
use mathlib.Core.List.{List, [], ◌∷◌}
use lib.Dec.{eqb}
use lib.Pointwise.{pointwise}
use Rattle.encode.specs.Words.{same}

pub same-is : (a b : List ℕ) → pointwise eqb a b ≡ same a b
unfolding same
same-is [] [] = refl
same-is [] (y ∷ ys) = refl
same-is (x ∷ xs) [] = refl
same-is (x ∷ xs) (y ∷ ys) = ap (λ (t : Bool). eqb x y && t) (same-is xs ys)
