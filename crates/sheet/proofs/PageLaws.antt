-- What the functions of the page ask of names, levels and the order.
use Prim.Native.Nat.{ℕ, ◌+◌, ◌*◌, ◌/◌, ◌%◌, ◌<◌, ◌≤◌, max}
use mathlib.Core.Path.{◌≡◌, sym, ap, ap₂, ◌∙◌}
use mathlib.Core.Bool.{Bool, false}
use mathlib.Core.List.{List, [], ◌∷◌, ◌++◌}
use native.Mathlib.Decide.{dec_lt}
use native.Mathlib.Nat.{min-eq_left, div-le_self}
use native.Mathlib.Numerals.{add-one}
use native.Mathlib.Omega.{arith}
use lib.ListN.{length, take, drop}
use lib.Seq.{take_all, take-append_seam}
use Rattle.text.specs.Text.{hex_of, hex_digit, laid}
use Rattle.text.specs.Phrases.{bytes}
use Rattle.stack.specs.declared.Table.{Table}
use Rattle.stack.specs.Bytes.{level_bytes}
use Rattle.sheet.specs.Levels.{tallest, width}

-- ---- names

-- two digits, one after the other
pub told-hex : (b x y : ℕ) → x ≡ hex_digit (b / 16 % 16) → y ≡ hex_digit (b % 16) → bytes "\\x" ++ (x ∷ []) ++ (y ∷ []) ≡ bytes "\\x" ++ hex_of 2 b
unfolding hex_of bytes
told-hex b x y e f = rw (e, f)

-- ---- levels

pub tallest-more : (t : Table) (l m b r : ℕ) → m ≡ tallest t l → b ≡ level_bytes t l → r ≡ max m b → r ≡ tallest t (l + 1)
unfolding tallest
tallest-more t l m b r e f g = g ∙ ap₂ (λ (x y : ℕ). max x y) e f ∙ ap (tallest t) (sym (add-one l))

pub width_small : (most b : ℕ) → b < 4294967296 → width most b < 1889785610240
unfolding width
width_small most b h = omega (arith, div-le_self (b * 440) (max 1 most))

-- none below i passes, nor does i
pub none_more : (p : ℕ → Bool) (i : ℕ) → ((j : ℕ) → j < i → p j ≡ false) → p i ≡ false → (j : ℕ) → j < i + 1 → p j ≡ false
none_more p i h z j l = go (dec_lt j i)
  where
    go : Dec (j < i) → p j ≡ false
    go (yes q) = h j q
    go (no q) =
        let e : j ≡ i = omega arith in
        ap p e ∙ z

-- ---- the order

-- a text that finds room stands whole at the start
pub laid-taken : (p : List ℕ × ℕ) (l bs : List ℕ) → p ≡ laid l bs → length bs ≤ length l → take p.1 p.0 ≡ bs
unfolding laid
laid-taken p l bs e h =
    rw (e, min-eq_left h, take_all (length l) bs h) (take-append_seam bs (drop (length bs) l))
