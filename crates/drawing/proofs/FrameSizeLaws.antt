-- How long the frame of a drawing is at most.
use Prim.Native.Nat.{ℕ, zero, suc, ◌+◌, ◌-◌, ◌*◌, ◌^◌, ◌<◌, ◌≤◌}
use native.Mathlib.Omega.{arith}
use lib.Dec.{ltb}
use lib.ListN.{length, length-append}
use Rattle.words.proofs.ChoiceLaws.{pick_cases}
use Rattle.text.specs.Phrases.{bytes}
use Rattle.text.proofs.SizeLaws.{length_few}
use Rattle.drawing.specs.Shapes.{left, top}
use Rattle.drawing.proofs.ShapeSizeLaws.{length-centred}
use Rattle.drawing.specs.Frame.{wide, title, axes, signs, head, rows}

wide-most : (n : ℕ) → n ≤ 500 → wide n < 10 ^ 5
unfolding wide
wide-most n h = pick_cases (λ (w : ℕ). w < 10 ^ 5) (ltb n 26) (λ e. omega arith) (λ e. omega arith)

length-title : (first n : ℕ) → first ≤ 65536 → n ≤ 500 → length (title first n) ≤ 274
unfolding title bytes
length-title first n f h =
    simp length-append
    (omega (
      arith,
      length_few (bytes "<svg xmlns=\"http://www.w3.org/2000/svg\" font-family=\"sans-serif\" font-size=\"10\" height=\"390\" width=\"") (wide n) 5 (omega arith) (wide-most n h),
      length_few (bytes "<text x=\"8\" y=\"14\">AIC, steps ") first 5 (omega arith) (omega arith),
      length_few (bytes " to ") (first + n - 1) 5 (omega arith) (omega arith),
    ))

length-axes : (n : ℕ) → n ≤ 500 → length (axes n) ≤ 265
unfolding axes bytes
length-axes n h = simp length-append (omega (arith, length_few (bytes "<path d=\"M64 92V316H") (left (n + 1)) 5 (omega arith) (omega arith)))

length-signs : length signs ≤ 348
unfolding signs bytes
length-signs = omega arith

pub length-head : (first n : ℕ) → first ≤ 65536 → n ≤ 500 → length (head first n) ≤ 887
unfolding head
length-head first n f h = simp length-append (omega (arith, length-title first n f h, length-axes n h, length-signs))

pub length-rows : (n : ℕ) → n ≤ 8 → length (rows n) ≤ 51 * n
unfolding rows
length-rows zero h = omega arith
length-rows (suc n) h =
    simp length-append
    (omega (arith, length-centred 52 (top n + 18) (n + 1) 2 3 1 (omega arith) (omega arith) (omega arith) (omega arith) (omega arith) (omega arith), length-rows n (omega arith)))
