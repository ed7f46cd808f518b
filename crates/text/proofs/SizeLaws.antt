-- How long a number behind what it counts is at most.
use Prim.Native.Nat.{ℕ, ◌+◌, ◌<◌, ◌≤◌, ◌^◌}
use mathlib.Core.List.{List}
use native.Mathlib.Omega.{arith}
use lib.ListN.{length, length-append}
use Rattle.text.specs.Text.{decimal}
use Rattle.text.proofs.DigitLaws.{length-below}
use Rattle.text.specs.Phrases.{counted}

-- a number of 32 bits has at most ten digits
pub length_word : (n : ℕ) → n < 2 ^ 32 → length (decimal n) ≤ 10
length_word n h = length-below 20 10 n (omega arith) (omega arith)

pub length-counted : (what : List ℕ) (n : ℕ) → n < 2 ^ 32 → length (counted what n) ≤ length what + 10
unfolding counted
length-counted what n h = simp length-append (omega (arith, length_word n h))

-- one of at most d digits
pub length_few : (what : List ℕ) (n d : ℕ) → 0 < d → n < 10 ^ d → length (counted what n) ≤ length what + d
unfolding counted
length_few what n d p h = simp length-append (omega (arith, length-below 20 d n p h))
