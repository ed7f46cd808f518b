-- A text that is written goes no farther than it is long, and the buffer keeps its length.
use Prim.Native.Nat.{ℕ, ◌+◌, ◌<◌, ◌≤◌, ◌^◌}
use mathlib.Core.Path.{◌≡◌, refl}
use mathlib.Core.List.{List, [], ◌∷◌}
use native.Mathlib.Omega.{arith}
use lib.ListN.{length, set, length-set}
use Rattle.text.specs.Text.{write, decimal, field}
use Rattle.text.proofs.WriteLaws.{room, same_length, reach}
use Rattle.text.proofs.DigitLaws.{length-below}

-- what the functions here say of a text of at most k bytes
abbrev Stands : List ℕ × ℕ → List ℕ × ℕ → List ℕ → ℕ → Type 0
Stands o p a k = (p ≡ write o a) × ((p.1 ≤ o.1 + k) × (length p.0 ≡ length o.0))

stands : (o p : List ℕ × ℕ) (a : List ℕ) (k : ℕ) → length a ≤ k → p ≡ write o a → Stands o p a k
stands o p a k h e = (e, (reach o p a k e h, same_length o p a e))

-- a byte: here the distance is known
pub byte-stands : (l : List ℕ) (at b : ℕ) → at < length l
    → ((set l at b, at + 1) ≡ write (l, at) (b ∷ [])) × ((at + 1 ≡ at + 1) × (length (set l at b) ≡ length l))
byte-stands l at b h = (room l at b h, (refl, length-set l at b))

-- a number of 32 bits has at most ten digits
pub decimal-stands : (o p : List ℕ × ℕ) (n : ℕ) → n < 2 ^ 32 → p ≡ write o (decimal n) → Stands o p (decimal n) 10
decimal-stands o p n h e = stands o p (decimal n) 10 (length-below 20 10 n (omega arith) (omega arith)) e

pub field-stands : (o p : List ℕ × ℕ) (n : ℕ) → n < 2 ^ 32 → p ≡ write o (field n) → Stands o p (field n) 11
unfolding field
field-stands o p n h e = stands o p (field n) 11 (omega (arith, length-below 20 10 n (omega arith) (omega arith))) e
