-- That `has_room` of src/lib.rt keeps its contract.
use Prim.Native.Nat.{ℕ, ◌+◌, ◌≤◌}
use mathlib.Core.Path.{◌≡◌}
use mathlib.Core.Bool.{true, false≢true}
use native.Mathlib.Omega.{arith}
use lib.Dec.{leb}
use borrow.Author.Tests.{leb-true}
use Rattle.lines.proofs.has_room.Goals as goal

-- m is the last place from which there is room
from-there : (at m length : ℕ) → leb at m ≡ true → m + 55 ≤ length → at + 55 ≤ length
from-there at m length e h = omega (arith, leb-true at m e)

pub returns-then-length-lt55 : goal.returns-then-length-lt55
returns-then-length-lt55 c = λ e. absurd (false≢true e)

pub returns : goal.returns
returns c = λ e. from-there _ _ _ e (omega (arith, c.if-length-lt55.false))
