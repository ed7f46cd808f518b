-- Where an offset stands to a group.
use Prim.Native.Nat.{ℕ, ◌-◌, ◌/◌, ◌%◌, ◌≤◌, ◌<◌}
use mathlib.Core.Path.{◌≡◌, sym, ap}
use mathlib.Core.Bool.{Bool, false, ◌&&◌}
use lib.Dec.{eqb, ltb}
use borrow.Author.Tests.{le-leb, lt-leb}
use Rattle.register_names.specs.Rows.{in_group}

-- before the first of a group, and from it on
pub below-group : (first count step o : ℕ) → o < first → false ≡ in_group first count step o
unfolding in_group
below-group first count step o h = ap (λ (t : Bool). t && (eqb ((o - first) % step) 0 && ltb ((o - first) / step) count)) (sym (lt-leb first o h))

pub from-group : (first count step o : ℕ) → first ≤ o → (eqb ((o - first) % step) 0 && ltb ((o - first) / step) count) ≡ in_group first count step o
unfolding in_group
from-group first count step o h = ap (λ (t : Bool). t && (eqb ((o - first) % step) 0 && ltb ((o - first) / step) count)) (sym (le-leb first o h))
