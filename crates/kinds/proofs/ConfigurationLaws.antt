-- Laws of configurations.
use Prim.Native.Nat.{ℕ, ◌≤◌}
use mathlib.Core.Path.{◌≡◌, sym, ap}
use mathlib.Core.List.{List}
use native.Mathlib.Omega.{arith}
use lib.ListN.{length}
use lib.Seq.{set_out}
use Rattle.kinds.specs.declared.Configuration.{Configuration}
use Rattle.kinds.specs.Configuration.{with_number}

-- past the last number nothing changes
pub number_past : (c : Configuration) (nth v : ℕ) → length c.numbers ≡ 5 → 5 ≤ nth → c ≡ with_number c nth v
unfolding with_number
number_past c nth v h l = ap (λ (ns : List ℕ). record { numbers = ns }) (sym (set_out c.numbers nth v (omega arith)))
