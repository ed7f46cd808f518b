-- The registers of one side end after status: what the tables give past their ends.
use Prim.Native.Nat.{ℕ, ◌≤◌}
use mathlib.Core.Path.{◌≡◌, sym}
use mathlib.Core.List.{[], ◌∷◌}
use lib.ListN.{get_or-eq_default}
use Rattle.steps.specs.declared.Access.TheVariants.{NoRegister, ReadOnly, ReadWrite}
use Rattle.coreinterrupt.specs.declared.sides.Side.{Side}
use Rattle.coreinterrupt.specs.Side.{raw, status, with_soft, with_enable, clear_access, side_access, side_read, set_bits, clear_bits, side_write}

pub access-past : (s : Side) (i : ℕ) → 6 ≤ i → NoRegister ≡ side_access s i
unfolding side_access
access-past s i l = sym (get_or-eq_default (ReadWrite ∷ clear_access s ∷ ReadWrite ∷ clear_access s ∷ ReadOnly ∷ ReadOnly ∷ []) NoRegister l)

pub read_past : (s : Side) (i : ℕ) → 6 ≤ i → 0 ≡ side_read s i
unfolding side_read
read_past s i l = sym (get_or-eq_default (s.soft ∷ 0 ∷ s.enable ∷ 0 ∷ raw s ∷ status s ∷ []) 0 l)

pub write-past : (s : Side) (i v : ℕ) → 4 ≤ i → s ≡ side_write s i v
unfolding side_write
write-past s i v l =
    sym (get_or-eq_default
    (with_soft s (set_bits s.count s.soft v)
    ∷ with_soft s (clear_bits s.count s.soft v)
    ∷ with_enable s (set_bits s.count s.enable v)
    ∷ with_enable s (clear_bits s.count s.enable v)
    ∷ [])
    s l)
