-- How much is held of a begun name.
use Rattle.std.proofs.Common.{ℕ, ◌≤◌, Option, None, Some, arith}
use Rattle.std.specs.Option.{unwrap_or, IfSome}

pub held_within : (o : Option ℕ) (k : ℕ) → IfSome o (λ n. n ≤ k) → unwrap_or o 0 ≤ k
held_within None k h = omega arith
held_within (Some n) k h = h
