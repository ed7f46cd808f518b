-- That `room` of src/main.rt keeps its contract.
use Prim.Native.Nat.{ℕ, ◌≤◌}
use mathlib.Core.List.{List}
use mathlib.Core.Path.{◌≡◌, sym, subst}
use lib.ListN.{length, replicate, length-replicate}
use Rattle.trace_bounds.specs.Listing.{bound_text}
use Rattle.trace_bounds.proofs.Promises.{kept}
use Rattle.bound_run.proofs.room.Goals as goal

-- a room of so many bytes; the number stays a number, for to count it out would take long
fits : (n : ℕ) (r : List ℕ) → n ≡ length r → ((s : List ℕ) (k : ℕ) → length (bound_text s k) ≤ n) → (s : List ℕ) (k : ℕ) → length (bound_text s k) ≤ length r
fits n r e h s k = subst (λ (m : ℕ). length (bound_text s k) ≤ m) e (h s k)

pub returns : goal.returns
returns c = let long : 1940334 ≡ length {A = ℕ} (replicate 1940334 0) = sym (length-replicate {0} {A = ℕ} 1940334 0) in
    record { value = long; any = fits 1940334 (replicate 1940334 0) long kept.most }
