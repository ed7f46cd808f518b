-- That `room` of src/main.rt keeps its contract.
use Prim.Native.Nat.{ℕ, ◌≤◌}
use mathlib.Core.List.{List}
use mathlib.Core.Path.{◌≡◌, sym, subst}
use native.Mathlib.Omega.{arith}
use lib.ListN.{length, replicate, length-replicate}
use Rattle.lines.specs.Listing.{listing_of}
use Rattle.lines.proofs.SizeLaws.{length_listing}
use Rattle.wisteria.proofs.room.Goals as goal

-- a listing of 20,000 steps, whose numbers have at most five digits
enough : (s : List ℕ) → length (listing_of s 20000) ≤ 580058
enough s = length_listing s 20000 5 (omega arith) (omega arith)

-- a room of so many bytes; the number stays a number, for to count it out would take long
fits : (k : ℕ) (r : List ℕ) → k ≡ length r → ((s : List ℕ) → length (listing_of s 20000) ≤ k) → (s : List ℕ) → length (listing_of s 20000) ≤ length r
fits k r e h s = subst (λ (n : ℕ). length (listing_of s 20000) ≤ n) e (h s)

pub returns : goal.returns
returns c = let long : 580058 ≡ length {A = ℕ} (replicate 580058 0) = sym (length-replicate {0} {A = ℕ} 580058 0) in
    record { value = long; any = fits 580058 (replicate 580058 0) long enough }
