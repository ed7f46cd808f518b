-- That `room` of src/main.rt keeps its contract.
use Prim.Native.Nat.{ℕ, ◌≤◌}
use mathlib.Core.List.{List}
use mathlib.Core.Path.{◌≡◌, sym, subst}
use lib.ListN.{length, replicate, length-replicate}
use Rattle.picture.specs.Picture.{picture_of}
use Rattle.picture.proofs.Promises.{kept}
use Rattle.picture_run.proofs.room.Goals as goal

-- a room of so many bytes; the number stays a number, for to count it out would take long
fits : (k : ℕ) (r : List ℕ) → k ≡ length r → ((s : List ℕ) (first steps : ℕ) → length (picture_of s first steps) ≤ k) → (s : List ℕ) (first steps : ℕ) → length (picture_of s first steps) ≤ length r
fits k r e h s first steps = subst (λ (n : ℕ). length (picture_of s first steps) ≤ n) e (h s first steps)

pub returns : goal.returns
returns c = let long : 219082 ≡ length {A = ℕ} (replicate 219082 0) = sym (length-replicate {0} {A = ℕ} 219082 0) in
    record { value = long; any = fits 219082 (replicate 219082 0) long kept.most }
