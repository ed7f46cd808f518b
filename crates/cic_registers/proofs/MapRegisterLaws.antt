-- Map registers byte by byte: what they read, and what a write puts.
use mathlib.Core.Path.{◌≡◌, sym, ap, ◌∙◌}
use mathlib.Core.Bool.{Bool, false, ◌&&◌}
use mathlib.Core.List.{List}
use Prim.Native.Nat.{ℕ, ◌+◌, ◌*◌, ◌/◌, ◌%◌, ◌<◌, ◌≤◌}
use native.Mathlib.Decide.{dec_lt, ℕ_discrete}
use native.Mathlib.Nat.{mod-lt}
use native.Mathlib.Omega.{arith}
use borrow.Author.Tests.{eq-eqb, ne_eqb, lt-ltb, le-ltb}
use lib.Dec.{eqb, ltb}
use lib.ListN.{get_or, length}
use Rattle.words.specs.Array.{byte_of}
use Rattle.words.specs.Choice.{pick}
use Rattle.words.proofs.ChoiceLaws.{pick_true, pick-false}
use Rattle.words.proofs.TruthLaws.{and_both}
use Rattle.cic_registers.specs.Maps.{map_read, map_put}
use Rattle.cic_registers.proofs.MapsPromises as maps

-- the four bytes that are read
pub read-bytes : (n : ℕ) (m : List ℕ) (k j : ℕ) → ((i : ℕ) → get_or m i 0 < 256) → j < 4 → byte_of (map_read n m k) j ≡ pick (ltb (4 * k + j) n) (get_or m (4 * k + j) 0) 0
read-bytes n m k j b l = go (dec_lt (4 * k + j) n)
  where
    go : Dec (4 * k + j < n) → byte_of (map_read n m k) j ≡ pick (ltb (4 * k + j) n) (get_or m (4 * k + j) 0) 0
    go (yes u) = (maps.kept).reads n m k j b l u ∙ pick_true 0 (lt-ltb (4 * k + j) n u)
    go (no u) = (maps.kept).reads_spare n m k j b l (omega arith) ∙ pick-false (get_or m (4 * k + j) 0) (le-ltb (4 * k + j) n (omega arith))

-- every byte after a write
pub put-bytes : (n k v : ℕ) (m : List ℕ) (i : ℕ) → n ≤ length m → get_or (map_put n k v m) i 0 ≡ pick (eqb (i / 4) k && ltb i n) (byte_of v (i % 4)) (get_or m i 0)
put-bytes n k v m i l = go (ℕ_discrete (i / 4) k) (dec_lt i n)
  where
    go : Dec (i / 4 ≡ k) → Dec (i < n) → get_or (map_put n k v m) i 0 ≡ pick (eqb (i / 4) k && ltb i n) (byte_of v (i % 4)) (get_or m i 0)
    go (yes e) (yes u) =
        let p : 4 * k + i % 4 ≡ i = omega arith in
        ap (λ (x : ℕ). get_or (map_put n k v m) x 0) (sym p) ∙ (maps.kept).puts n k v m (i % 4) (mod-lt i (omega arith)) (omega arith) (omega arith)
        ∙ pick_true (get_or m i 0) (and_both (eq-eqb (i / 4) k e) (lt-ltb i n u))
    go (yes e) (no u) =
        (maps.kept).puts_no_spare n k v m i (omega arith)
        ∙ pick-false (byte_of v (i % 4)) (ap (λ (t : Bool). eqb (i / 4) k && t) (le-ltb i n (omega arith)) ∙ ap (λ (t : Bool). t && false) (eq-eqb (i / 4) k e))
    go (no d) _ = (maps.kept).puts_no_other n k v m i d ∙ pick-false (byte_of v (i % 4)) (ap (λ (t : Bool). t && ltb i n) (ne_eqb (i / 4) k d))
