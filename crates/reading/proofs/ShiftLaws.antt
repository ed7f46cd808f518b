-- Bytes moved to the front of a room.
use Prim.Native.Nat.{ℕ, ◌+◌, ◌-◌, ◌≤◌, ◌<◌}
use mathlib.Core.Path.{◌≡◌, ap, sym, ◌∙◌}
use mathlib.Core.List.{List, ◌++◌}
use native.Mathlib.Omega.{arith}
use lib.ListN.{length, drop, length-drop}
use lib.Seq.{paste, take_all}
use Rattle.std.proofs.lemmas.List.{drop_all}
use Rattle.reading.specs.Shifted.{shifted}

-- all that stands from a place on is put before the rest
pub all_moved : (from : ℕ) (l : List ℕ) → from ≤ length l → paste l 0 (drop from l) (length l - from) ≡ shifted from l
unfolding shifted
all_moved from l h =
    let e : 0 + (length l - from) ≡ length l - from = omega arith in
    ap (λ (r : List ℕ). r ++ drop (0 + (length l - from)) l) (take_all (length l - from) (drop from l) (omega (arith, length-drop from l)))
    ∙ ap (λ (k : ℕ). drop from l ++ drop k l) e

-- nothing stands there
pub none_moved : (from : ℕ) (l : List ℕ) → length l < from → l ≡ shifted from l
unfolding shifted
none_moved from l h =
    let e : length l - from ≡ 0 = omega arith in
    ap (λ (k : ℕ). drop k l) (sym e) ∙ ap (λ (r : List ℕ). r ++ drop (length l - from) l) (sym (drop_all from l (omega arith)))
