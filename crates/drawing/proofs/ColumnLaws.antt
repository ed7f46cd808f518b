-- Texts of columns, one after the other.
use Prim.Native.Nat.{ℕ, zero, suc, ◌+◌, ◌-◌, ◌<◌, ◌≤◌}
use mathlib.Core.Path.{◌≡◌, refl}
use mathlib.Core.List.{List, [], ◌++◌}
use native.Mathlib.Omega.{arith}
use lib.ListN.{length}
use Rattle.drawing.specs.Bars.{column_at}
use Rattle.drawing.specs.Drawing.{column_text, column_texts}

columns-step : (first : ℕ) (ws : List ℕ) (k m n : ℕ) → n ≡ m + 1
    → column_text first k (column_at ws k) ++ column_texts m first ws (k + 1) ≡ column_texts n first ws k
unfolding column_texts
columns-step first ws k m zero h = absurd (omega arith)
columns-step first ws k m (suc n) h = let e : m ≡ n = omega arith in rw e

pub columns_on : (first : ℕ) (ws : List ℕ) (k : ℕ) → k < length ws
    → column_text first k (column_at ws k) ++ column_texts (length ws - (k + 1)) first ws (k + 1) ≡ column_texts (length ws - k) first ws k
columns_on first ws k h = columns-step first ws k (length ws - (k + 1)) (length ws - k) (omega arith)

pub columns-over : (first : ℕ) (ws : List ℕ) (k : ℕ) → length ws ≤ k → [] ≡ column_texts (length ws - k) first ws k
columns-over first ws k h = go (length ws - k) (omega arith)
  where
    go : (n : ℕ) → n ≡ 0 → [] ≡ column_texts n first ws k
    go zero e = unfold column_texts in refl
    go (suc n) e = absurd (omega arith)
