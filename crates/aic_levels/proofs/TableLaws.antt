-- A rule of a whole table: one test, computed over its entries from the first to the last, tells it of each.
use mathlib.Core.Path.{◌≡◌, refl, ◌∙◌, sym, ap}
use mathlib.Core.Bool.{Bool, true, ◌&&◌}
use mathlib.Core.List.{List, [], ◌∷◌, ◌++◌}
use Prim.Native.Nat.{ℕ, zero, suc, ◌+◌, ◌<◌}
use native.Mathlib.Nat.{add-zero, zero-add, add-suc, suc-add, le_of_suc-le-suc, not-suc-le-zero}
use borrow.Author.Tests.{eqb-true}
use lib.Dec.{eqb}
use lib.ListN.{length, get_or, replicate}
use Rattle.words.specs.Choice.{pick}
use Rattle.words.specs.Counting.{upto}
use Rattle.words.specs.Word.{bit}
use Rattle.words.proofs.TruthLaws.{and_left, and_right}
use Rattle.aic_levels.specs.Levels.{highest_of}

-- the test passes at each entry and its place, the first place being i
unfoldable every : (ℕ → ℕ → Bool) → ℕ → List ℕ → Bool
every f i [] = true
every f i (x ∷ xs) = f i x && every f (suc i) xs

-- so it passes at the entry that lies k places after the first
every-after : (f : ℕ → ℕ → Bool) (xs : List ℕ) (i : ℕ) → every f i xs ≡ true → (k : ℕ) → k < length xs → f (i + k) (get_or xs k 0) ≡ true
unfolding every
every-after f [] i t k l = absurd (not-suc-le-zero l)
every-after f (x ∷ xs) i t zero l = ap (λ (n : ℕ). f n x) (add-zero i) ∙ and_left (f i x) (every f (suc i) xs) t
every-after f (x ∷ xs) i t (suc k) l =
    ap (λ (n : ℕ). f n (get_or xs k 0)) (add-suc i k ∙ sym (suc-add i k)) ∙ every-after f xs (suc i) (and_right (f i x) (every f (suc i) xs) t) k (le_of_suc-le-suc l)

-- and at each entry of the whole table
every_at : (f : ℕ → ℕ → Bool) (xs : List ℕ) → every f 0 xs ≡ true → (k : ℕ) → k < length xs → f k (get_or xs k 0) ≡ true
every_at f xs t k l = ap (λ (n : ℕ). f n (get_or xs k 0)) (sym (zero-add k)) ∙ every-after f xs 0 t k l

-- ---- the table of the highest levels

-- one entry for the byte 0, then 1, 2, 4 .. 128 for the bytes whose highest level is 0, 1, 2 .. 7
abbrev table : List ℕ
table = 255 ∷ 0 ∷ (replicate 2 1 ++ replicate 4 2 ++ replicate 8 3 ++ replicate 16 4 ++ replicate 32 5 ++ replicate 64 6 ++ replicate 128 7)

-- an entry is the highest level of its place
unfoldable lists : ℕ → ℕ → Bool
lists b x = eqb x (highest_of b)

-- computed once, over all 256
whole : every lists 0 table ≡ true
unfolding every lists highest_of upto pick bit
whole = refl

pub listed : (b : ℕ) → b < 256 → get_or table b 0 ≡ highest_of b
unfolding lists
listed b l = eqb-true (get_or table b 0) (highest_of b) (every_at lists table whole b l)
