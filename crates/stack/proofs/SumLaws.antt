-- What the loops over a table come to, and that the sum fits.
use Prim.Native.Nat.{ℕ, zero, suc, ◌+◌, ◌*◌, ◌≤◌, ◌<◌, max}
use mathlib.Core.Path.{◌≡◌, refl}
use mathlib.Core.Bool.{Bool, true, false}
use native.Mathlib.Omega.{arith}
use native.Mathlib.Numerals.{add-one}
use lib.Dec.{leb}
use lib.ListN.{get_or}
use borrow.Author.Tests.{leb-true}
use Rattle.words.specs.Choice.{pick}
use Rattle.words.specs.Counting.{sum_below}
use Rattle.words.proofs.TruthLaws.{and_left, and_right}
use Rattle.words.proofs.CountingLaws.{all_at}
use Rattle.stack.specs.declared.Table.{Table}
use Rattle.stack.specs.Bytes.{is_of, taller, largest, level_bytes, source_within, within_limits}

pub largest-none : (t : Table) (l : ℕ) → t.mark ≡ largest t l 0
unfolding largest
largest-none t l = refl

pub largest-more : (t : Table) (l b r i : ℕ) → b ≡ largest t l i → r ≡ taller t l b i → r ≡ largest t l (i + 1)
unfolding largest
largest-more t l b r i e f = rw (add-one, f, e)

pub sum-none : (t : Table) → 0 ≡ sum_below 0 (level_bytes t)
unfolding sum_below
sum-none t = refl

pub sum_more : (t : Table) (a b l : ℕ) → a ≡ sum_below l (level_bytes t) → b ≡ level_bytes t l → a + b ≡ sum_below (l + 1) (level_bytes t)
unfolding sum_below
sum_more t a b l e f = rw (add-one, e, f)

-- ---- the limits, one by one

module _ (t : Table) (fits : within_limits t ≡ true) where
  pub mark_small : t.mark ≤ 65535
  unfolding within_limits
  mark_small = leb-true t.mark 65535 (and_left (leb t.mark 65535) _ fits)

  sources : (i : ℕ) → i < 32 → source_within t i ≡ true
  unfolding within_limits
  sources = all_at 32 (source_within t) (and_right (leb t.mark 65535) _ fits)

  pub level_small : (i : ℕ) → i < 32 → get_or t.priority i 0 ≤ 7
  unfolding source_within
  level_small i l = leb-true (get_or t.priority i 0) 7 (search (and_left, and_right, sources i l))

  pub kind_small : (i : ℕ) → i < 32 → get_or t.kind i 0 ≤ 3
  unfolding source_within
  kind_small i l = leb-true (get_or t.kind i 0) 3 (search (and_left, and_right, sources i l))

  pub frame_small : (i : ℕ) → i < 32 → get_or t.frame i 0 ≤ 65535
  unfolding source_within
  frame_small i l = leb-true (get_or t.frame i 0) 65535 (search (and_left, and_right, sources i l))

  taller_small : (l b i : ℕ) → b ≤ 65535 → get_or t.frame i 0 ≤ 65535 → taller t l b i ≤ 65535
  unfolding taller pick
  taller_small l b i h g = go (is_of t l i)
    where
      go : (c : Bool) → pick c (max b (get_or t.frame i 0)) b ≤ 65535
      go true = omega arith
      go false = h

  largest_small : (l n : ℕ) → n ≤ 32 → largest t l n ≤ 65535
  unfolding largest
  largest_small l zero s = mark_small
  largest_small l (suc n) s = taller_small l (largest t l n) n (largest_small l n (omega arith)) (frame_small n (omega arith))

  pub bytes_small : (l : ℕ) → level_bytes t l ≤ 65535
  unfolding level_bytes
  bytes_small l = largest_small l 32 (omega arith)

  pub sum_small : (n : ℕ) → sum_below n (level_bytes t) ≤ 65535 * n
  unfolding sum_below
  sum_small zero = omega arith
  sum_small (suc n) = omega (arith, sum_small n, bytes_small n)
