-- The numbers of one source after a step, the word of the sources that wait, and what the entries of a record tell of a start.
use Prim.Native.Nat.{ℕ, ◌+◌, ◌≤◌, ◌<◌}
use mathlib.Core.Path.{◌≡◌, sym, ◌∙◌}
use mathlib.Core.Bool.{Bool, true, false, not, ◌&&◌}
use native.Mathlib.Omega.{arith}
use native.Mathlib.Decide.{dec_lt}
use lib.Dec.{ltb}
use Rattle.std.specs.Prelude.{min}
use borrow.Author.Tests.{le-leb, lt-leb, ne_eqb}
use Rattle.words.specs.Choice.{pick}
use Rattle.words.specs.Counting.{one}
use Rattle.aic_record.specs.declared.Aic.{Aic}
use Rattle.aic_record.specs.Sound.{source_at}
use Rattle.aic_waits.specs.Figures.{wait_next}
use Rattle.aic_waits.specs.Following.{capped, started_from}

pub capped_is : (n : ℕ) → n ≤ 4294967295 → n ≡ capped n
unfolding capped pick
capped_is n l = rw (le-leb n 4294967295 l)

-- ---- a sum that stays at the largest number of 32 bits

pub capped-top : (n : ℕ) → n ≤ 4294967295 → 4294967295 ≤ n → n ≡ capped (n + 1)
unfolding capped pick
capped-top n l m = let h : n ≡ 4294967295 = omega arith in rw h

pub capped-min : (n r : ℕ) → r ≡ min n 4294967295 → r ≡ capped n
unfolding capped pick
capped-min n r e = go (dec_lt 4294967295 n)
  where
    go : Dec (4294967295 < n) → r ≡ capped n
    go (yes l) = rw (lt-leb n 4294967295 l) (omega (arith, e))
    go (no l) = omega (arith, e) ∙ capped_is n (omega arith)

-- ---- how it stands with a source

pub wait-ended : (w : ℕ) (waits own other : Bool) → not waits ≡ true → ◌≡◌ {A = ℕ} 0 (capped (wait_next w waits own other))
unfolding wait_next capped pick
wait-ended w waits own other e = rw e

pub wait_started : (w : ℕ) (waits own other : Bool) → not waits ≡ false → own ≡ true → ◌≡◌ {A = ℕ} 1 (capped (wait_next w waits own other))
unfolding wait_next capped pick
wait_started w waits own other e f = rw (e, f)

pub wait-begun : (w : ℕ) (waits own other : Bool) → not waits ≡ false → own ≡ false → w ≡ 0 → ◌≡◌ {A = ℕ} 2 (capped (wait_next w waits own other))
unfolding wait_next capped pick
wait-begun w waits own other e f z = rw (e, f, z)

pub wait_on : (w : ℕ) (waits own other : Bool) (r : ℕ) → not waits ≡ false → own ≡ false → (w ≡ 0 → ⊥) → r ≡ capped (w + one (ltb 1 w && other)) → r ≡ capped (wait_next w waits own other)
unfolding wait_next pick
wait_on w waits own other r e f z g = rw (e, f, ne_eqb w 0 z) g

-- ---- what the entries tell

pub none_more : (d : ℕ) (t : Aic) → t.depth ≤ d → 32 ≡ started_from d t
unfolding started_from pick
none_more d t l = rw (le-leb t.depth d l)

pub mark-more : (d : ℕ) (t : Aic) (k : ℕ) → d < t.depth → k ≡ source_at t d → k ≡ 0 → 32 ≡ started_from d t
unfolding started_from pick
mark-more d t k l e z = rw (lt-leb t.depth d l, sym e, z)

pub some_more : (d : ℕ) (t : Aic) (k : ℕ) → d < t.depth → k ≡ source_at t d → (k ≡ 0 → ⊥) → k ≡ started_from d t
unfolding started_from pick
some_more d t k l e z = rw (lt-leb t.depth d l, sym e, ne_eqb k 0 z)
