-- The ranks of the open entries, the least priority above the level of each: they never fall, and rise at each handler.
use Prim.Native.Nat.{ℕ, zero, suc, ◌+◌, ◌≤◌, ◌<◌}
use mathlib.Core.Path.{◌≡◌, refl, sym, ap, ◌∙◌}
use mathlib.Core.List.{List}
use mathlib.Core.Logic.{◌≢◌, inl, inr}
use native.Mathlib.Omega.{arith}
use native.Mathlib.Numerals.{add-one}
use native.Mathlib.Decide.{ℕ_discrete}
use lib.ListN.{get_or}
use Rattle.aic_record.specs.declared.Aic.{Aic}
use Rattle.aic_record.specs.Sound.{source_at, level_at, no_level, level_below}
use Rattle.aic_record.specs.Passes.{floor_over}
use Rattle.aic_record.specs.Promises.{Over, Rules}
use Rattle.aic_record.proofs.PassLaws.{floor-free, floor-over}
use Rattle.aic_record.proofs.SoundLaws.{below_none, below_next}

floor-none : (l : ℕ) → l ≡ no_level → floor_over l ≡ 0
floor-none l e = sym (floor-free l l refl e)

pub floor-some : (l : ℕ) → l ≢ no_level → floor_over l ≡ l + 1
floor-some l d = sym (floor-over l l refl d)

floor-rises : (l p : ℕ) → Over l p → p ≤ 7 → floor_over l < floor_over p
floor-rises l p (inl e) s = omega (arith, floor-none l e, floor-some p (λ z. omega arith))
floor-rises l p (inr g) s = omega (arith, floor-some l (λ z. omega arith), floor-some p (λ z. omega arith))

below_suc : (level : List ℕ) (i : ℕ) → level_below level (suc i) ≡ get_or level i 0
below_suc level i = ap (level_below level) (sym (add-one i)) ∙ below_next level i

module _ (s : Aic) (r : Rules s) where
  abbrev pub rank : ℕ → ℕ
  rank d = floor_over (level_at s d)

  -- the rank of an entry is no less than that of the one below it
  steady : (i : ℕ) → i < s.depth → floor_over (level_below s.level i) ≤ rank i
  steady i l = go (ℕ_discrete (source_at s i) 0)
    where
      go : Dec (source_at s i ≡ 0) → floor_over (level_below s.level i) ≤ rank i
      go (yes z) = rw (r.marks i l z) (omega arith)
      go (no d) = omega (arith, floor-rises (level_below s.level i) (level_at s i) (r.above i l d) (r.levels i l d))

  below_all : (i j : ℕ) → i ≤ s.depth → j < i → rank j ≤ floor_over (level_below s.level i)
  below_all zero j l m = absurd (omega arith)
  below_all (suc i) j l m = rw (below_suc s.level i) (go (ℕ_discrete j i) (below_all i j (omega arith)))
    where
      go : Dec (j ≡ i) → (j < i → rank j ≤ floor_over (level_below s.level i)) → rank j ≤ rank i
      go (yes e) ih = rw e (omega arith)
      go (no d) ih = omega (arith, ih (omega arith), steady i (omega arith))

  -- a handler has a higher rank than every entry below it
  pub ranks_rise : (i j : ℕ) → i < j → j < s.depth → source_at s j ≢ 0 → rank i < rank j
  ranks_rise i j l m d = omega (arith, below_all j i (omega arith) l, floor-rises (level_below s.level j) (level_at s j) (r.above j m d) (r.levels j m d))

  below_small : (i : ℕ) → i ≤ s.depth → floor_over (level_below s.level i) ≤ 8
  below_small zero l = omega (arith, floor-none (level_below s.level 0) (below_none s.level))
  below_small (suc i) l = rw (below_suc s.level i) (go (ℕ_discrete (source_at s i) 0) (below_small i (omega arith)))
    where
      go : Dec (source_at s i ≡ 0) → floor_over (level_below s.level i) ≤ 8 → rank i ≤ 8
      go (yes z) ih = rw (r.marks i (omega arith) z) ih
      go (no d) ih = omega (arith, r.levels i (omega arith) d, floor-some (level_at s i) (λ z. omega (arith, r.levels i (omega arith) d)))

  pub ranks_small : (i : ℕ) → i < s.depth → rank i ≤ 8
  ranks_small i l = rw (← below_suc s.level i) (below_small (suc i) (omega arith))
