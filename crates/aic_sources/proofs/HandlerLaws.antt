-- A candidate beside the open entries: its number, room for it, and its priority above the level of the last one.
use Prim.Native.Nat.{ℕ, ◌≤◌, ◌<◌}
use mathlib.Core.Path.{◌≡◌, refl}
use mathlib.Core.Bool.{Bool, true, false, not, ◌&&◌, ◌||◌}
use native.Mathlib.Omega.{arith}
use native.Mathlib.Nat.{mod-lt}
use lib.Dec.{eqb, ltb}
use borrow.Author.Tests.{eqb-false, ltb-true, lt-ltb, not-true}
use Rattle.words.specs.Word.{bit}
use Rattle.words.proofs.TruthLaws.{and_left, and_right, and_both, clash}
use Rattle.aic_record.specs.declared.Aic.{Aic}
use Rattle.aic_record.specs.Mode.{priority, mode_at}
use Rattle.aic_record.specs.Sound.{level_below}
use Rattle.aic_record.specs.Promises.{Over}
use Rattle.aic_record.proofs.SoundLaws.{over-is, is-over}
use Rattle.aic_sources.specs.Pending.{pending, asking}
use Rattle.aic_sources.specs.Fast.{fast}
use Rattle.aic_sources.specs.Normal.{waiting, above, candidate}

pub priority_small : (s : Aic) (k : ℕ) → priority s k ≤ 7
unfolding priority
priority_small s k = omega (arith, mod-lt (mode_at s k) {m = 8} (omega arith))

pub candidate-room : (s : Aic) (k : ℕ) → candidate s k ≡ true → s.depth < 8
unfolding candidate above
candidate-room s k c = ltb-true s.depth 8 (and_left (ltb s.depth 8) _ (and_right (waiting s k) _ c))

pub candidate-over : (s : Aic) (k : ℕ) → candidate s k ≡ true → Over (level_below s.level s.depth) (priority s k)
unfolding candidate above
candidate-over s k c = over-is (level_below s.level s.depth) (priority s k) (and_right (ltb s.depth 8) _ (and_right (waiting s k) _ c))

pub candidate-waits : (s : Aic) (k : ℕ) → candidate s k ≡ true → waiting s k ≡ true
unfolding candidate
candidate-waits s k c = and_left (waiting s k) _ c

pub waiting-is : (s : Aic) (k : ℕ) → waiting s k ≡ true → (pending s k ≡ true) × (bit s.enabled k ≡ true) × (fast s k ≡ false)
unfolding waiting asking
waiting-is s k w =
    let a : (pending s k && bit s.enabled k) ≡ true = and_left _ (not (fast s k)) w in
    (and_left (pending s k) _ a, and_right (pending s k) _ a, not-true (fast s k) (and_right (pending s k && bit s.enabled k) _ w))

pub is-candidate : (s : Aic) (k : ℕ) → pending s k ≡ true → bit s.enabled k ≡ true → fast s k ≡ false
    → s.depth < 8 → Over (level_below s.level s.depth) (priority s k) → candidate s k ≡ true
unfolding candidate waiting asking above
is-candidate s k p e f l o = and_both (and_both (and_both p e) (rw f)) (and_both (lt-ltb s.depth 8 l) (is-over _ _ o))

-- source 0 is fast, so never a candidate
pub candidate_source : (s : Aic) (k : ℕ) → candidate s k ≡ true → 1 ≤ k
unfolding fast
candidate_source s k c = go (eqb k 0) refl (waiting-is s k (candidate-waits s k c)).2
  where
    go : (t : Bool) → eqb k 0 ≡ t → (t || bit s.forced k) ≡ false → 1 ≤ k
    go true e h = clash refl h
    go false e h = omega (arith, eqb-false k 0 e)
