-- What a step brings, read from the room that it meets.
use Prim.Native.Nat.{ℕ, ◌+◌, ◌-◌, ◌%◌, ◌<◌}
use mathlib.Core.Path.{◌≡◌, sym, ap, ◌∙◌}
use mathlib.Core.Bool.{Bool, true, false, not, ◌&&◌}
use mathlib.Core.List.{List}
use native.Mathlib.Omega.{arith}
use lib.Dec.{eqb}
use lib.ListN.{get_or}
use borrow.Author.Tests.{eq-eqb, ne_eqb}
use Rattle.words.specs.Choice.{pick}
use Rattle.words.specs.Word.{bit, word_of}
use Rattle.words.proofs.ChoiceLaws.{pick_true, pick-false}
use Rattle.words.proofs.TruthLaws.{clash}
use Rattle.words.proofs.WordLaws.{past-with_bit}
use Rattle.steps.specs.declared.Step.TheVariants.{Read, Write, Line}
use Rattle.trace.specs.Turns.{step_of}
use Rattle.aic_record.specs.declared.Aic.{Aic}
use Rattle.aic_record.specs.Mode.{edge}
use Rattle.aic_record.specs.Sound.{source_at, sound}
use Rattle.aic_record.proofs.SoundLaws.{sound-is}
use Rattle.aic_sources.specs.Pending.{active_at}
use Rattle.aic_sources.proofs.PendingLaws.{bit-edges}
use Rattle.aic_registers.specs.Map.{eoicr}
use Rattle.aic_registers.specs.Effects.{turns}
use Rattle.aic_room.specs.Room.{Laid}
use Rattle.aic_room.proofs.CellLaws.{depth_is, edges-is, source_is}
use Rattle.aic_room.proofs.EffectLaws.{low_told}
use Rattle.aic_bounds.specs.Following.{hot_last, no_marks, line_marks}

module _ {s : Aic} {room : List ℕ} (h : Laid s room) where
  -- ---- one source

  pub edge-told : (k : ℕ) → k < 32 → {x : Bool} → x ≡ bit (get_or room 13 0) k → x ≡ edge s k
  edge-told k l e = e ∙ ap (λ (w : ℕ). bit w k) (edges-is h) ∙ bit-edges s k l

  pub active-low : (k : ℕ) → k < 32 → (high : Bool) {x : Bool} → x ≡ bit (get_or room 16 0) k → x ≡ true → not high ≡ active_at s k high
  unfolding active_at
  active-low k l high {x} e p = pick_true high (sym (low_told h k l x e) ∙ p)

  pub active-high : (k : ℕ) → k < 32 → (high : Bool) {x : Bool} → x ≡ bit (get_or room 16 0) k → x ≡ false → high ≡ active_at s k high
  unfolding active_at
  active-high k l high {x} e p = pick-false (not high) (sym (low_told h k l x e) ∙ p)

  -- ---- the last entry

  pub last_at : sound s ≡ true → (d : ℕ) → d ≡ s.depth → (d ≡ 0 → ⊥) → get_or room (40 + (d - 1) % 8) 0 % 32 ≡ source_at s (s.depth - 1)
  last_at ok d e n =
      let r = sound-is s ok in
      let i : (d - 1) % 8 ≡ s.depth - 1 = omega (arith, e, n, r.entries) in
      let p = source_is h (s.depth - 1) (omega (arith, e, n, r.entries)) in
      let q = r.sources (s.depth - 1) (omega (arith, e, n)) in
      rw i (omega (arith, p, q))

  pub closed_some : (o : ℕ) {j r : ℕ} → (eqb o eoicr && not (eqb (get_or room 7 0) 0)) ≡ true → j ≡ source_at s (s.depth - 1) → r ≡ word_of 32 (hot_last s j)
      → r ≡ pick (eqb o eoicr && not (eqb s.depth 0)) (word_of 32 (hot_last s (source_at s (s.depth - 1)))) 0
  closed_some o p e q =
      q ∙ ap (λ (i : ℕ). word_of 32 (hot_last s i)) e ∙ pick_true 0 (ap (λ (d : ℕ). eqb o eoicr && not (eqb d 0)) (sym (depth_is h)) ∙ p)

  pub closed_none : (o : ℕ) → (eqb o eoicr && not (eqb (get_or room 7 0) 0)) ≡ false
      → 0 ≡ pick (eqb o eoicr && not (eqb s.depth 0)) (word_of 32 (hot_last s (source_at s (s.depth - 1)))) 0
  closed_none o p = pick-false (word_of 32 (hot_last s (source_at s (s.depth - 1)))) (ap (λ (d : ℕ). eqb o eoicr && not (eqb d 0)) (sym (depth_is h)) ∙ p)

pub not-zero : (d : ℕ) → not (eqb d 0) ≡ true → d ≡ 0 → ⊥
not-zero d e z = clash e (ap not (eq-eqb d 0 z))

-- ---- a line that no source has

pub line-past : (s : Aic) (k l : ℕ) → 31 < k → no_marks ≡ line_marks true s k l
line-past s k l p =
    rw (sym (past-with_bit 0 k (turns s k (eqb l 1) && edge s k) (omega arith) (omega (arith, p))), sym (past-with_bit 0 k (turns s k (eqb l 1) && not (edge s k)) (omega arith) (omega (arith, p))))

-- ---- the step of a turn

module _ (kind x y : ℕ) where
  pub step-read : kind ≡ 1 → step_of kind x y ≡ Read x
  unfolding step_of pick
  step-read e = rw (eq-eqb kind 1 e)

  pub step-write : (kind ≡ 1 → ⊥) → kind ≡ 2 → step_of kind x y ≡ Write x y
  unfolding step_of pick
  step-write n e = rw (ne_eqb kind 1 n, eq-eqb kind 2 e)

  pub step_line : (kind ≡ 1 → ⊥) → (kind ≡ 2 → ⊥) → step_of kind x y ≡ Line x y
  unfolding step_of pick
  step_line n o = rw (ne_eqb kind 1 n, ne_eqb kind 2 o)
