-- What the tests of a mode write and of a line step say of the record in the room.
use mathlib.Core.Path.{◌≡◌, sym, ap, ap₂, ◌∙◌}
use mathlib.Core.Bool.{Bool, true, false, not, ◌&&◌}
use mathlib.Core.List.{List}
use Prim.Native.Nat.{ℕ, ◌+◌, ◌<◌}
use borrow.Author.Tests.{eq-eqb, ne_eqb}
use lib.Dec.{eqb}
use lib.ListN.{get_or}
use Rattle.words.specs.Choice.{pick}
use Rattle.words.specs.Word.{bit}
use Rattle.words.proofs.WordLaws.{bit-word_of, bit-without}
use Rattle.aic_record.specs.declared.Aic.{Aic}
use Rattle.aic_record.specs.Mode.{type_of, kind, edge}
use Rattle.aic_sources.specs.Pending.{active_low, active_at, active}
use Rattle.aic_sources.specs.Search.{mode_word}
use Rattle.aic_sources.proofs.PendingLaws.{bit-edges, low_bit}
use Rattle.aic_registers.specs.Effects.{turns}
use Rattle.aic_room.specs.Room.{Laid}
use Rattle.aic_room.proofs.CellLaws.{lines-is, edges-is, low-is, mode-is}

module _ {a : Aic} {room : List ℕ} (h : Laid a room) (k : ℕ) (l : k < 32) where
  -- the type of a source is another than that written, or is that
  pub type-other : (t u v : ℕ) → t ≡ type_of (get_or room (64 + k) 0) → u ≡ type_of v → (t ≡ u → ⊥) → not (eqb (kind a k) (type_of v)) ≡ true
  unfolding kind
  type-other t u v e f d = ap not (ne_eqb (type_of (get_or a.mode k 0)) (type_of v) (λ z. d (e ∙ ap type_of (mode-is h k l) ∙ z ∙ sym f)))

  pub type-same : (t u v : ℕ) → t ≡ type_of (get_or room (64 + k) 0) → u ≡ type_of v → t ≡ u → not (eqb (kind a k) (type_of v)) ≡ false
  unfolding kind
  type-same t u v e f z = ap not (eq-eqb (type_of (get_or a.mode k 0)) (type_of v) (sym (e ∙ ap type_of (mode-is h k l)) ∙ z ∙ f))

  -- low is the active level of an external source whose mode has no bit 6
  pub low_told : (x : Bool) → x ≡ bit (get_or room 16 0) k → x ≡ active_low a k
  unfolding active_low kind mode_word
  low_told x e =
      e ∙ ap (λ (w : ℕ). bit w k) (low-is h) ∙ bit-without a.external (mode_word a.mode 6) k l
      ∙ ap (λ (t : Bool). bit a.external k && t) (ap not (bit-word_of 32 (λ j. bit (get_or a.mode j 0) 6) k l) ∙ low_bit (get_or a.mode k 0))

  -- a line step that turns an edge source active
  pub rises-told : (low line was edges will high : Bool) → low ≡ active_low a k → line ≡ bit (get_or room 1 0) k → was ≡ pick low (not line) line
      → edges ≡ bit (get_or room 13 0) k → will ≡ pick low (not high) high → (edges && (not was && will)) ≡ (edge a k && turns a k high)
  unfolding turns active active_at
  rises-told low line was edges will high e f g i j =
      ap₂ (λ (x y : Bool). x && y) (i ∙ ap (λ (w : ℕ). bit w k) (edges-is h) ∙ bit-edges a k l)
      (ap₂ (λ (x y : Bool). not x && y) (g ∙ ap₂ (λ (p q : Bool). pick p (not q) q) e (f ∙ ap (λ (w : ℕ). bit w k) (lines-is h)))
      (j ∙ ap (λ (p : Bool). pick p (not high) high) e))
