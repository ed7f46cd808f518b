-- The two sides and the two outputs, from the words of the sources.
use mathlib.Core.Path.{◌≡◌, ap, ap₂, ◌∙◌}
use mathlib.Core.Bool.{Bool, not, ◌&&◌}
use Prim.Native.Nat.{ℕ, ◌+◌, ◌*◌}
use lib.Dec.{eqb, ltb}
use Rattle.words.specs.Counting.{one}
use Rattle.words.specs.Word.{bit, word_of, both, without}
use Rattle.words.proofs.WordLaws.{word_of-same, bit-word_of}
use Rattle.aic_record.specs.declared.Aic.{Aic}
use Rattle.aic_sources.specs.Pending.{asking, pending_word}
use Rattle.aic_sources.specs.Fast.{fast, fast_asks, masked, fiq}
use Rattle.aic_sources.specs.Normal.{waiting, chosen, irq}
use Rattle.aic_sources.specs.Search.{least_of, Found}
use Rattle.aic_sources.proofs.PendingLaws.{asking-by, fast_asks-by, waits_are}
use Rattle.aic_sources.proofs.SearchLaws.{Sees, chosen_by, chosen-some}

pub asks-from : (s : Aic) (p r : ℕ) → p ≡ pending_word s → r ≡ both p s.enabled → r ≡ word_of 32 (asking s)
asks-from s p r e f = f ∙ ap (λ (w : ℕ). both w s.enabled) e ∙ asking-by s

pub fast-from : (s : Aic) (f a m : ℕ) → f ≡ word_of 32 (fast s) → a ≡ word_of 32 (asking s) → m ≡ both f a → not (eqb m 0) ≡ fast_asks s
fast-from s f a m e g h = ap (λ (w : ℕ). not (eqb w 0)) (h ∙ ap₂ both e g) ∙ fast_asks-by s

pub chosen-from : (s : Aic) (f a w l r : ℕ) → f ≡ word_of 32 (fast s) → a ≡ word_of 32 (asking s) → w ≡ without a f → l ≡ least_of s
    → Found w s.mode l 32 r → r ≡ chosen s
unfolding Sees
chosen-from s f a w l r e g h i found =
    chosen_by s w r (λ k m. waits_are s w k (h ∙ ap₂ without g e) m) (rw i at found)

-- of the pending and enabled sources those that are not fast
pub waiting-from : (s : Aic) (a f r : ℕ) → a ≡ word_of 32 (asking s) → f ≡ word_of 32 (fast s) → r ≡ without a f → r ≡ word_of 32 (waiting s)
unfolding waiting without
waiting-from s a f r e g h =
    h ∙ ap₂ without e g
    ∙ word_of-same 32 _ (waiting s) (λ k l. ap₂ (λ (x y : Bool). x && not y) (bit-word_of 32 (asking s) k l) (bit-word_of 32 (fast s) k l))

pub irq-from : (s : Aic) (h : Bool) (r : ℕ) → h ≡ bit s.debug 1 → r ≡ chosen s → (not h && ltb r 32) ≡ irq s
unfolding irq masked
irq-from s h r e f = ap₂ (λ (a b : Bool). not a && b) e (ap (λ (n : ℕ). ltb n 32) f ∙ chosen-some s)

pub fiq-from : (s : Aic) (h f : Bool) → h ≡ bit s.debug 1 → f ≡ fast_asks s → (not h && f) ≡ fiq s
unfolding fiq masked
fiq-from s h f e g = ap₂ (λ (a b : Bool). not a && b) e g

pub bits-from : (s : Aic) (f i : Bool) (a b : ℕ) → f ≡ fiq s → i ≡ irq s → a ≡ one f → b ≡ one i → a + 2 * b ≡ one (fiq s) + 2 * one (irq s)
bits-from s f i a b e g h j = ap₂ (λ (x y : ℕ). x + 2 * y) (h ∙ ap one e) (j ∙ ap one g)
