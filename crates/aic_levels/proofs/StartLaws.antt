-- After reset nothing is enabled, so no word of a level and no bit of the byte is set.
use mathlib.Core.Path.{◌≡◌, refl, sym, ap, ◌∙◌}
use mathlib.Core.Bool.{Bool, false, not, ◌&&◌, and-false}
use Prim.Native.Nat.{ℕ}
use borrow.Author.Tests.{eq-eqb}
use lib.Dec.{eqb}
use lib.ListN.{replicate}
use Rattle.words.specs.Word.{bit}
use Rattle.words.proofs.WordLaws.{bit-none, bit-some}
use Rattle.aic_record.specs.declared.Aic.{Aic}
use Rattle.aic_record.specs.Mode.{priority}
use Rattle.aic_record.specs.Record.{reset}
use Rattle.aic_sources.specs.Pending.{pending, asking}
use Rattle.aic_sources.specs.Fast.{fast}
use Rattle.aic_sources.specs.Normal.{waiting}
use Rattle.aic.specs.declared.Begun.{Begun}
use Rattle.aic.specs.Model as aic
use Rattle.aic_levels.specs.declared.Levels.{Levels}
use Rattle.aic_levels.specs.Levels.{level_word, any_of, levels_of}
use Rattle.aic_levels.specs.Model.{start}
use Rattle.aic_levels.proofs.LevelLaws.{level-bit, level_lt, any-bit, any_lt}

-- a source that is not enabled does not wait
pub idle : (s : Aic) (k : ℕ) → bit s.enabled k ≡ false → waiting s k ≡ false
unfolding waiting asking
idle s k e = ap (λ (b : Bool). (pending s k && b) && not (fast s k)) e ∙ ap (λ (b : Bool). b && not (fast s k)) (and-false (pending s k))

-- with none enabled every word is 0, and the byte is
pub none_enabled : (s : Aic) → s.enabled ≡ 0 → (p : ℕ) → level_word s p ≡ 0
none_enabled s e p =
    bit-some 32 (level_word s p) (level_lt s p)
    (λ k l. level-bit s p k l ∙ ap (λ (b : Bool). b && eqb (priority s k) p) (idle s k (ap (λ (w : ℕ). bit w k) e ∙ bit-none k)))

pub none_any : (s : Aic) → s.enabled ≡ 0 → any_of s ≡ 0
none_any s e = bit-some 8 (any_of s) (any_lt s) (λ p l. any-bit s p l ∙ ap not (eq-eqb (level_word s p) 0 (none_enabled s e p)))

-- so all are 0 after reset
pub reset-levels : (external lines : ℕ) → levels_of (reset external lines) ≡ record { words = replicate 8 0; any = 0 }
unfolding levels_of reset
reset-levels external lines =
    let s : Aic = reset external lines in
    rw (none_enabled s refl 0, none_enabled s refl 1, none_enabled s refl 2, none_enabled s refl 3, none_enabled s refl 4, none_enabled s refl 5, none_enabled s refl 6, none_enabled s refl 7, none_any s refl) refl

-- the start of a record, with words and a byte that are all 0
start-levels : (external lines : ℕ) → record { words = replicate 8 0; any = 0 } ≡ levels_of (aic.start external lines).aic
unfolding aic.start
start-levels external lines = sym (reset-levels external lines)

pub start-by : (external lines : ℕ) (b : Begun) → b ≡ aic.start external lines
    → record { refusal = b.refusal; aic = b.aic; levels = record { words = replicate 8 0; any = 0 } } ≡ start external lines
unfolding start
start-by external lines b e =
    rw e
    (ap (λ (l : Levels). record { refusal = (aic.start external lines).refusal; aic = (aic.start external lines).aic; levels = l }) (start-levels external lines))
