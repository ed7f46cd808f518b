-- Bit by bit: the words of the levels, and the byte.
use mathlib.Core.Path.{◌≡◌, refl, sym, ap, ap₂, ◌∙◌, subst}
use mathlib.Core.Bool.{Bool, true, not, ◌&&◌}
use mathlib.Core.List.{List}
use mathlib.Core.Logic.{◌≢◌}
use Prim.Native.Nat.{ℕ, ◌^◌, ◌<◌}
use native.Mathlib.Omega.{arith}
use borrow.Author.Tests.{eq-eqb, ne_eqb, eqb-true, eqb-false, not-true}
use lib.Dec.{eqb}
use Rattle.words.specs.Word.{bit, word_of, either, both, without}
use Rattle.words.proofs.TruthLaws.{and_left, and_right, and_both}
use Rattle.words.proofs.WordLaws.{bit-word_of, word_of_lt, word_of-same, word-is, without_lt, some-bit, bit-not-zero}
use Rattle.aic_record.specs.declared.Aic.{Aic}
use Rattle.aic_record.specs.Mode.{priority}
use Rattle.aic_sources.specs.Pending.{pending_word}
use Rattle.aic_sources.specs.Normal.{waiting}
use Rattle.aic_sources.specs.Search.{rank}
use Rattle.aic_sources.proofs.HandlerLaws.{priority_small}
use Rattle.aic_sources.proofs.PendingLaws.{asking-by, fast-by, waits_are}
use Rattle.aic_levels.specs.Levels.{level_word, any_of}

-- bit k of word p: source k waits and has priority p
pub level-bit : (s : Aic) (p k : ℕ) → k < 32 → bit (level_word s p) k ≡ (waiting s k && eqb (priority s k) p)
unfolding level_word
level-bit s p k l = bit-word_of 32 (λ j. waiting s j && eqb (priority s j) p) k l

-- a word of a level is a word of 32 bits
pub level_lt : (s : Aic) (p : ℕ) → level_word s p < 2 ^ 32
unfolding level_word
level_lt s p = word_of_lt 32 (λ j. waiting s j && eqb (priority s j) p)

-- bit p of the byte: word p is not 0
pub any-bit : (s : Aic) (p : ℕ) → p < 8 → bit (any_of s) p ≡ not (eqb (level_word s p) 0)
unfolding any_of
any-bit s p l = bit-word_of 8 (λ q. not (eqb (level_word s q) 0)) p l

-- the byte is below 256
pub any_lt : (s : Aic) → any_of s < 2 ^ 8
unfolding any_of
any_lt s = word_of_lt 8 (λ q. not (eqb (level_word s q) 0))

-- a source in word p waits, and has priority p
pub in_level : (s : Aic) (p k : ℕ) → k < 32 → bit (level_word s p) k ≡ true → (waiting s k ≡ true) × (priority s k ≡ p)
in_level s p k l y =
    let h : (waiting s k && eqb (priority s k) p) ≡ true = sym (level-bit s p k l) ∙ y in
    (and_left (waiting s k) (eqb (priority s k) p) h, eqb-true (priority s k) p (and_right (waiting s k) (eqb (priority s k) p) h))

-- a source that waits has its bit in the word of its priority
pub level_in : (s : Aic) (p k : ℕ) → k < 32 → waiting s k ≡ true → priority s k ≡ p → bit (level_word s p) k ≡ true
level_in s p k l w e = level-bit s p k l ∙ and_both w (eq-eqb (priority s k) p e)

-- a level with its bit in the byte has a word that is not 0, so a source that waits
pub any_word : (s : Aic) (p : ℕ) → p < 8 → bit (any_of s) p ≡ true → level_word s p ≢ 0
any_word s p l y = eqb-false (level_word s p) 0 (not-true (eqb (level_word s p) 0) (sym (any-bit s p l) ∙ y))

pub any_source : (s : Aic) (p : ℕ) → p < 8 → bit (any_of s) p ≡ true → (k : ℕ) × (k < 32) × (waiting s k ≡ true) × (priority s k ≡ p)
any_source s p l y =
    let r = some-bit 32 (level_word s p) (level_lt s p) (any_word s p l y) in
    let h = in_level s p r.0 r.1 r.2 in
    (r.0, r.1, h.0, h.1)

-- the level of a source that waits has its bit in the byte
pub source_any : (s : Aic) (k : ℕ) → k < 32 → waiting s k ≡ true → bit (any_of s) (priority s k) ≡ true
source_any s k l w =
    any-bit s (priority s k) (omega (arith, priority_small s k))
    ∙ ap not (ne_eqb (level_word s (priority s k)) 0 (bit-not-zero (level_word s (priority s k)) k (level_in s (priority s k) k l w refl)))

-- ---- the waiting sources as a word

-- of the pending and enabled sources those that are not fast
pub waiting-by : (s : Aic) (pend asks fasts r : ℕ) → pend ≡ pending_word s → asks ≡ both pend s.enabled → fasts ≡ either 1 s.forced → r ≡ without asks fasts
    → r ≡ word_of 32 (waiting s)
waiting-by s pend asks fasts r e f g h =
    word-is 32 r (waiting s) (subst (λ (x : ℕ). x < 2 ^ 32) (sym h) (without_lt asks fasts))
    (λ k l. waits_are s r k (h ∙ ap₂ (λ (x y : ℕ). without x y) (f ∙ ap (λ (x : ℕ). both x s.enabled) e ∙ asking-by s) (g ∙ fast-by s)) l)

-- the waiting sources of a class
pub class-waits : (mode : List ℕ) (waits p : ℕ) → both waits (word_of 32 (λ k. eqb (rank mode k) p)) ≡ word_of 32 (λ k. bit waits k && eqb (rank mode k) p)
unfolding both
class-waits mode waits p =
    word_of-same 32 _ _ (λ k l. ap (λ (b : Bool). bit waits k && b) (bit-word_of 32 (λ j. eqb (rank mode j) p) k l))

-- of the waiting sources those of a priority
pub level_by : (s : Aic) (waits : ℕ) → waits ≡ word_of 32 (waiting s) → (p : ℕ) → word_of 32 (λ k. bit waits k && eqb (rank s.mode k) p) ≡ level_word s p
unfolding level_word priority
level_by s waits e p =
    word_of-same 32 (λ k. bit waits k && eqb (rank s.mode k) p) (λ k. waiting s k && eqb (rank s.mode k) p)
    (λ k l. ap (λ (b : Bool). b && eqb (rank s.mode k) p) (ap (λ (w : ℕ). bit w k) e ∙ bit-word_of 32 (waiting s) k l))
