-- The promises of the levels, kept.
use Prim.Native.Nat.{ℕ, zero, suc, ◌<◌}
use mathlib.Core.Path.{◌≡◌, refl, sym, ap, ◌∙◌, subst}
use mathlib.Core.Bool.{true, false, not, ◌||◌}
use mathlib.Core.List.{List, map}
use mathlib.Core.Logic.{◌↔◌, ◌≢◌}
use native.Mathlib.Decide.{dec_lt}
use native.Mathlib.Omega.{arith}
use borrow.Author.Tests.{eqb-false, ne_eqb}
use lib.Dec.{eqb}
use lib.ListN.{length, get_or, replicate}
use Rattle.words.specs.Word.{bit}
use Rattle.words.proofs.TruthLaws.{and_both, or_neither}
use Rattle.words.proofs.WordLaws.{bit_past}
use Rattle.steps.specs.declared.Step.{Step}
use Rattle.aic_record.specs.declared.Aic.{Aic}
use Rattle.aic_record.specs.Mode.{priority}
use Rattle.aic_sources.specs.Pending.{asking}
use Rattle.aic_sources.specs.Fast.{fast}
use Rattle.aic_sources.specs.Normal.{waiting}
use Rattle.aic_sources.proofs.HandlerLaws.{waiting-is}
use Rattle.aic.specs.Model as aic
use Rattle.aic.proofs.Promises as aic-promises
use Rattle.aic_levels.specs.declared.Levels.{Levels}
use Rattle.aic_levels.specs.Levels.{level_word, any_of, levels_of, agrees, highest_of}
use Rattle.aic_levels.specs.Model.{start}
use Rattle.aic_levels.specs.Runs.{run_of, run_with, besides}
use Rattle.aic_levels.specs.Promises.{Waits, HasPriority, Beginning, Promises}
use Rattle.aic_levels.proofs.HighestLaws.{highest-is, highest-none, highest-zero, highest_last}
use Rattle.aic_levels.proofs.LevelLaws.{in_level, level_in, level_lt, any-bit, any_lt, any_word, any_source, source_any}
use Rattle.aic_levels.proofs.ChosenLaws.{chosen-same}
use Rattle.aic_levels.proofs.AgreeLaws.{agreed, agree}
use Rattle.aic_levels.proofs.StartLaws.{reset-levels}
use Rattle.aic_levels.proofs.StepLaws.{own_words, own-length, own_any, own_agree, levels-same, step_same, step_other, step_keeps, step_twelve, outputs-same, outputs-other, outputs_twelve}
use Rattle.aic_levels.proofs.RunLaws.{runs_same}

-- ---- the table

-- of a byte that is not 0 the highest level is one
highest-some : (b : ℕ) → b < 256 → b ≢ 0 → highest_of b ≢ 255
highest-some b l d e = d (highest-none b l e)

-- no higher bit is set, within the byte or past it
highest-above : (b p : ℕ) → b < 256 → highest_of b < p → bit b p ≡ false
highest-above b p l m = go (dec_lt p 8)
  where
    go : Dec (p < 8) → bit b p ≡ false
    go (yes i) = highest_last b p m i
    go (no i) = bit_past 8 b p l (omega arith)

-- ---- the words and the byte

-- a source that waits, in plain words
waits-is : (s : Aic) (k : ℕ) → waiting s k ≡ true → Waits s k
waits-is s k w =
    let h = waiting-is s k w in
    let f : (eqb k 0 || bit s.forced k) ≡ false = unfold fast in h.2 in
    let n = or_neither (eqb k 0) (bit s.forced k) f in
    (h.0, h.1, eqb-false k 0 n.0, n.1)

is-waits : (s : Aic) (k : ℕ) → Waits s k → waiting s k ≡ true
unfolding waiting asking fast
is-waits s k (p, e, n, f) = and_both (and_both p e) (rw (ne_eqb k 0 n, f) refl)

has-priority : (s : Aic) (k p : ℕ) → priority s k ≡ p → HasPriority s k p
unfolding priority
has-priority s k p e = e

priority_has : (s : Aic) (k p : ℕ) → HasPriority s k p → priority s k ≡ p
unfolding priority
priority_has s k p e = e

word-is : (s : Aic) (p k : ℕ) → k < 32 → (bit (level_word s p) k ≡ true) ↔ (Waits s k × HasPriority s k p)
word-is s p k l = (
  λ y. let h = in_level s p k l y in (waits-is s k h.0, has-priority s k p h.1),
  λ h. level_in s p k l (is-waits s k h.0) (priority_has s k p h.1),
)

byte-is : (s : Aic) (p : ℕ) → p < 8 → (bit (any_of s) p ≡ true) ↔ ((k : ℕ) × (k < 32) × (Waits s k × HasPriority s k p))
byte-is s p l = (
  λ y. let r = any_source s p l y in (r.0, r.1, (waits-is s r.0 r.2, has-priority s r.0 p r.3)),
  λ r. subst (λ (q : ℕ). bit (any_of s) q ≡ true) (priority_has s r.0 p r.2.1) (source_any s r.0 r.1 (is-waits s r.0 r.2.0)),
)

byte_word : (s : Aic) (p : ℕ) → p < 8 → (bit (any_of s) p ≡ true) ↔ (level_word s p ≢ 0)
byte_word s p l = (any_word s p l, λ d. any-bit s p l ∙ ap not (ne_eqb (level_word s p) 0 d))

-- ---- agreement

agrees-one : (s : Aic) (l : Levels) → length l.words ≡ 8 → (agrees s l ≡ true) ↔ (l ≡ levels_of s)
agrees-one s l n = (
  λ a. let h = agreed s l a in levels-same s l.words l.any n h.0 h.1,
  λ e. subst (λ (x : Levels). agrees s x ≡ true) (sym e) (own_agree s),
)

-- ---- the start

zeros : (n p : ℕ) → ◌≡◌ {A = ℕ} (get_or (replicate n 0) p 0) 0
zeros zero p = refl
zeros (suc n) zero = refl
zeros (suc n) (suc p) = zeros n p

begins : (external lines : ℕ) → Beginning external lines (start external lines)
unfolding start
begins external lines =
    record {
      taken = (aic-promises.kept).start_taken external lines;
      fresh = (aic-promises.kept).start_is external lines;
      whole = (aic-promises.kept).start_sound external lines;
      words = (own-length (aic.start external lines).aic, λ p. ap (λ (l : Levels). get_or l.words p 0) zero-levels ∙ zeros 8 p);
      byte = ap (λ (l : Levels). l.any) zero-levels;
      agreeing = own_agree (aic.start external lines).aic;
    }
  where
    zero-levels : levels_of (aic.start external lines).aic ≡ record { words = replicate 8 0; any = 0 }
    zero-levels = unfold aic.start in (reset-levels external lines)

from_start : (external lines : ℕ) (xs : List Step)
    → run_with (start external lines).aic (start external lines).levels xs ≡ map besides (run_of (aic.start external lines).aic xs)
unfolding start
from_start external lines xs =
    let s = (aic.start external lines).aic in
    let h = (aic-promises.kept).start_sound external lines in
    runs_same s (levels_of s) xs h.1 h.0 (own_agree s)

pub kept : Promises
unfolding run_of run_with besides
kept =
    record {
      table_none = λ b l. (highest-none b l, λ e. ap highest_of e ∙ highest-zero);
      table_bit = λ b l d. (highest-is b).some (highest-some b l d);
      table_highest = λ b p l d m. highest-above b p l m;
      levels_are = λ s. (own-length s, (own_words s, own_any s));
      word_is = word-is;
      word_below = level_lt;
      byte_is = byte-is;
      byte_word = byte_word;
      byte_below = any_lt;
      agrees_is = λ s l. (agreed s l, agree s l);
      agrees_one = agrees-one;
      chosen_same = λ s l a. let h = agreed s l a in chosen-same s l.words l.any h.0 h.1;
      start_is = begins;
      step_same = step_same;
      step_keeps = step_keeps;
      outputs_same = outputs-same;
      twelve = step_twelve;
      unchanged = step_other;
      outputs_twelve = outputs_twelve;
      outputs_none = outputs-other;
      runs = runs_same;
      runs_from_start = from_start;
      run_is = λ s x xs. refl;
      run_with_is = λ s l x xs. refl;
      run_ends = λ s l. (refl, refl);
      besides_is = λ a o. refl;
    }
