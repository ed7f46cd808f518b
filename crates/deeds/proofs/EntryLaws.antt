-- What is said of the entries of an AIC and of what is remembered, by the records before a step and after it.
use Prim.Native.Nat.{ℕ, ◌%◌, ◌<◌}
use mathlib.Core.Path.{◌≡◌, refl, sym, ap, ap₂, ◌∙◌}
use mathlib.Core.Bool.{Bool, false, ◌&&◌}
use mathlib.Core.List.{[], ◌++◌}
use mathlib.Core.Logic.{◌≢◌}
use native.Mathlib.Omega.{arith}
use lib.Dec.{eqb}
use borrow.Author.Tests.{eq-eqb, ne_eqb, lt-ltb, le-ltb}
use Rattle.words.proofs.ChoiceLaws.{pick_true, pick-false}
use Rattle.words.proofs.TruthLaws.{and_both}
use Rattle.text.specs.Phrases.{bytes, counted}
use Rattle.steps.specs.declared.Step.{Step}
use Rattle.steps.specs.declared.Step.TheVariants.{Write}
use Rattle.aic_record.specs.declared.Aic.{Aic}
use Rattle.aic_record.specs.declared.Seen.{Seen}
use Rattle.aic_record.specs.Last.{last_source, last_level}
use Rattle.deeds.specs.Deeds.{opened_words, closed_words, ends, entry_words, same_seen, seen_words}

-- ---- the AIC

module _ (s : Aic) (x : Step) (t : Aic) where
  pub starts : s.depth < t.depth → last_source t ≢ 0 → last_source t < 32 → last_level t < 8
      → entry_words s x t ≡ counted (bytes "; starts source ") (last_source t) ++ counted (bytes " at level ") (last_level t)
  unfolding entry_words opened_words
  starts h n a b =
      sym (pick_true _ (lt-ltb s.depth t.depth h))
      ∙ sym (pick-false _ (ne_eqb (last_source t % 32) 0 (λ e. n (omega (arith, e, a)))))
      ∙ ap₂ (λ (k l : ℕ). counted (bytes "; starts source ") k ++ counted (bytes " at level ") l) (omega (arith, a)) (omega (arith, b))

  pub marks : s.depth < t.depth → last_source t ≡ 0 → entry_words s x t ≡ bytes "; opens a mark"
  unfolding entry_words opened_words
  marks h n = sym (pick_true _ (lt-ltb s.depth t.depth h)) ∙ sym (pick_true _ (eq-eqb (last_source t % 32) 0 (omega (arith, n))))

  pub closes : t.depth < s.depth → last_source s ≢ 0 → last_source s < 32 → entry_words s x t ≡ counted (bytes "; closes source ") (last_source s)
  unfolding entry_words closed_words
  closes h n a =
      sym (pick_true _ (lt-ltb t.depth s.depth h) ∙ pick-false _ (le-ltb s.depth t.depth (omega (arith, h))))
      ∙ sym (pick-false _ (ne_eqb (last_source s % 32) 0 (λ e. n (omega (arith, e, a)))))
      ∙ ap (counted (bytes "; closes source ")) (omega (arith, a))

  pub closes-mark : t.depth < s.depth → last_source s ≡ 0 → entry_words s x t ≡ bytes "; closes a mark"
  unfolding entry_words closed_words
  closes-mark h n =
      sym (pick_true _ (lt-ltb t.depth s.depth h) ∙ pick-false _ (le-ltb s.depth t.depth (omega (arith, h))))
      ∙ sym (pick_true _ (eq-eqb (last_source s % 32) 0 (omega (arith, n))))

pub nothing_open : (s : Aic) (v : ℕ) (t : Aic) → s.depth ≡ 0 → t.depth ≡ 0 → entry_words s (Write 0x130 v) t ≡ bytes "; nothing open"
unfolding entry_words ends
nothing_open s v t e f =
    sym (pick_true _ (eq-eqb s.depth 0 e) ∙ pick-false _ (le-ltb t.depth s.depth (omega (arith, e, f))) ∙ pick-false _ (le-ltb s.depth t.depth (omega (arith, e, f))))

-- ---- what is remembered

pub same_seen_lem : (a : Seen) → seen_words a a ≡ []
unfolding seen_words same_seen
same_seen_lem a =
    sym (pick_true _ (and_both (and_both (and_both (eq-eqb a.what a.what refl) (eq-eqb a.source a.source refl)) (eq-eqb a.level a.level refl)) (eq-eqb a.vector a.vector refl)))

pub other-seen : (a b : Seen) → a.what ≢ b.what → same_seen a b ≡ false
unfolding same_seen
other-seen a b h = ap (λ (t : Bool). t && eqb a.source b.source && eqb a.level b.level && eqb a.vector b.vector) (ne_eqb a.what b.what h)

pub forgets : (a b : Seen) → a.what ≢ 0 → b.what ≡ 0 → seen_words a b ≡ bytes "; forgets"
unfolding seen_words
forgets a b h e = sym (pick_true _ (eq-eqb b.what 0 e) ∙ pick-false _ (other-seen a b (λ z. h (z ∙ e))))

pub remembers : (a b : Seen) → a.what ≢ 1 → b.what ≡ 1 → b.source < 32 → seen_words a b ≡ counted (bytes "; remembers source ") b.source
unfolding seen_words
remembers a b h e l =
    sym (pick_true _ (eq-eqb b.what 1 e) ∙ pick-false _ (ne_eqb b.what 0 (λ z. omega (arith, z, e))) ∙ pick-false _ (other-seen a b (λ z. h (z ∙ e))))
    ∙ ap (counted (bytes "; remembers source ")) (omega (arith, l))

pub remembers-none : (a b : Seen) → a.what ≢ 2 → b.what ≡ 2 → seen_words a b ≡ bytes "; remembers no source"
unfolding seen_words
remembers-none a b h e =
    sym (pick-false _ (ne_eqb b.what 1 (λ z. omega (arith, z, e))) ∙ pick-false _ (ne_eqb b.what 0 (λ z. omega (arith, z, e))) ∙ pick-false _ (other-seen a b (λ z. h (z ∙ e))))
