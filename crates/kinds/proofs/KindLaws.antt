-- Choices by the kind of controller: what they give where the kind is known, and what holds of each.
use Prim.Native.Nat.{ℕ}
use mathlib.Core.Path.{◌≡◌, sym, ◌∙◌}
use mathlib.Core.Bool.{Bool, true, false, ◌||◌}
use mathlib.Core.Logic.{◌↔◌, ◌≢◌, ◌⊎◌, inl, inr}
use native.Mathlib.Decide.{ℕ_discrete}
use native.Mathlib.Omega.{arith}
use lib.Dec.{eqb}
use borrow.Author.Tests.{eq-eqb, ne_eqb, eqb-true}
use Rattle.words.specs.Choice.{pick}
use Rattle.words.proofs.ChoiceLaws.{pick_true, pick-false}
use Rattle.words.proofs.TruthLaws.{or-either, or_left, or_right, clash}
use Rattle.kinds.specs.Kinds.{aic_kind, core_kind, cic_kind, aintc_kind, indexed_kind, Each, by_kind, is_kind}

-- what kind a number is
pub data KindOf (kind : ℕ) : Type 0 where
  is_aic : kind ≡ aic_kind → KindOf kind
  is_core : kind ≡ core_kind → KindOf kind
  is_cic : kind ≡ cic_kind → KindOf kind
  is_aintc : kind ≡ aintc_kind → KindOf kind
  is_indexed : kind ≡ indexed_kind → KindOf kind
  is_none : kind ≢ aic_kind → kind ≢ core_kind → kind ≢ cic_kind → kind ≢ aintc_kind → kind ≢ indexed_kind → KindOf kind

pub kind_of : (kind : ℕ) → KindOf kind
kind_of kind = go (ℕ_discrete kind aic_kind) (ℕ_discrete kind core_kind) (ℕ_discrete kind cic_kind) (ℕ_discrete kind aintc_kind) (ℕ_discrete kind indexed_kind)
  where
    go : Dec (kind ≡ aic_kind) → Dec (kind ≡ core_kind) → Dec (kind ≡ cic_kind) → Dec (kind ≡ aintc_kind) → Dec (kind ≡ indexed_kind) → KindOf kind
    go (yes a) b c d e = is_aic a
    go (no a) (yes b) c d e = is_core b
    go (no a) (no b) (yes c) d e = is_cic c
    go (no a) (no b) (no c) (yes d) e = is_aintc d
    go (no a) (no b) (no c) (no d) (yes e) = is_indexed e
    go (no a) (no b) (no c) (no d) (no e) = is_none a b c d e

-- ---- which kinds there are

-- one of the five
abbrev pub Known : ℕ → Type 0
Known kind = (kind ≡ aic_kind) ⊎ ((kind ≡ core_kind) ⊎ ((kind ≡ cic_kind) ⊎ ((kind ≡ aintc_kind) ⊎ (kind ≡ indexed_kind))))

pub known : (kind : ℕ) → (is_kind kind ≡ true) ↔ Known kind
unfolding is_kind
known kind = (λ e. last (or-either four (eqb kind indexed_kind) e), back)
  where
    two : Bool
    two = eqb kind aic_kind || eqb kind core_kind

    three : Bool
    three = two || eqb kind cic_kind

    four : Bool
    four = three || eqb kind aintc_kind

    of_two : (eqb kind aic_kind ≡ true) ⊎ (eqb kind core_kind ≡ true) → Known kind
    of_two (inl e) = inl (eqb-true kind aic_kind e)
    of_two (inr e) = inr (inl (eqb-true kind core_kind e))

    of_three : (two ≡ true) ⊎ (eqb kind cic_kind ≡ true) → Known kind
    of_three (inl e) = of_two (or-either (eqb kind aic_kind) (eqb kind core_kind) e)
    of_three (inr e) = inr (inr (inl (eqb-true kind cic_kind e)))

    of_four : (three ≡ true) ⊎ (eqb kind aintc_kind ≡ true) → Known kind
    of_four (inl e) = of_three (or-either two (eqb kind cic_kind) e)
    of_four (inr e) = inr (inr (inr (inl (eqb-true kind aintc_kind e))))

    last : (four ≡ true) ⊎ (eqb kind indexed_kind ≡ true) → Known kind
    last (inl e) = of_four (or-either three (eqb kind aintc_kind) e)
    last (inr e) = inr (inr (inr (inr (eqb-true kind indexed_kind e))))

    back : Known kind → (four || eqb kind indexed_kind) ≡ true
    back (inl e) = or_left (eqb kind indexed_kind) (or_left (eqb kind aintc_kind) (or_left (eqb kind cic_kind) (or_left (eqb kind core_kind) (eq-eqb kind aic_kind e))))
    back (inr (inl e)) = or_left (eqb kind indexed_kind) (or_left (eqb kind aintc_kind) (or_left (eqb kind cic_kind) (or_right (eqb kind aic_kind) (eq-eqb kind core_kind e))))
    back (inr (inr (inl e))) = or_left (eqb kind indexed_kind) (or_left (eqb kind aintc_kind) (or_right two (eq-eqb kind cic_kind e)))
    back (inr (inr (inr (inl e)))) = or_left (eqb kind indexed_kind) (or_right three (eq-eqb kind aintc_kind e))
    back (inr (inr (inr (inr e)))) = or_right four (eq-eqb kind indexed_kind e)

-- ---- choices

module _ {A : Type 0} (kind : ℕ) (e : Each A) where
  pub at_aic : kind ≡ aic_kind → e.aic ≡ by_kind kind e
  unfolding by_kind
  at_aic k = pick_true _ (eq-eqb kind aic_kind k)

  pub at_core : kind ≡ core_kind → e.core ≡ by_kind kind e
  unfolding by_kind
  at_core k = pick_true _ (eq-eqb kind core_kind k) ∙ pick-false _ (ne_eqb kind aic_kind (λ z. omega arith))

  pub at-cic : kind ≡ cic_kind → e.cic ≡ by_kind kind e
  unfolding by_kind
  at-cic k =
      pick_true _ (eq-eqb kind cic_kind k) ∙ pick-false _ (ne_eqb kind core_kind (λ z. omega arith)) ∙ pick-false _ (ne_eqb kind aic_kind (λ z. omega arith))

  -- none of the first three
  past : kind ≢ aic_kind → kind ≢ core_kind → kind ≢ cic_kind
      → pick (eqb kind aintc_kind) e.aintc (pick (eqb kind indexed_kind) e.indexed e.none) ≡ by_kind kind e
  unfolding by_kind
  past a b c = pick-false _ (ne_eqb kind cic_kind c) ∙ pick-false _ (ne_eqb kind core_kind b) ∙ pick-false _ (ne_eqb kind aic_kind a)

  pub at_aintc : kind ≡ aintc_kind → e.aintc ≡ by_kind kind e
  at_aintc k = pick_true _ (eq-eqb kind aintc_kind k) ∙ past (λ z. omega arith) (λ z. omega arith) (λ z. omega arith)

  pub at_indexed : kind ≡ indexed_kind → e.indexed ≡ by_kind kind e
  at_indexed k =
      pick_true _ (eq-eqb kind indexed_kind k) ∙ pick-false _ (ne_eqb kind aintc_kind (λ z. omega arith))
      ∙ past (λ z. omega arith) (λ z. omega arith) (λ z. omega arith)

  pub at_none : kind ≢ aic_kind → kind ≢ core_kind → kind ≢ cic_kind → kind ≢ aintc_kind → kind ≢ indexed_kind → e.none ≡ by_kind kind e
  at_none a b c d f = pick-false _ (ne_eqb kind indexed_kind f) ∙ pick-false _ (ne_eqb kind aintc_kind d) ∙ past a b c

  -- where there is no such kind
  pub at-unknown : is_kind kind ≡ false → e.none ≡ by_kind kind e
  at-unknown h =
      at_none (λ z. clash ((known kind).1 (inl z)) h) (λ z. clash ((known kind).1 (inr (inl z))) h) (λ z. clash ((known kind).1 (inr (inr (inl z)))) h)
      (λ z. clash ((known kind).1 (inr (inr (inr (inl z))))) h) (λ z. clash ((known kind).1 (inr (inr (inr (inr z))))) h)

  -- what an AINTC and no kind have alike
  pub at_rest : (a : A) → e.aintc ≡ a → e.none ≡ a → kind ≢ aic_kind → kind ≢ core_kind → kind ≢ cic_kind → kind ≢ indexed_kind → a ≡ by_kind kind e
  at_rest a p q x y z w = go (kind_of kind)
    where
      go : KindOf kind → a ≡ by_kind kind e
      go (is_aic k) = absurd (x k)
      go (is_core k) = absurd (y k)
      go (is_cic k) = absurd (z k)
      go (is_aintc k) = sym p ∙ at_aintc k
      go (is_indexed k) = absurd (w k)
      go (is_none b c d f g) = sym q ∙ at_none b c d f g
