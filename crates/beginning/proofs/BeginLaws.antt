-- What a configuration is in each of the ways that the code goes.
use Prim.Native.Nat.{ℕ, zero, suc, ◌+◌, ◌-◌}
use mathlib.Core.Path.{◌≡◌, refl, sym, ap, ◌∙◌}
use mathlib.Core.Bool.{true, false}
use mathlib.Core.List.{List}
use native.Mathlib.Numerals.{sub-one}
use Rattle.words.proofs.ChoiceLaws.{pick_true, pick-false}
use Rattle.steps.specs.Refusals.{misconfigured}
use Rattle.numbers.specs.Number.{Value, Refused, number_at}
use Rattle.kinds.specs.declared.Configuration.{Configuration}
use Rattle.kinds.specs.Kinds.{within}
use Rattle.kinds.specs.Configuration.{with_number}
use Rattle.beginning.specs.Begin.{refused_setup, accepted_setup, by_value, setup_from}

-- the four ways of a turn: no number is left; one is damaged; one is beyond its limit; one is taken
module _ (kind left k : ℕ) (s : List ℕ) (c : Configuration) (at : ℕ) where
  pub setup-done : left ≡ 0 → accepted_setup c at ≡ setup_from kind left k s c at
  unfolding setup_from
  setup-done e = rw e

  setup-turn : (left ≡ 0 → ⊥) → by_value kind k c at (setup_from kind (left - 1) (k + 1) s) (number_at s at) ≡ setup_from kind left k s c at
  unfolding setup_from
  setup-turn = go left
    where
      go : (n : ℕ) → (n ≡ 0 → ⊥) → by_value kind k c at (setup_from kind (n - 1) (k + 1) s) (number_at s at) ≡ setup_from kind n k s c at
      go zero h = absurd (h refl)
      go (suc n) h = rw sub-one

  pub setup-damaged : (n p : ℕ) → (left ≡ 0 → ⊥) → number_at s at ≡ Refused n p → refused_setup n p ≡ setup_from kind left k s c at
  setup-damaged n p h e = sym (ap (by_value kind k c at (setup_from kind (left - 1) (k + 1) s)) e) ∙ setup-turn h

  pub setup-beyond : (v next : ℕ) → (left ≡ 0 → ⊥) → number_at s at ≡ Value v next → within kind k v ≡ false
      → refused_setup misconfigured at ≡ setup_from kind left k s c at
  setup-beyond v next h e w = pick-false _ w ∙ sym (ap (by_value kind k c at (setup_from kind (left - 1) (k + 1) s)) e) ∙ setup-turn h

  pub setup-taken : (v next : ℕ) → (left ≡ 0 → ⊥) → number_at s at ≡ Value v next → within kind k v ≡ true
      → setup_from kind (left - 1) (k + 1) s (with_number c k v) next ≡ setup_from kind left k s c at
  setup-taken v next h e w = pick_true _ w ∙ sym (ap (by_value kind k c at (setup_from kind (left - 1) (k + 1) s)) e) ∙ setup-turn h
