-- A typed number, digit by digit.
use Prim.Native.Nat.{ℕ, ◌+◌, ◌-◌, ◌*◌, ◌<◌, ◌≤◌}
use mathlib.Core.Path.{◌≡◌, sym, ap, ◌∙◌}
use mathlib.Core.Bool.{true, false, ◌&&◌}
use mathlib.Core.List.{List}
use native.Mathlib.Numerals.{add-one}
use lib.Dec.{leb, ltb}
use lib.ListN.{length, get_or, drop, drop_of_length-le}
use lib.Seq.{drop-cons}
use borrow.Author.Tests.{leb-true, ltb-true}
use Rattle.words.specs.Choice.{pick}
use Rattle.words.proofs.ChoiceLaws.{pick_true, pick-false}
use Rattle.words.proofs.TruthLaws.{and_left, and_right}
use Rattle.text.specs.Typed.{goes_on, typed_after}

-- ---- a digit that may follow

pub digit_of : (v b : ℕ) → goes_on v b ≡ true → (48 ≤ b) × (b ≤ 57) × (v < 100000000)
digit_of v b e =
    let f = and_left (leb 48 b && leb b 57) (ltb v 100000000) e in
    (leb-true 48 b (and_left (leb 48 b) (leb b 57) f), leb-true b 57 (and_right (leb 48 b) (leb b 57) f), ltb-true v 100000000 (and_right (leb 48 b && leb b 57) (ltb v 100000000) e))

-- ---- a turn of the loop

module _ (s : List ℕ) (v k : ℕ) where
  here : k < length s → typed_after v (drop k s) ≡ pick (goes_on v (get_or s k 0)) (typed_after (10 * v + (get_or s k 0 - 48)) (drop (k + 1) s)) 0
  unfolding typed_after
  here h =
      ap (typed_after v) (drop-cons s k 0 h)
      ∙ ap (λ (n : ℕ). pick (goes_on v (get_or s k 0)) (typed_after (10 * v + (get_or s k 0 - 48)) (drop n s)) 0) (sym (add-one k))

  pub typed_on : (r : ℕ) → r ≡ 10 * v + (get_or s k 0 - 48) → k < length s → goes_on v (get_or s k 0) ≡ true → typed_after r (drop (k + 1) s) ≡ typed_after v (drop k s)
  typed_on r q h e = ap (λ (n : ℕ). typed_after n (drop (k + 1) s)) q ∙ pick_true _ e ∙ sym (here h)

  pub typed-off : k < length s → goes_on v (get_or s k 0) ≡ false → 0 ≡ typed_after v (drop k s)
  typed-off h e = pick-false _ e ∙ sym (here h)

  pub typed-done : length s ≤ k → v ≡ typed_after v (drop k s)
  unfolding typed_after
  typed-done h = sym (ap (typed_after v) (drop_of_length-le s h))
