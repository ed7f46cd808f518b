-- What is promised of a typed number: its digits give it, and nothing else gives one.
use Rattle.std.specs.Prelude.{ℕ, ◌<◌, ◌≤◌, ◌^◌, ◌≡◌, List, [], ◌∷◌, ◌≢◌, length, get_or}
use Rattle.text.specs.Promises.{worth_after}
use Rattle.text.specs.Typed.{typed}

pub record Promises : Type 0 where
  -- a number other than 0 is what its digits are worth, and there is nothing but digits
  pub worth : (s : List ℕ) → typed s ≢ 0 → typed s ≡ worth_after 0 s
  pub digits : (s : List ℕ) (k : ℕ) → typed s ≢ 0 → k < length s → (48 ≤ get_or s k 0) × (get_or s k 0 ≤ 57)
  pub small : (s : List ℕ) → typed s < 10 ^ 9
  -- digits that are worth less than 1,000,000,000 are all read
  pub read : (s : List ℕ) → ((k : ℕ) → k < length s → (48 ≤ get_or s k 0) × (get_or s k 0 ≤ 57)) → worth_after 0 s < 10 ^ 9 → typed s ≡ worth_after 0 s
  -- numbers that are typed as they are printed
  pub worked_none : typed [] ≡ 0
  pub worked : typed (53 ∷ 48 ∷ 48 ∷ []) ≡ 500
  pub worked_bad : typed (53 ∷ 120 ∷ []) ≡ 0
