-- A test of every number of a range, and the first number of one that passes.
use Prim.Native.Nat.{ℕ, zero, suc, ◌+◌, ◌≤◌, ◌<◌}
use mathlib.Core.Path.{◌≡◌, refl, sym, ap, ap₂, ◌∙◌}
use mathlib.Core.Bool.{Bool, true, false, ◌&&◌}
use native.Mathlib.Omega.{arith}
use Rattle.std.specs.List.{range_with_len, list_all}
use Rattle.std.specs.Option.{MatchOption, unwrap_or}
use Rattle.std.specs.Prelude.{Option, Some, None}
use Rattle.words.specs.Counting.{all_below, lowest_below}
use Rattle.words.proofs.CountingLaws.{all-add, all_same, lowest-one, lowest_found}

all-from : (p : ℕ → Bool) (a n : ℕ) → list_all p (range_with_len a n) ≡ all_below n (λ k. p (a + k))
unfolding all_below
all-from p a zero = refl
all-from p a (suc n) =
    let f : ℕ → Bool = λ k. p (a + k) in
    let here : p a ≡ all_below 1 f = let e : a ≡ a + 0 = omega arith in ap p e in
    let next : (k : ℕ) → k < n → p (a + 1 + k) ≡ f (1 + k) = λ k l. let e : a + 1 + k ≡ a + (1 + k) = omega arith in ap p e in
    let e : 1 + n ≡ suc n = omega arith in
    ap₂ (λ (s t : Bool). s && t) here (all-from p (a + 1) n ∙ all_same n (λ k. p (a + 1 + k)) (λ k. f (1 + k)) next) ∙ sym (all-add 1 n f)
    ∙ ap (λ (m : ℕ). all_below m f) e

-- every number below n passes
pub all-range : (p : ℕ → Bool) (n : ℕ) → list_all p (range_with_len 0 n) ≡ all_below n p
all-range p n = all-from p 0 n ∙ all_same n (λ k. p (0 + k)) p (λ k l. let e : 0 + k ≡ k = omega arith in ap p e)

-- the first number below n that passes, n where none does
pub lowest-range : (p : ℕ → Bool) (n : ℕ) (r : Option ℕ)
    → MatchOption r ((k : ℕ) → 0 ≤ k → k < n → p k ≡ false) (λ i. (0 ≤ i) × (i < n) × (p i ≡ true) × ((k : ℕ) → 0 ≤ k → k < i → p k ≡ false))
    → unwrap_or r n ≡ lowest_below n p
lowest-range p n None h =
    lowest-one p n n (lowest_below n p)
    (record { within = omega arith; before = λ k l. h k (omega arith) l; found = λ l. absurd (omega arith) }) (lowest_found n p)
lowest-range p n (Some i) h =
    lowest-one p n i (lowest_below n p)
    (record { within = omega (arith, h.1); before = λ k l. h.3 k (omega arith) l; found = λ l. h.2 }) (lowest_found n p)
