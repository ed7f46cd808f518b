-- What is promised of waits added up.
use Rattle.std.specs.Prelude.{ℕ, ◌+◌, ◌≤◌, ◌<◌, ◌≡◌, true, ◌↔◌, ◌≢◌, ◌⊎◌, get_or, length}
use Rattle.totals.specs.declared.waits.Waits.{Waits}
use Rattle.totals.specs.Waits.{no_waits, bound_of, newly, added}

-- the arrays have their lengths, as those of every such record in the code do
pub record Whole (a : Waits) : Type 0 where
  pub begun : length a.begun ≡ 32
  pub unended : length a.unended ≡ 32
  pub unbounded : length a.unbounded ≡ 32
  pub first : length a.first ≡ 32
  pub pending : length a.pending ≡ 32
  pub edges : length a.edges ≡ 32
  pub commands : length a.commands ≡ 32
  pub turns : length a.turns ≡ 32
  pub closed : length a.closed ≡ 32
  pub remembered : length a.remembered ≡ 32

-- so many waits of source i began, never ended and have no bound
pub record Numbers (a : Waits) (i waits standing boundless : ℕ) : Type 0 where
  pub begun : get_or a.begun i 0 ≡ waits
  pub unended : get_or a.unended i 0 ≡ standing
  pub unbounded : get_or a.unbounded i 0 ≡ boundless

-- the six terms of source i are those of b
pub record Terms (a b : Waits) (i : ℕ) : Type 0 where
  pub pending : get_or a.pending i 0 ≡ get_or b.pending i 0
  pub edges : get_or a.edges i 0 ≡ get_or b.edges i 0
  pub commands : get_or a.commands i 0 ≡ get_or b.commands i 0
  pub turns : get_or a.turns i 0 ≡ get_or b.turns i 0
  pub closed : get_or a.closed i 0 ≡ get_or b.closed i 0
  pub remembered : get_or a.remembered i 0 ≡ get_or b.remembered i 0

-- a number of waits of source i would pass 4,294,967,295
abbrev pub Passes : Waits → Waits → ℕ → Type 0
Passes a b i =
    (4294967295 < get_or a.begun i 0 + get_or b.begun i 0)
    ⊎ ((4294967295 < get_or a.unended i 0 + get_or b.unended i 0) ⊎ (4294967295 < get_or a.unbounded i 0 + get_or b.unbounded i 0))

pub record Promises : Type 0 where
  -- before any trace there are no waits, and no bound
  pub empty : (i : ℕ) → Numbers no_waits i 0 0 0 × (bound_of no_waits i ≡ 0) × (get_or no_waits.first i 0 ≡ 0)
  -- a bound is the sum of six terms: pending, edges, commands, turns, closed while active, remembered (02, 12/12)
  pub bound_is : (a : Waits) (i : ℕ) → bound_of a i
      ≡ get_or a.pending i 0 + get_or a.edges i 0 + get_or a.commands i 0 + get_or a.turns i 0 + get_or a.closed i 0 + get_or a.remembered i 0
  -- 16 is given exactly if a number of waits of some source would pass 4,294,967,295, and else 0 (02, 11/12)
  pub sixteen : (a b : Waits) → ((added a b).refusal ≡ 16) ↔ ((i : ℕ) × (i < 32) × Passes a b i)
  pub not_refused : (a b : Waits) → (added a b).refusal ≢ 16 → (added a b).refusal ≡ 0
  -- a trace left out changes nothing (02, 11/12)
  pub left_out : (a b : Waits) → (added a b).refusal ≡ 16 → (added a b).waits ≡ a
  -- else the numbers of waits add up, source by source
  pub sums : (a b : Waits) → Whole a → Whole b → (added a b).refusal ≡ 0 → (i : ℕ) → i < 32
      → Numbers (added a b).waits i (get_or a.begun i 0 + get_or b.begun i 0) (get_or a.unended i 0 + get_or b.unended i 0)
      (get_or a.unbounded i 0 + get_or b.unbounded i 0)
  -- a bound that is larger than all before it replaces them with its terms, and of bounds that are alike the first stays
  pub more : (a b : Waits) → Whole a → Whole b → (added a b).refusal ≡ 0 → (i : ℕ) → i < 32 → bound_of a i < bound_of b i → Terms (added a b).waits b i
  pub not_more : (a b : Waits) → Whole a → Whole b → (added a b).refusal ≡ 0 → (i : ℕ) → i < 32 → bound_of b i ≤ bound_of a i → Terms (added a b).waits a i
  -- the step that first took a wait its bound stays, and is the second's where the first has none
  pub first_stays : (a b : Waits) → Whole a → Whole b → (added a b).refusal ≡ 0 → (i : ℕ) → i < 32 → get_or a.first i 0 ≢ 0
      → get_or (added a b).waits.first i 0 ≡ get_or a.first i 0
  pub first_comes : (a b : Waits) → Whole a → Whole b → (added a b).refusal ≡ 0 → (i : ℕ) → i < 32 → get_or a.first i 0 ≡ 0
      → get_or (added a b).waits.first i 0 ≡ get_or b.first i 0
  -- a source is new exactly if it has no such step in the first, and one in the second
  pub newly_is : (a b : Waits) (i : ℕ) → (newly a b i ≡ true) ↔ ((get_or a.first i 0 ≡ 0) × (get_or b.first i 0 ≢ 0))
  -- the arrays keep their lengths
  pub lengths : (a b : Waits) → Whole a → Whole b → Whole (added a b).waits
