-- The first of some inputs, and when one input alone may be chosen.
use Rattle.std.specs.Prelude.{ℕ, ◌/◌, ◌%◌, ◌<◌, ◌≡◌, Bool, true, false, [], ◌∷◌, ◌≢◌, get_or}
use Rattle.words.specs.Array.{bit_at}
use Rattle.words.specs.Word.{bit}
use Rattle.aintc_record.specs.declared.Aintc.{Aintc}
use Rattle.aintc_record.specs.Record.{side}
use Rattle.aintc_registers.specs.Inputs.{pending, eligible}
use Rattle.aintc_registers.specs.Order.{before}

-- the inputs that four words hold
abbrev pub held : ℕ → ℕ → ℕ → ℕ → ℕ → Bool
held a b c d = bit_at (a ∷ b ∷ c ∷ d ∷ [])

-- the inputs that two halves of 64 hold
abbrev pub halves : ℕ → ℕ → ℕ → Bool
halves low high k = bit (get_or (low ∷ high ∷ []) (k / 64) 0) (k % 64)

-- there is one
abbrev pub SomeOf : (ℕ → Bool) → Type 0
SomeOf p = (k : ℕ) × (k < 128) × (p k ≡ true)

-- input k is one of those that p tells, and before every other one (000, 4.3.1.2.3)
pub record FirstOf (s : Aintc) (p : ℕ → Bool) (k : ℕ) : Type 0 where
  pub within : k < 128
  pub fit : p k ≡ true
  pub others : (j : ℕ) → j < 128 → p j ≡ true → j ≢ k → before s k j ≡ true

-- input k is the highest of those that p tells
pub record HighestOf (p : ℕ → Bool) (n k : ℕ) : Type 0 where
  pub within : k < n
  pub fit : p k ≡ true
  pub above : (j : ℕ) → j < n → k < j → p j ≡ false

-- input k is pending for an output, and before every other one that is eligible for it (000, 4.3.1.2.3)
pub record Leads (s : Aintc) (f : Bool) (k : ℕ) : Type 0 where
  pub within : k < 128
  pub waits : pending s f k ≡ true
  pub others : (j : ℕ) → j < 128 → eligible s f j ≡ true → j ≢ k → before s k j ≡ true

-- no other input than k is eligible for an output with none chosen
abbrev pub Alone : Aintc → ℕ → Type 0
Alone s k = (f : Bool) → (side s f).active ≡ false → (j : ℕ) → j < 128 → j ≢ k → eligible s f j ≡ false
