-- What is promised of the inputs: who is eligible, who is first, what an output takes and keeps, and when a record is sound.
use Rattle.std.specs.Prelude.{ℕ, ◌+◌, ◌*◌, ◌%◌, ◌^◌, ◌<◌, ◌≤◌, ◌≡◌, Bool, true, false, List, ◌↔◌, ◌≢◌, ◌⊎◌}
use Rattle.words.specs.Array.{bit_at}
use Rattle.words.specs.Counting.{one}
use Rattle.words.specs.Word.{bit}
use Rattle.aintc_record.specs.declared.Aintc.{Aintc}
use Rattle.aintc_record.specs.Bounds.{bounded}
use Rattle.aintc_record.specs.Promises.{Bounds}
use Rattle.aintc_record.specs.Record.{with_threshold, with_sides, side, chosen_at, reset, blank}
use Rattle.aintc_record.specs.Route.{route_at, priority}
use Rattle.aintc_registers.specs.Inputs.{raised, pending, passes, eligible, pending_word}
use Rattle.aintc_registers.specs.Order.{before, first}
use Rattle.aintc_registers.specs.Settle.{settle, sound}

-- there is an eligible input
abbrev pub SomeEligible : Aintc → Bool → Type 0
SomeEligible s f = (k : ℕ) × (k < 128) × (eligible s f k ≡ true)

-- there is none
abbrev pub NoneEligible : Aintc → Bool → Type 0
NoneEligible s f = (k : ℕ) → k < 128 → eligible s f k ≡ false

-- input k is eligible, and before every other eligible one (000, 4.3.1.2.3)
pub record First (s : Aintc) (f : Bool) (k : ℕ) : Type 0 where
  pub within : k < 128
  pub fit : eligible s f k ≡ true
  pub others : (j : ℕ) → j < 128 → eligible s f j ≡ true → j ≢ k → before s k j ≡ true

-- the rules of a sound record (02, 2/12)
pub record Rules (s : Aintc) : Type 0 where
  -- the one chosen for IRQ and the one chosen for FIQ are within their bounds
  pub irq : Bounds s.irq
  pub fiq : Bounds s.fiq
  -- an output with none chosen has none that is eligible
  pub irq_quiet : s.irq.active ≡ false → NoneEligible s false
  pub fiq_quiet : s.fiq.active ≡ false → NoneEligible s true

pub record Promises : Type 0 where
  -- ---- inputs
  -- an input is raised exactly by its line or by its soft interrupt (000, 4.3.1.1)
  pub raised_is : (s : Aintc) (k : ℕ) → (raised s k ≡ true) ↔ ((bit_at s.lines k ≡ true) ⊎ (bit_at s.soft k ≡ true))
  -- it is pending for an output exactly if it is raised, not masked and routed there: 1 is FIQ (000, 4.3.1.2.1)
  pub pending_is : (s : Aintc) (f : Bool) (k : ℕ)
      → (pending s f k ≡ true) ↔ ((raised s k ≡ true) × (bit_at s.masks k ≡ false) × (route_at s k % 2 ≡ one f))
  -- bit i of PENDING n says whether input 32 n + i is pending, and it has no other bit (000, 4.5.18 and 4.5.19)
  pub pending_bit : (s : Aintc) (f : Bool) (n i : ℕ) → i < 32 → bit (pending_word s f n) i ≡ pending s f (32 * n + i)
  pub pending_below : (s : Aintc) (f : Bool) (n : ℕ) → pending_word s f n < 2 ^ 32
  -- another threshold does not change what is pending (000, 4.3.1.2.1)
  pub pending_free : (s : Aintc) (t : ℕ) (f : Bool) (k : ℕ) → pending (with_threshold s t) f k ≡ pending s f k
  -- a priority passes exactly if it is 0 or a lower number than the threshold (000, 4.3.1.2.2)
  pub passes_is : (s : Aintc) (p : ℕ) → (passes s p ≡ true) ↔ ((p ≡ 0) ⊎ (p < s.threshold))
  -- a threshold of 0 lets pass what 1 does, and one above 127 every input's priority (000, 4.3.1.2.2, of 0 and of 0xFF; of 0x80 to 0xFE K11)
  pub threshold_zero : (s : Aintc) (p : ℕ) → passes (with_threshold s 0) p ≡ passes (with_threshold s 1) p
  pub threshold_off : (s : Aintc) (k : ℕ) → 128 ≤ s.threshold → passes s (priority s k) ≡ true
  -- an input is eligible exactly if it is pending there and its priority passes (000, 4.3.1.2.2)
  pub eligible_is : (s : Aintc) (f : Bool) (k : ℕ) → (eligible s f k ≡ true) ↔ ((pending s f k ≡ true) × (passes s (priority s k) ≡ true))
  -- ---- the first
  -- an input is before another exactly if its priority number is lower, or equal and its own number higher (000, 4.3.1.2.3)
  pub before_is : (s : Aintc) (a b : ℕ) → (before s a b ≡ true) ↔ ((priority s a < priority s b) ⊎ ((priority s a ≡ priority s b) × (b < a)))
  -- a strict order: none is before itself, and what is before one that is before a third is before the third
  pub before_never : (s : Aintc) (a : ℕ) → before s a a ≡ false
  pub before_through : (s : Aintc) (a b c : ℕ) → before s a b ≡ true → before s b c ≡ true → before s a c ≡ true
  -- it compares any two different inputs
  pub before_either : (s : Aintc) (a b : ℕ) → a ≢ b → (before s a b ≡ true) ⊎ (before s b a ≡ true)
  -- there is a first exactly if some input is eligible (000, 4.3.1.2.3)
  pub first_some : (s : Aintc) (f : Bool) → (first s f < 128) ↔ SomeEligible s f
  -- it is eligible and before every other eligible one, and it is the only such (000, 4.3.1.2.3)
  pub first_is : (s : Aintc) (f : Bool) → SomeEligible s f → First s f (first s f)
  pub first_one : (s : Aintc) (f : Bool) (k : ℕ) → First s f k → first s f ≡ k
  -- without an eligible input it is 128, which is no input
  pub first_none : (s : Aintc) (f : Bool) → NoneEligible s f → first s f ≡ 128
  -- ---- what an output takes and keeps after a step
  -- settling touches the two chosen ones alone
  pub settled_rest : (s : Aintc) → settle s ≡ with_sides s (side (settle s) false) (side (settle s) true)
  -- a chosen one is held, number and priority, whatever has become of it (02, 2/12)
  pub settled_held : (s : Aintc) (f : Bool) → (side s f).active ≡ true → side (settle s) f ≡ side s f
  -- an output with none chosen takes the first, at the priority that it has then (000, 4.3.1.2.3)
  pub settled_first : (s : Aintc) (f : Bool) (k : ℕ) → (side s f).active ≡ false → First s f k → side (settle s) f ≡ chosen_at k (priority s k)
  -- it stays without one where none is eligible (000, 4.3.1.2.3)
  pub settled_none : (s : Aintc) (f : Bool) → NoneEligible s f → side (settle s) f ≡ side s f
  -- so it is then active exactly if some input is eligible (000, 4.3.1.2.3)
  pub settled_active : (s : Aintc) (f : Bool) → (side s f).active ≡ false → ((side (settle s) f).active ≡ true) ↔ SomeEligible s f
  -- what is eligible does not depend on who is chosen
  pub eligible_free : (s : Aintc) (f : Bool) (k : ℕ) → eligible (settle s) f k ≡ eligible s f k
  -- ---- soundness
  -- a record is sound exactly if it keeps each rule (02, 2/12)
  pub sound_is : (s : Aintc) → (sound s ≡ true) ↔ Rules s
  -- settling makes a record sound whose chosen ones are within their bounds, and leaves a sound one as it is
  pub settled_sound : (s : Aintc) → bounded s ≡ true → sound (settle s) ≡ true
  pub settled_same : (s : Aintc) → sound s ≡ true → settle s ≡ s
  -- what a reset leaves is sound, at whatever levels the lines are; so is the record where none was started
  pub reset_sound : (ws : List ℕ) → sound (reset ws) ≡ true
  pub blank_sound : sound blank ≡ true
