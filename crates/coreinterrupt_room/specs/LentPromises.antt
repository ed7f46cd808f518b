-- What is promised of a record that is lent, one field for each sentence (01, CoreInterrupt; 01, Numbers).
use Rattle.std.specs.Prelude.{ℕ, ◌<◌, ◌≤◌, ◌≡◌, true, ◌↔◌, ◌≢◌, ◌⊎◌}
use Rattle.steps.specs.declared.Step.TheVariants.{Read, Write, Line}
use Rattle.steps.specs.Refusals.{carried_out, misconfigured}
use Rattle.coreinterrupt.specs.declared.Core.{Core}
use Rattle.coreinterrupt.specs.Model.{sound, start, step}
use Rattle.coreinterrupt_room.specs.declared.lent.Reply.{Reply}
use Rattle.coreinterrupt_room.specs.Lent.{start_over, step_told, Stepped, Started}

pub record Promises : Type 0 where
  -- ---- steps
  -- a step is told as a trace tells it: kind 1 and the offset of a read, 2 and the offset and value of a write, 3 and the line and its level (01, House
  -- trace); a read looks at no second number
  pub told_read : (c : Core) (offset second : ℕ) → step_told c 1 offset second ≡ step c (Read offset)
  pub told_write : (c : Core) (offset value : ℕ) → step_told c 2 offset value ≡ step c (Write offset value)
  pub told_line : (c : Core) (line level : ℕ) → step_told c 3 line level ≡ step c (Line line level)
  -- another kind is refused by 9, whatever the record, and leaves it as it was (01, Numbers)
  pub told_none : (c : Core) (kind first second : ℕ) → (kind < 1) ⊎ (3 < kind) → step_told c kind first second ≡ record { refusal = 9; value = 0; core = c }
  -- a step on the lent record answers the number and the value of the step by value, and leaves the record that this answers (01, CoreInterrupt)
  pub step_is : (c d : Core) (k x y : ℕ) (r : Reply)
      → Stepped c d k x y r
      ↔ ((d ≡ (step_told c k x y).core) × (r.refusal ≡ (step_told c k x y).refusal) × (r.value ≡ (step_told c k x y).value))
  -- a refused step leaves every byte of the lent record as it was, and answers the value 0 (01, Numbers)
  pub refused_same : (c d : Core) (k x y : ℕ) (r : Reply) → Stepped c d k x y r → r.refusal ≢ carried_out → (d ≡ c) × (r.value ≡ 0)
  -- a step keeps a sound record sound (01, CoreInterrupt)
  pub step_sound : (c d : Core) (k x y : ℕ) (r : Reply) → Stepped c d k x y r → sound c ≡ true → sound d ≡ true
  -- ---- starts
  -- a start over a record, of numbers within their limits, answers 0 and the new record, its lines low and its registers 0 (01, CoreInterrupt)
  pub over_taken : (c : Core) (f i fl il : ℕ) → f ≤ 8 → i ≤ 32 → fl ≤ 1 → il ≤ 1
      → start_over c f i fl il
      ≡ record {
        refusal = carried_out;
        value = 0;
        core = record {
          fiq = record { count = f; level = fl; inputs = 0; soft = 0; enable = 0 };
          irq = record { count = i; level = il; inputs = 0; soft = 0; enable = 0 };
        };
      }
  -- where some number is beyond its limit it answers 10, the value 0 and the record as it was (01, Numbers)
  pub over_refused : (c : Core) (f i fl il : ℕ) → (8 < f) ⊎ ((32 < i) ⊎ ((1 < fl) ⊎ (1 < il)))
      → start_over c f i fl il ≡ record { refusal = misconfigured; value = 0; core = c }
  -- a start of the lent record answers the number and the value of the start over it, and leaves the record that this answers (01, CoreInterrupt)
  pub start_is : (c d : Core) (f i fl il : ℕ) (r : Reply)
      → Started c d f i fl il r
      ↔ ((d ≡ (start_over c f i fl il).core) × (r.refusal ≡ (start_over c f i fl il).refusal) × (r.value ≡ (start_over c f i fl il).value))
  -- a refused start leaves every byte of the lent record as it was (01, Numbers)
  pub start_refused : (c d : Core) (f i fl il : ℕ) (r : Reply) → Started c d f i fl il r → r.refusal ≢ carried_out → d ≡ c
  -- it is refused by 10 exactly if some number is beyond its limit (01, Numbers)
  pub start_number : (c d : Core) (f i fl il : ℕ) (r : Reply) → Started c d f i fl il r
      → (r.refusal ≡ misconfigured) ↔ ((8 < f) ⊎ ((32 < i) ⊎ ((1 < fl) ⊎ (1 < il))))
  -- a start that is not refused leaves the record that a start by value answers (01, CoreInterrupt)
  pub start_taken : (c d : Core) (f i fl il : ℕ) (r : Reply) → Started c d f i fl il r → r.refusal ≡ carried_out → d ≡ (start f i fl il).core
  -- a start answers the value 0 (01, Numbers)
  pub start_value : (c d : Core) (f i fl il : ℕ) (r : Reply) → Started c d f i fl il r → r.value ≡ 0
