-- What is promised of a player, in the numbers of 01 that its report tells.
use Rattle.std.specs.Prelude.{ℕ, ◌<◌, ◌≤◌, ◌≡◌, Bool, true, false, List, [], ◌∷◌, ◌↔◌, ◌≢◌, length}
use Rattle.steps.specs.declared.Recorded.{Recorded}
use Rattle.numbers.specs.Promises.{told_at}
use Rattle.trace.specs.Promises.{Reads, Along, Ends}
use Rattle.machine.specs.declared.record.Machine.{Machine}
use Rattle.kinds.specs.Kinds.{is_kind, within, tells_privilege}
use Rattle.machine.specs.Machine.{blank, sound}
use Rattle.machine.specs.Steps.{step}
use Rattle.machine.specs.RecordPromises.{start_with}
use Rattle.beginning.specs.Asked.{Wanting, Configures}
use Rattle.beginning.specs.Begin.{begin_of}
use Rattle.beginning.specs.Play.{records_of, run_of, play_of}

-- a trace begins with a refusal, 0 for none, at a place
abbrev pub Begins : List ℕ → ℕ → ℕ → Type 0
Begins s refusal p = ((begin_of s).refusal ≡ refusal) × ((begin_of s).place ≡ p)

-- the steps of a trace tell their privilege, by the kind that it begins with (02, 2/12)
abbrev pub told : List ℕ → Bool
told s = tells_privilege (begin_of s).machine.kind

pub record Promises : Type 0 where
  -- ---- the beginning

  -- 11 is given exactly when a trace is longer than 65,536 bytes, at that offset (01, Numbers, 11)
  pub eleven : (s : List ℕ) (p : ℕ) → Begins s 11 p ↔ ((65536 < length s) × (p ≡ 65536))
  -- 8 is given exactly when a number that the beginning asks for is damaged, at that number (01, House trace)
  pub eight : (s : List ℕ) (p : ℕ)
      → Begins s 8 p ↔ ((ns : List ℕ) × (length s ≤ 65536) × Reads s 0 ns p × Wanting ns × ((told_at s p).refusal ≡ 8))
  -- 9 is given exactly when the first number is no kind of controller, at that number (01, Numbers, 9)
  pub nine : (s : List ℕ) (p : ℕ)
      → Begins s 9 p ↔ ((length s ≤ 65536) × (p ≡ 0) × ((told_at s 0).refusal ≡ 0) × (is_kind (told_at s 0).value ≡ false))
  -- 10 is given exactly when a number of the configuration is beyond its limit, at the first such number (01, Numbers, 10)
  pub ten : (s : List ℕ) (p : ℕ)
      → Begins s 10 p
      ↔ ((kind : ℕ) × (ns : List ℕ) × (length s ≤ 65536) × Reads s 0 (kind ∷ ns) p × Wanting (kind ∷ ns) × ((told_at s p).refusal ≡ 0)
      × (within kind (length ns) (told_at s p).value ≡ false))
  -- a configuration is accepted exactly when all its numbers are there and within their limits; the steps begin after them (01, House trace)
  pub accepted : (s : List ℕ) (p : ℕ)
      → Begins s 0 p ↔ ((kind : ℕ) × (ns : List ℕ) × (length s ≤ 65536) × Reads s 0 (kind ∷ ns) p × Configures kind ns)
  -- then the machine is the one that starts from these numbers (01, House trace)
  pub started : (s : List ℕ) (p kind : ℕ) (ns : List ℕ) → length s ≤ 65536 → Reads s 0 (kind ∷ ns) p → Configures kind ns
      → (begin_of s).machine ≡ start_with kind ns
  -- before that all its numbers are 0 (01, House trace; Numbers)
  pub not_started : (s : List ℕ) → (begin_of s).refusal ≢ 0 → (begin_of s).machine ≡ blank
  -- before a configuration is accepted no step is played, all numbers of the record are 0, and the beginning's refusal ends the play (01, House trace)
  pub nothing : (s : List ℕ) (limit : ℕ) → (begin_of s).refusal ≢ 0
      → play_of s limit ≡ record { steps = 0; machine = blank; refusal = (begin_of s).refusal; offset = (begin_of s).place }
  -- ---- the play

  -- the steps played are as many as the step records, refused steps among them (01, House trace; 01, Forms)
  pub counted : (s : List ℕ) (limit : ℕ) → (play_of s limit).steps ≡ length (records_of s limit).steps
  -- and at most as many as the limit (01, Numbers, 7)
  pub limited : (s : List ℕ) (limit : ℕ) → (play_of s limit).steps ≤ limit
  -- the machine after them is what they make of the first one, step by step (01, House trace)
  pub played : (s : List ℕ) (limit : ℕ) → (play_of s limit).machine ≡ run_of (begin_of s).machine (records_of s limit).steps
  pub played_none : (m : Machine) → run_of m [] ≡ m
  pub played_one : (m : Machine) (x : Recorded) (xs : List Recorded) → run_of m (x ∷ xs) ≡ run_of (step m x).machine xs
  -- after an accepted configuration it is sound (01, a sound record)
  pub soundly : (s : List ℕ) (limit : ℕ) → (begin_of s).refusal ≡ 0 → sound (play_of s limit).machine ≡ true
  -- the step records stand one after the other behind the configuration, and the play ends as 01 says where the next would begin: 0 at the
  -- length, 7 at a byte that remains when the limit is reached, or what refuses the next step, at the number at fault (01, House trace)
  pub ends : (s : List ℕ) (limit : ℕ) → (begin_of s).refusal ≡ 0
      → (p : ℕ) × Along (told s) s (begin_of s).place (records_of s limit).steps p
      × Ends (told s) limit s (play_of s limit).steps p (play_of s limit).refusal (play_of s limit).offset
  -- 7 is given exactly when the limit is reached and bytes remain, at the first of them (01, Numbers, 7)
  pub seven : (s : List ℕ) (limit p : ℕ)
      → (((play_of s limit).refusal ≡ 7) × ((play_of s limit).offset ≡ p))
      ↔ (((begin_of s).refusal ≡ 0) × Along (told s) s (begin_of s).place (records_of s limit).steps p × ((play_of s limit).steps ≡ limit) × (p < length s))
