-- What is promised of the steps of a trace, in the numbers of 01 and 02 that an answer tells. A step is a number 1, 2 or 3 and those that go with it; where
-- privilege is told, a privilege number follows each offset.
use Rattle.std.specs.Prelude.{ℕ, suc, ◌<◌, ◌≤◌, ◌≡◌, Bool, true, false, List, [], ◌∷◌, ◌↔◌, ◌≢◌, ◌⊎◌, length}
use Rattle.steps.specs.declared.Recorded.{Recorded}
use Rattle.steps.specs.declared.Step.{Step}
use Rattle.steps.specs.declared.Step.TheVariants.{Read, Write, Line}
use Rattle.numbers.specs.Promises.{told_at}
use Rattle.trace.specs.declared.Turn.TheVariants.{Found, Ended}
use Rattle.trace.specs.Steps.{numbers_of, step_at, tell}
use Rattle.trace.specs.Trace.{turn_at, steps_from}

-- a step as it is recorded, made by a privilege
abbrev pub made : Step → ℕ → Recorded
made x privilege = record { step = x; privilege = privilege }

-- these numbers stand one after the other from a place on, and then comes the place p
abbrev pub Reads : List ℕ → ℕ → List ℕ → ℕ → Type 0
Reads s at [] p = at ≡ p
Reads s at (n ∷ ns) p = ((told_at s at).refusal ≡ 0) × (((told_at s at).value ≡ n) × Reads s (told_at s at).place ns p)

-- after so many numbers a step of this kind asks for another one: a 1 for one number in all, a 2 and a 3 for two; where privilege is told, a 1 for two and a 2
-- for three (02, 2/12)
abbrev pub Asks : Bool → ℕ → ℕ → Type 0
Asks false kind n = ((kind ≡ 1) × (n < 1)) ⊎ (((kind ≡ 2) ⊎ (kind ≡ 3)) × (n < 2))
Asks true kind n = ((kind ≡ 2) × (n < 3)) ⊎ (((kind ≡ 1) ⊎ (kind ≡ 3)) × (n < 2))

-- a step that has been read as far as these numbers asks for another one, first of all for its kind
abbrev pub Wanting : Bool → List ℕ → Type 0
Wanting told [] = Unit
Wanting told (kind ∷ ns) = Asks told kind (length ns)

-- a privilege that is not written is 1: that of a line step, and where privilege is not told that of each step (02, 2/12)
abbrev pub Unwritten : Step → Bool → ℕ → Type 0
Unwritten (Read offset) false p = p ≡ 1
Unwritten (Read offset) true p = Unit
Unwritten (Write offset value) false p = p ≡ 1
Unwritten (Write offset value) true p = Unit
Unwritten (Line line level) told p = p ≡ 1

-- these steps stand one after the other from a place on, and then comes the place p
abbrev pub Along : Bool → List ℕ → ℕ → List Recorded → ℕ → Type 0
Along told s at [] p = at ≡ p
Along told s at (x ∷ xs) p = (next : ℕ) × (step_at told s at ≡ Found x next) × Along told s next xs p

-- how a trace of n steps, of which there may be so many, ends at the place p where another one would begin
abbrev pub Ends : Bool → ℕ → List ℕ → ℕ → ℕ → ℕ → ℕ → Type 0
Ends told limit s n p refusal offset =
    ((length s ≤ p) × ((n ≤ limit) × ((refusal ≡ 0) × (offset ≡ length s))))
    ⊎ (((p < length s) × ((n ≡ limit) × ((refusal ≡ 7) × (offset ≡ p))))
    ⊎ ((p < length s) × ((n < limit) × (step_at told s p ≡ Ended refusal offset))))

pub record Promises : Type 0 where
  -- ---- what an answer tells

  -- a step that was found tells 0, its numbers and the place after it; an end its refusal, no numbers and an offset
  pub told_found : (told : Bool) (x : Recorded) (next : ℕ) → tell told (Found x next) ≡ record { refusal = 0; numbers = numbers_of told x; place = next }
  pub told_ended : (told : Bool) (n at : ℕ) → tell told (Ended n at) ≡ record { refusal = n; numbers = []; place = at }
  -- 1 offset is a read, 2 offset value a write, 3 line level a line step (01, House trace)
  pub read_is_one : (offset privilege : ℕ) → numbers_of false (made (Read offset) privilege) ≡ 1 ∷ offset ∷ []
  pub write_is_two : (offset value privilege : ℕ) → numbers_of false (made (Write offset value) privilege) ≡ 2 ∷ offset ∷ value ∷ []
  pub line_is_three : (told : Bool) (line level privilege : ℕ) → numbers_of told (made (Line line level) privilege) ≡ 3 ∷ line ∷ level ∷ []
  -- where privilege is told, 1 offset privilege is a read and 2 offset privilege value a write; a line step has no offset and so none (02, 2/12)
  pub read_told : (offset privilege : ℕ) → numbers_of true (made (Read offset) privilege) ≡ 1 ∷ offset ∷ privilege ∷ []
  pub write_told : (offset value privilege : ℕ) → numbers_of true (made (Write offset value) privilege) ≡ 2 ∷ offset ∷ privilege ∷ value ∷ []
  -- ---- the step at a place

  -- a step is found only where its numbers stand, and the next place is the one after them (01, House trace)
  pub numbers : (told : Bool) (s : List ℕ) (at : ℕ) → (tell told (step_at told s at)).refusal ≡ 0
      → Reads s at (tell told (step_at told s at)).numbers (tell told (step_at told s at)).place
  -- and is found exactly where they stand, made by the privilege that is written, by 1 where none is (01, House trace; 02, 2/12)
  pub found : (told : Bool) (s : List ℕ) (at p : ℕ) (x : Recorded)
      → (step_at told s at ≡ Found x p) ↔ (Unwritten x.step told x.privilege × Reads s at (numbers_of told x) p)
  -- 8 is given exactly when a number that the step asks for is damaged, at that number and not at the step (01, House trace)
  pub eight : (told : Bool) (s : List ℕ) (at p : ℕ) → (((tell told (step_at told s at)).refusal ≡ 8) × ((tell told (step_at told s at)).place ≡ p))
      ↔ ((ns : List ℕ) × Reads s at ns p × Wanting told ns × ((told_at s p).refusal ≡ 8))
  -- 9 is given exactly when the kind is a number other than 1, 2 and 3, at the kind (01, Numbers, 9)
  pub nine : (told : Bool) (s : List ℕ) (at : ℕ) → ((tell told (step_at told s at)).refusal ≡ 9)
      ↔ (((told_at s at).refusal ≡ 0) × (((told_at s at).value ≢ 1) × (((told_at s at).value ≢ 2) × ((told_at s at).value ≢ 3))))
  pub nine_at : (told : Bool) (s : List ℕ) (at : ℕ) → (tell told (step_at told s at)).refusal ≡ 9 → (tell told (step_at told s at)).place ≡ at
  -- no other refusal is given to a step that is read (01, Numbers)
  pub no_other : (told : Bool) (s : List ℕ) (at : ℕ)
      → ((tell told (step_at told s at)).refusal ≡ 0) ⊎ (((tell told (step_at told s at)).refusal ≡ 8) ⊎ ((tell told (step_at told s at)).refusal ≡ 9))
  -- the next place is beyond this one and within the trace (01, House trace)
  pub next : (told : Bool) (s : List ℕ) (at : ℕ) → (tell told (step_at told s at)).refusal ≡ 0
      → (at < (tell told (step_at told s at)).place) × ((tell told (step_at told s at)).place ≤ length s)
  -- ---- a turn

  -- where no byte is left a trace ends without a refusal, at its length, whatever is left of the limit (01, House trace)
  pub turn_end : (told : Bool) (s : List ℕ) (at left : ℕ) → length s ≤ at → turn_at told s at left ≡ Ended 0 (length s)
  -- where bytes remain and nothing is left of the limit it ends with 7, before a kind is read (01, House trace; Numbers, 7)
  pub turn_limit : (told : Bool) (s : List ℕ) (at : ℕ) → at < length s → turn_at told s at 0 ≡ Ended 7 at
  -- else the step is read
  pub turn_step : (told : Bool) (s : List ℕ) (at left : ℕ) → at < length s → 0 < left → turn_at told s at left ≡ step_at told s at
  -- ---- all steps from a place on

  -- a turn that ends a trace ends its steps, with that refusal and offset
  pub ended : (told : Bool) (limit : ℕ) (s : List ℕ) (at n p : ℕ) → turn_at told s at limit ≡ Ended n p
      → steps_from told limit s at ≡ record { steps = []; refusal = n; offset = p }
  -- a turn that finds a step is followed by those from the next place on, one fewer at most (01, House trace)
  pub onward : (told : Bool) (limit : ℕ) (s : List ℕ) (at : ℕ) (x : Recorded) (p : ℕ) → turn_at told s at (suc limit) ≡ Found x p
      → steps_from told (suc limit) s at
      ≡ record { steps = x ∷ (steps_from told limit s p).steps; refusal = (steps_from told limit s p).refusal; offset = (steps_from told limit s p).offset }
  -- the steps of a trace stand one after the other, and it ends as 01 says where the next one would begin (01, House trace; Numbers, 7)
  pub trace : (told : Bool) (limit : ℕ) (s : List ℕ) (at : ℕ)
      → (p : ℕ) × Along told s at (steps_from told limit s at).steps p
      × Ends told limit s (length (steps_from told limit s at).steps) p (steps_from told limit s at).refusal (steps_from told limit s at).offset
  -- a read at an offset of three bytes, a line step and a write, of which two may be read: 7 at the third (01, House trace)
  pub worked : steps_from false 2 (1 ∷ 229 ∷ 142 ∷ 38 ∷ 3 ∷ 5 ∷ 1 ∷ 2 ∷ 20 ∷ 35 ∷ []) 0
      ≡ record { steps = made (Read 624485) 1 ∷ made (Line 5 1) 1 ∷ []; refusal = 7; offset = 7 }
  -- with privileges: a read by 0, a write by 1, a line step, a read by 2, and a read whose privilege is missing: 8 there (02, 2/12)
  pub worked_told : steps_from true 20000 (1 ∷ 64 ∷ 0 ∷ 2 ∷ 72 ∷ 1 ∷ 35 ∷ 3 ∷ 5 ∷ 1 ∷ 1 ∷ 64 ∷ 2 ∷ 1 ∷ 64 ∷ []) 0
      ≡ record { steps = made (Read 64) 0 ∷ made (Write 72 35) 1 ∷ made (Line 5 1) 1 ∷ made (Read 64) 2 ∷ []; refusal = 8; offset = 15 }
