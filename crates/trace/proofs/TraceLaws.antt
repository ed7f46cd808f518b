-- What a turn is in each of its ways, and what the steps from a place on are by the turn there: a loop over a trace needs these.
use Prim.Native.Nat.{ℕ, zero, suc, ◌-◌, ◌<◌, ◌≤◌}
use mathlib.Core.Path.{◌≡◌, refl, ap}
use mathlib.Core.Bool.{Bool}
use mathlib.Core.List.{List}
use native.Mathlib.Numerals.{sub-one}
use native.Mathlib.Omega.{arith}
use lib.ListN.{length}
use lib.Dec.{eqb, ltb}
use borrow.Author.Tests.{eqb-true, eqb-false, ltb-true, ltb-false}
use Rattle.words.proofs.ChoiceLaws.{pick_cases}
use Rattle.steps.specs.Refusals.{carried_out, limit_reached}
use Rattle.steps.specs.declared.Recorded.{Recorded}
use Rattle.trace.specs.declared.Turn.{Turn}
use Rattle.trace.specs.declared.Turn.TheVariants.{Found, Ended}
use Rattle.trace.specs.Steps.{step_at}
use Rattle.trace.specs.Trace.{ends, after, go_on, turn_at, steps_from}

-- ---- one turn

-- nothing is left; the limit is reached; a step, or what refuses it
pub turn_cases : (P : Turn → Type 0) (told : Bool) (s : List ℕ) (at left : ℕ) → (length s ≤ at → P (Ended carried_out (length s)))
    → (at < length s → left ≡ 0 → P (Ended limit_reached at)) → (at < length s → (left ≡ 0 → ⊥) → P (step_at told s at)) → P (turn_at told s at left)
unfolding turn_at
turn_cases P told s at left end limit step =
    pick_cases P (ltb at (length s))
    (λ h. pick_cases P (eqb left 0) (λ e. limit (ltb-true at (length s) h) (eqb-true left 0 e)) (λ e. step (ltb-true at (length s) h) (eqb-false left 0 e)))
    (λ h. end (ltb-false at (length s) h))

-- a turn that finds a step finds what stands there, and something is left of the limit
abbrev FoundHere : Bool → List ℕ → ℕ → ℕ → Turn → Type 0
FoundHere told s at left t = (x : Recorded) (next : ℕ) → t ≡ Found x next → (at < length s) × ((0 < left) × (step_at told s at ≡ Found x next))

abbrev steps_of : Turn → ℕ
steps_of (Found x next) = 1
steps_of (Ended n p) = 0

pub turn_found : (told : Bool) (s : List ℕ) (at left : ℕ) → FoundHere told s at left (turn_at told s at left)
turn_found told s at left =
    turn_cases (FoundHere told s at left) told s at left (λ h x next e. absurd (none e)) (λ h z x next e. absurd (none e)) (λ h z x next e. (h, (omega arith, e)))
  where
    none : {n p next : ℕ} {x : Recorded} → Ended n p ≡ Found x next → ⊥
    none e = let z : ◌≡◌ {A = ℕ} 0 1 = ap steps_of e in omega arith

-- ---- a loop: what is left from here gives the whole

-- a turn that ends
pub trace-ended : (told : Bool) (left : ℕ) (s : List ℕ) (at n p : ℕ) → turn_at told s at left ≡ Ended n p → steps_from told left s at ≡ ends n p
unfolding steps_from
trace-ended told zero s at n p e = ap (go_on (ends limit_reached)) e
trace-ended told (suc left) s at n p e = ap (go_on (steps_from told left s)) e

-- a turn that finds a step
pub trace_found : (told : Bool) (left : ℕ) (s : List ℕ) (at : ℕ) (x : Recorded) (next : ℕ) → turn_at told s at left ≡ Found x next
    → steps_from told left s at ≡ after x (steps_from told (left - 1) s next)
unfolding steps_from
trace_found told zero s at x next e = absurd (omega (arith, (turn_found told s at 0 x next e).1.0))
trace_found told (suc left) s at x next e = rw sub-one (ap (go_on (steps_from told left s)) e)

-- ---- how many

-- no more than the limit
pub steps_limited : (told : Bool) (limit : ℕ) (s : List ℕ) (at : ℕ) → length (steps_from told limit s at).steps ≤ limit
unfolding steps_from
steps_limited told zero s at =
    turn_cases (λ (t : Turn). length (go_on (ends limit_reached) t).steps ≤ 0) told s at 0 (λ h. omega arith) (λ h e. omega arith) (λ h e. absurd (e refl))
steps_limited told (suc limit) s at = go (turn_at told s at (suc limit)) (steps_limited told limit s)
  where
    go : (t : Turn) → ((p : ℕ) → length (steps_from told limit s p).steps ≤ limit) → length (go_on (steps_from told limit s) t).steps ≤ suc limit
    go (Found x p) h = omega (arith, h p)
    go (Ended n p) h = omega arith
