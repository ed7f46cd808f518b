-- A trace has no more steps than bytes.
use Prim.Native.Nat.{ℕ, zero, suc, ◌-◌, ◌≤◌, ◌<◌}
use mathlib.Core.Path.{◌≡◌, sym, ap, ◌∙◌, subst}
use mathlib.Core.Bool.{Bool}
use mathlib.Core.List.{List}
use native.Mathlib.Omega.{arith}
use native.Mathlib.Decide.{ℕ_discrete}
use lib.ListN.{length}
use Rattle.steps.specs.Refusals.{carried_out, limit_reached}
use Rattle.steps.specs.declared.Recorded.{Recorded}
use Rattle.numbers.proofs.ReadLaws.{next_place}
use Rattle.trace.specs.declared.Turn.{Turn}
use Rattle.trace.specs.declared.Turn.TheVariants.{Found, Ended}
use Rattle.trace.specs.Trace.{ends, go_on, turn_at, steps_from}
use Rattle.trace.proofs.StepLaws.{Outcome, no_kind as Outcome·no_kind, unknown_kind, no_first, one_number, no_second, two_numbered, no_third, three_numbered, outcome}
use Rattle.trace.proofs.TraceLaws.{turn_cases}
use Rattle.kinds.specs.Kinds.{tells_privilege}
use Rattle.beginning.specs.declared.Begun.{Begun}
use Rattle.beginning.specs.Begin.{longest, begin_of}
use Rattle.beginning.proofs.BeginningLaws.{Beginning, overlong, damaged_at, no_kind, beyond_at, configured, beginning}
use Rattle.beginning.specs.Play.{records_of}
use Rattle.beginning.proofs.PlayLaws.{records-begun, records-refused}

-- the place after a step that is found is further on, and no further than the end
abbrev Further : List ℕ → ℕ → Turn → Type 0
Further s at (Found x next) = (at < next) × (next ≤ length s)
Further s at (Ended n p) = Unit

module _ (told : Bool) (s : List ℕ) (at : ℕ) where
  found_further : (n : Turn) → Outcome told s at n → Further s at n
  found_further n (Outcome·no_kind e) = tt
  found_further n (unknown_kind kind p e o) = tt
  found_further n (no_first kind p e l f) = tt
  found_further n (one_number step kind p x next w e f) =
      let a = next_place s at kind p e in
      let b = next_place s p x next f in
      (omega (arith, a.0, b.0), b.1)
  found_further n (no_second kind p x q e l f g) = tt
  found_further n (two_numbered step kind p x q y next w e f g) =
      let a = next_place s at kind p e in
      let b = next_place s p x q f in
      let c = next_place s q y next g in
      (omega (arith, a.0, b.0, c.0), c.1)
  found_further n (no_third kind p x q y r e l f g h) = tt
  found_further n (three_numbered step kind p x q y r z next w e f g h) =
      let a = next_place s at kind p e in
      let b = next_place s p x q f in
      let c = next_place s q y r g in
      let d = next_place s r z next h in
      (omega (arith, a.0, b.0, c.0, d.0), d.1)

  turn_further : (left : ℕ) → Further s at (turn_at told s at left)
  turn_further left = turn_cases (Further s at) told s at left (λ h. tt) (λ h z. tt) (λ h z. found_further _ (outcome told s at))

begun-short : (s : List ℕ) (b : Begun) → Beginning s b → b.refusal ≡ carried_out → length s ≤ longest
begun-short s b (overlong l) z = absurd (omega arith)
begun-short s b (damaged_at ns p l h w t) z = absurd (omega arith)
begun-short s b (no_kind l t k) z = absurd (omega arith)
begun-short s b (beyond_at kind ns p l h w t o) z = absurd (omega arith)
begun-short s b (configured kind ns p l h w) z = l

pub found_far : (told : Bool) (s : List ℕ) (at left : ℕ) (x : Recorded) (next : ℕ) → turn_at told s at left ≡ Found x next → (at < next) × (next ≤ length s)
found_far told s at left x next e = subst (Further s at) e (turn_further told s at left)

pub begun-length : (s : List ℕ) (b : Begun) → b ≡ begin_of s → b.refusal ≡ carried_out → length s ≤ 65536
begun-length s b e z = begun-short s (begin_of s) (beginning s) (ap (λ (d : Begun). d.refusal) (sym e) ∙ z)

steps-short : (told : Bool) (limit : ℕ) (s : List ℕ) (at : ℕ) → length (steps_from told limit s at).steps ≤ length s - at
unfolding steps_from
steps-short told zero s at = go (turn_at told s at 0) (turn_further told s at 0)
  where
    go : (t : Turn) → Further s at t → length (go_on (ends limit_reached) t).steps ≤ length s - at
    go (Found x p) f = omega (arith, f.0, f.1)
    go (Ended n p) f = omega arith
steps-short told (suc limit) s at = go (turn_at told s at (suc limit)) (turn_further told s at (suc limit)) (steps-short told limit s)
  where
    go : (t : Turn) → Further s at t → ((p : ℕ) → length (steps_from told limit s p).steps ≤ length s - p) → length (go_on (steps_from told limit s) t).steps ≤ length s - at
    go (Found x p) f h = omega (arith, f.0, f.1, h p)
    go (Ended n p) f h = omega arith

pub records-short : (s : List ℕ) (limit : ℕ) → length (records_of s limit).steps ≤ 65536
records-short s limit = go (ℕ_discrete (begin_of s).refusal carried_out)
  where
    go : Dec ((begin_of s).refusal ≡ carried_out) → length (records_of s limit).steps ≤ 65536
    go (yes z) = rw (records-begun limit s (begin_of s) z) (omega (arith, steps-short (tells_privilege (begin_of s).machine.kind) limit s (begin_of s).place, begun-short s (begin_of s) (beginning s) z))
    go (no n) = rw (records-refused limit s (begin_of s) n) (omega arith)
