-- What a report is in each of the ways that a turn of the player goes, and what holds of all its steps.
use Prim.Native.Nat.{ℕ, suc, ◌+◌, ◌-◌, ◌≤◌}
use mathlib.Core.Path.{◌≡◌, sym, ap, ◌∙◌, subst}
use mathlib.Core.Bool.{Bool}
use mathlib.Core.List.{List, [], ◌∷◌}
use native.Mathlib.Nat.{add-zero}
use native.Mathlib.Omega.{arith}
use lib.ListN.{length}
use lib.Dec.{eqb}
use borrow.Author.Tests.{eq-eqb, ne_eqb}
use Rattle.words.proofs.ChoiceLaws.{pick_true, pick-false, pick_cases}
use Rattle.steps.specs.Refusals.{carried_out}
use Rattle.steps.specs.declared.Recorded.{Recorded}
use Rattle.trace.specs.declared.Turn.TheVariants.{Found, Ended}
use Rattle.trace.specs.Trace.{Trace, ends, after, turn_at, steps_from}
use Rattle.trace.proofs.TraceLaws.{trace-ended, trace_found, steps_limited}
use Rattle.kinds.specs.Kinds.{tells_privilege}
use Rattle.machine.specs.declared.record.Machine.{Machine}
use Rattle.machine.specs.RecordPromises.{Ready}
use Rattle.machine.specs.declared.Answer.{Answer}
use Rattle.machine.specs.Steps.{step}
use Rattle.machine.proofs.StepLaws.{step-ready}
use Rattle.beginning.specs.declared.Begun.{Begun}
use Rattle.beginning.specs.Begin.{begin_of}
use Rattle.beginning.specs.declared.reports.Played.{Played}
use Rattle.beginning.specs.Play.{records_from, run_of, report, play_of}

-- nothing follows
pub report-ends : (n : ℕ) (m : Machine) (refusal offset : ℕ) → record { steps = n; machine = m; refusal = refusal; offset = offset } ≡ report n m (ends refusal offset)
unfolding report run_of
report-ends n m refusal offset = rw (add-zero n)

-- a step, and the rest
report-after : (n : ℕ) (m : Machine) (x : Recorded) (t : Trace) → report (n + 1) (step m x).machine t ≡ report n m (after x t)
unfolding report run_of
report-after n m x t = let e : n + suc (length t.steps) ≡ n + 1 + length t.steps = omega arith in rw e

-- the two ways of a turn: the end; a step
module _ (n : ℕ) (m : Machine) (told : Bool) (left : ℕ) (s : List ℕ) (at : ℕ) where
  pub report-ended : (refusal p : ℕ) → turn_at told s at left ≡ Ended refusal p
      → record { steps = n; machine = m; refusal = refusal; offset = p } ≡ report n m (steps_from told left s at)
  report-ended refusal p e = report-ends n m refusal p ∙ ap (report n m) (sym (trace-ended told left s at refusal p e))

  -- a turn that plays a step: a is what the step answers, and r is what the whole play reports
  pub played : (x : Recorded) (p : ℕ) (a : Answer) (r : Played) → turn_at told s at left ≡ Found x p → a ≡ step m x
      → report n m (steps_from told left s at) ≡ r → report (n + 1) a.machine (steps_from told (left - 1) s p) ≡ r
  played x p a r e g w =
      ap (λ (b : Answer). report (n + 1) b.machine (steps_from told (left - 1) s p)) g ∙ report-after n m x (steps_from told (left - 1) s p)
      ∙ ap (report n m) (sym (trace_found told left s at x p e)) ∙ w

-- the machine after a step is ready for the next one
pub next-ready : (m : Machine) (x : Recorded) (a : Answer) → a ≡ step m x → Ready m → Ready a.machine
next-ready m x a g r = subst (λ (b : Answer). Ready b.machine) (sym g) (step-ready m x r)

-- ---- the records of a trace

-- those after a beginning
pub records-begun : (limit : ℕ) (s : List ℕ) (b : Begun) → b.refusal ≡ carried_out → records_from limit s b ≡ steps_from (tells_privilege b.machine.kind) limit s b.place
unfolding records_from
records-begun limit s b e = sym (pick_true _ (eq-eqb b.refusal carried_out e))

-- none without one
pub records-refused : (limit : ℕ) (s : List ℕ) (b : Begun) → (b.refusal ≡ carried_out → ⊥) → records_from limit s b ≡ ends b.refusal b.place
unfolding records_from
records-refused limit s b e = sym (pick-false _ (ne_eqb b.refusal carried_out e))

-- no more than the limit
pub records_limited : (limit : ℕ) (s : List ℕ) (b : Begun) → length (records_from limit s b).steps ≤ limit
unfolding records_from
records_limited limit s b =
    pick_cases (λ (t : Trace). length t.steps ≤ limit) (eqb b.refusal carried_out) (λ e. steps_limited (tells_privilege b.machine.kind) limit s b.place) (λ e. omega arith)

-- ---- the machine after some steps

pub run-ready : (m : Machine) (xs : List Recorded) → Ready m → Ready (run_of m xs)
unfolding run_of
run-ready m [] e = e
run-ready m (x ∷ xs) e = run-ready (step m x).machine xs (step-ready m x e)

-- ---- what is played after a beginning, by a loop that has the machine in a form of its own, and what without one

pub play-begun : (s : List ℕ) (limit : ℕ) (told : Bool) (m : Machine) (b : Begun) → b ≡ begin_of s → b.refusal ≡ carried_out → m ≡ b.machine
    → told ≡ tells_privilege b.machine.kind → report 0 m (steps_from told limit s b.place) ≡ play_of s limit
unfolding play_of records_from
play-begun s limit told m b e r h t =
    ap (λ (x : Machine). report 0 x (steps_from told limit s b.place)) h ∙ ap (λ (z : Bool). report 0 b.machine (steps_from z limit s b.place)) t
    ∙ ap (report 0 b.machine) (pick_true _ (eq-eqb b.refusal carried_out r)) ∙ ap (λ (x : Begun). report 0 x.machine (records_from limit s x)) e

pub play-refused : (s : List ℕ) (limit : ℕ) (b : Begun) → b ≡ begin_of s → (b.refusal ≡ carried_out → ⊥)
    → report 0 b.machine (ends b.refusal b.place) ≡ play_of s limit
unfolding play_of records_from
play-refused s limit b e r =
    ap (report 0 b.machine) (pick-false _ (ne_eqb b.refusal carried_out r)) ∙ ap (λ (x : Begun). report 0 x.machine (records_from limit s x)) e
