-- The tally that is made of an AIC step by step is the report's.
use Prim.Native.Nat.{ℕ, suc, ◌+◌}
use mathlib.Core.Path.{◌≡◌, refl, sym, ap, ap₂, ◌∙◌}
use mathlib.Core.Bool.{not}
use mathlib.Core.List.{List, [], ◌∷◌}
use native.Mathlib.Nat.{add-zero}
use native.Mathlib.Omega.{arith}
use lib.Dec.{eqb}
use lib.ListN.{length}
use Rattle.words.specs.Counting.{one}
use Rattle.steps.specs.Refusals.{carried_out}
use Rattle.steps.specs.declared.Recorded.{Recorded}
use Rattle.trace.specs.Trace.{Trace, ends, after}
use Rattle.kinds.specs.Kinds.{aic_kind}
use Rattle.aic_record.specs.declared.Aic.{Aic}
use Rattle.aic.specs.Model.{step}
use Rattle.aic_runs.specs.Counted.{carried}
use Rattle.aic_runs.specs.Runs.{count}
use Rattle.aic_waits.specs.Following.{Figures, figures_over, followed}
use Rattle.machine.specs.declared.record.Machine.{Machine}
use Rattle.machine.specs.declared.Answer.{Answer}
use Rattle.machine.specs.Steps.{step as machine_step}
use Rattle.machine.proofs.StepLaws.{aic_steps, step-kind}
use Rattle.tally.specs.Tally.{refused_in, steps_in}
use Rattle.tally.specs.Following.{totals_of, tallied}
use Rattle.tally.proofs.TurnLaws.{aic-after}
use Rattle.tally.proofs.TallyLaws.{all_aic}
use Rattle.sheet_traces.specs.Following.{refuses, tallied_from}

-- nothing follows
pub none_follow : (n k : ℕ) (f : Figures) (s : Aic) (refusal offset : ℕ)
    → record { steps = n; refused = k; refusal = refusal; offset = offset; figures = totals_of f } ≡ tallied_from n k f s (ends refusal offset)
unfolding tallied_from count figures_over
none_follow n k f s refusal offset = rw (add-zero n, add-zero k)

-- a step, and the rest
pub one_follows : (n k : ℕ) (f : Figures) (s : Aic) (x : Recorded) (t : Trace)
    → tallied_from (n + 1) (k + one (refuses s x.step)) (followed f s x.step) (step s x.step).aic t ≡ tallied_from n k f s (after x t)
unfolding tallied_from count figures_over
one_follows n k f s x t =
    let u = (step s x.step).aic in
    let e : n + 1 + length t.steps ≡ n + suc (length t.steps) = omega arith in
    let b = one (refuses s x.step) in
    let q = count refuses u (steps_in t.steps) in
    let g : k + b + q ≡ k + (b + q) = omega arith in
    ap₂ (λ (i j : ℕ). record { steps = i; refused = j; refusal = t.refusal; offset = t.offset; figures = totals_of (figures_over (followed f s x.step) u (steps_in t.steps)) }) e g

-- ---- as a machine

refused_aic : (m : Machine) (xs : List Recorded) → m.kind ≡ aic_kind → count refuses m.aic (steps_in xs) ≡ refused_in m xs
unfolding refused_in count carried
refused_aic m [] z = refl
refused_aic m (x ∷ xs) z =
    let r : (step m.aic x.step).refusal ≡ (machine_step m x).refusal = sym (ap (λ (a : Answer). a.refusal) (aic_steps m x z)) in
    ap₂ (λ (k : ℕ) (a : Aic). one (not (eqb k carried_out)) + count refuses a (steps_in xs)) r (sym (aic-after m x z))
    ∙ ap (λ (k : ℕ). one (not (eqb (machine_step m x).refusal carried_out)) + k) (refused_aic (machine_step m x).machine xs (step-kind m x ∙ z))

pub of_machine : (n k : ℕ) (f : Figures) (m : Machine) (t : Trace) → m.kind ≡ aic_kind → tallied_from n k f m.aic t ≡ tallied n k f m t
unfolding tallied_from tallied
of_machine n k f m t z =
    ap₂ (λ (r : ℕ) (g : Figures). record { steps = n + length t.steps; refused = k + r; refusal = t.refusal; offset = t.offset; figures = totals_of g })
    (refused_aic m t.steps z) (sym (all_aic f m t.steps z))
