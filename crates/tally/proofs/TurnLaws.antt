-- What a tally is in each of the ways that a turn of its loop goes.
use Prim.Native.Nat.{ℕ, suc, ◌+◌, ◌-◌}
use mathlib.Core.Path.{◌≡◌, sym, ap, ap₂, ◌∙◌, subst}
use mathlib.Core.Bool.{Bool, not}
use mathlib.Core.List.{List}
use native.Mathlib.Nat.{add-zero}
use native.Mathlib.Omega.{arith}
use lib.Dec.{eqb}
use lib.ListN.{length}
use borrow.Author.Tests.{eq-eqb, ne_eqb}
use Rattle.words.specs.Counting.{one}
use Rattle.words.proofs.ChoiceLaws.{pick_true, pick-false}
use Rattle.steps.specs.Refusals.{carried_out}
use Rattle.steps.specs.declared.Recorded.{Recorded}
use Rattle.trace.specs.declared.Turn.TheVariants.{Found, Ended}
use Rattle.trace.specs.Trace.{Trace, ends, after, turn_at, steps_from}
use Rattle.trace.proofs.TraceLaws.{trace-ended, trace_found}
use Rattle.kinds.specs.Kinds.{aic_kind}
use Rattle.aic_record.specs.declared.Aic.{Aic}
use Rattle.aic.specs.Model.{step as aic_step}
use Rattle.aic_waits.specs.Following.{Figures, followed}
use Rattle.aic_figures.specs.Book.{Kept}
use Rattle.machine.specs.declared.record.Machine.{Machine}
use Rattle.machine.specs.declared.Answer.{Answer}
use Rattle.machine.specs.Steps.{step}
use Rattle.machine.proofs.StepLaws.{aic_steps, step-kind}
use Rattle.tally.specs.declared.Tallied.{Tallied}
use Rattle.tally.specs.Tally.{refused_in}
use Rattle.tally.specs.Following.{followed_by, followed_all, totals_of, tallied, Followed}

-- ---- the figures of one step

-- the record of an AIC after a step
pub aic-after : (m : Machine) (x : Recorded) → m.kind ≡ aic_kind → (step m x).machine.aic ≡ (aic_step m.aic x.step).aic
aic-after m x z = ap (λ (a : Answer). a.machine.aic) (aic_steps m x z)

-- only an AIC's are moved on
pub followed_aic : (f : Figures) (m : Machine) (x : Recorded) → m.kind ≡ aic_kind → followed_by f m x ≡ followed f m.aic x.step
unfolding followed_by
followed_aic f m x z = sym (pick_true _ (eq-eqb m.kind aic_kind z))

pub followed-other : (f : Figures) (m : Machine) (x : Recorded) → (m.kind ≡ aic_kind → ⊥) → followed_by f m x ≡ f
unfolding followed_by
followed-other f m x z = sym (pick-false _ (ne_eqb m.kind aic_kind z))

-- a book of more steps than there were
kept-later : (f : Figures) (s : Aic) (n : ℕ) (book : List ℕ) → Kept f s n book → Kept f s (n + 1) book
kept-later f s n book h =
    record {
      size = h.size;
      whole = h.whole;
      asks = h.asks;
      waits = h.waits;
      few = omega (arith, h.few);
      started = h.started;
      fewer = λ i l. omega (arith, h.fewer i l);
      began = h.began;
      waited = h.waited;
      entries = h.entries;
      deep = h.deep;
    }

-- the book after a step of an AIC, and of another kind
module _ (f : Figures) (m : Machine) (n : ℕ) (x : Recorded) (book : List ℕ) (h : Followed f m n book) where
  pub follow_aic : (last : List ℕ) → m.kind ≡ aic_kind → Kept (followed f m.aic x.step) (aic_step m.aic x.step).aic (n + 1) last
      → Followed (followed_by f m x) (step m x).machine (n + 1) last
  follow_aic last z k = (
    (aic_step m.aic x.step).aic,
    subst (λ (g : Figures). Kept g (aic_step m.aic x.step).aic (n + 1) last) (sym (followed_aic f m x z)) k,
    λ _. sym (aic-after m x z),
  )

  pub follow-other : (m.kind ≡ aic_kind → ⊥) → Followed (followed_by f m x) (step m x).machine (n + 1) book
  follow-other z =
      (h.0, subst (λ (g : Figures). Kept g h.0 (n + 1) book) (sym (followed-other f m x z)) (kept-later f h.0 n book h.1), λ e. absurd (z (sym (step-kind m x) ∙ e)))

-- ---- the tally

-- nothing follows
pub tallied-ends : (n k : ℕ) (f : Figures) (m : Machine) (refusal offset : ℕ)
    → record { steps = n; refused = k; refusal = refusal; offset = offset; figures = totals_of f } ≡ tallied n k f m (ends refusal offset)
unfolding tallied refused_in followed_all
tallied-ends n k f m refusal offset = rw (add-zero n, add-zero k)

-- a step, and the rest
tallied-after : (n k : ℕ) (f : Figures) (m : Machine) (x : Recorded) (t : Trace)
    → tallied (n + 1) (k + one (not (eqb (step m x).refusal carried_out))) (followed_by f m x) (step m x).machine t ≡ tallied n k f m (after x t)
unfolding tallied refused_in followed_all
tallied-after n k f m x t =
    let e : n + 1 + length t.steps ≡ n + suc (length t.steps) = omega arith in
    let b = one (not (eqb (step m x).refusal carried_out)) in
    let q = refused_in (step m x).machine t.steps in
    let g : k + b + q ≡ k + (b + q) = omega arith in
    ap₂ (λ (i j : ℕ). record { steps = i; refused = j; refusal = t.refusal; offset = t.offset; figures = totals_of (followed_all (followed_by f m x) (step m x).machine t.steps) }) e g

module _ (n k : ℕ) (f : Figures) (m : Machine) (told : Bool) (left : ℕ) (s : List ℕ) (at : ℕ) where
  pub tallied-ended : (refusal p : ℕ) → turn_at told s at left ≡ Ended refusal p
      → record { steps = n; refused = k; refusal = refusal; offset = p; figures = totals_of f } ≡ tallied n k f m (steps_from told left s at)
  tallied-ended refusal p e = tallied-ends n k f m refusal p ∙ ap (tallied n k f m) (sym (trace-ended told left s at refusal p e))

  -- a turn that plays a step: a is what the step answers, g the figures after it, o whether it is refused, and r what the whole tally is
  pub tallied_found : (x : Recorded) (p : ℕ) (a : Answer) (g : Figures) (o : ℕ) (r : Tallied) → turn_at told s at left ≡ Found x p → a ≡ step m x
      → g ≡ followed_by f m x → o ≡ one (not (eqb a.refusal carried_out)) → tallied n k f m (steps_from told left s at) ≡ r
      → tallied (n + 1) (k + o) g a.machine (steps_from told (left - 1) s p) ≡ r
  tallied_found x p a g o r e h i j w =
      let rest = steps_from told (left - 1) s p in
      ap₂ (λ (q : ℕ) (y : Figures). tallied (n + 1) (k + q) y a.machine rest) j i
      ∙ ap (λ (b : Answer). tallied (n + 1) (k + one (not (eqb b.refusal carried_out))) (followed_by f m x) b.machine rest) h
      ∙ tallied-after n k f m x rest ∙ ap (tallied n k f m) (sym (trace_found told left s at x p e)) ∙ w
