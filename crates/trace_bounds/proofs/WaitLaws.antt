-- The loop over the steps of a trace: what is told so far and what is left give the whole.
use Prim.Native.Nat.{ℕ, ◌+◌, ◌-◌, ◌*◌, ◌≤◌, ◌<◌}
use mathlib.Core.Path.{◌≡◌, refl, sym, ap, ap₂, ◌∙◌}
use mathlib.Core.Bool.{true, false, ◌&&◌}
use mathlib.Core.List.{List, [], ◌∷◌, ◌++◌}
use native.Mathlib.Omega.{arith}
use lib.Dec.{eqb, ltb}
use lib.ListN.{length}
use Rattle.words.specs.Choice.{pick}
use Rattle.steps.specs.Refusals.{carried_out}
use Rattle.steps.specs.declared.Step.{Step}
use Rattle.steps.specs.declared.Recorded.{Recorded}
use Rattle.text.specs.Text.{write}
use Rattle.text.proofs.WriteLaws.{rest_of, same_length}
use Rattle.trace.specs.declared.Turn.TheVariants.{Found, Ended}
use Rattle.trace.specs.Trace.{Trace, turn_at, steps_from}
use Rattle.trace.proofs.TraceLaws.{trace-ended, trace_found}
use Rattle.aic_record.specs.declared.Aic.{Aic}
use Rattle.aic_record.specs.Sound.{sound}
use Rattle.aic_record.specs.Promises.{Shaped}
use Rattle.aic_sources.specs.Normal.{waiting}
use Rattle.aic_registers.specs.declared.Answer.{Answer}
use Rattle.aic.specs.Model.{step}
use Rattle.aic.proofs.SoundLaws.{step-sound, step_shaped}
use Rattle.aic_runs.specs.Counted.{carried, starts_of, starts_other}
use Rattle.aic_waits.specs.Figures.{wait_after}
use Rattle.aic_waits.specs.Following.{started_from, stands_by}
use Rattle.aic_waits.proofs.RunLaws.{wait-most}
use Rattle.aic_waits.proofs.TellLaws.{stands-tells}
use Rattle.aic_bounds.specs.declared.Bound.{Bound}
use Rattle.aic_bounds.specs.declared.Marks.{Marks}
use Rattle.aic_bounds.specs.Bounds.{idle, bound_after}
use Rattle.aic_bounds.specs.Following.{marks_of, marks_by, bound_by}
use Rattle.aic_bounds.proofs.StepLaws.{after-wait}
use Rattle.aic_bounds.proofs.FollowLaws.{Room, less, by-is, after-room}
use Rattle.aic_bounds.proofs.Promises as Bounds
use Rattle.aic_bounds.specs.declared.figures.Figures.{Figures}
use Rattle.aic_bounds.specs.Figures.{no_figures, figures_with, figures_over, figures_of}
use Rattle.tally.specs.Tally.{steps_in}
use Rattle.tally.proofs.LengthLaws.{found_far}
use Rattle.trace_bounds.specs.Waits.{waited, only_if, ends, waits_from, waits_of}
use Rattle.trace_bounds.specs.Lines.{wait_lines}
use Rattle.trace_bounds.proofs.LineLaws.{lines_append}

-- ---- how large the numbers are after n steps

abbrev pub Fit : ℕ → Bound → Type 0
Fit n b = Room b (4294967295 - 32 * n) × (b.wait ≤ 2 * n)

pub fit_none : Fit 0 (idle 0)
fit_none = ((omega arith, omega arith, omega arith, omega arith, omega arith), omega arith)

pub fit_next : (k n : ℕ) (b : Bound) (s : Aic) (x : Step) → n < 65536 → Fit n b → Fit (n + 1) (bound_after k (n + 1) b s x)
fit_next k n b s x l (r, w) = (
  after-room k (n + 1) b s x (4294967295 - 32 * (n + 1)) (less b (4294967295 - 32 * n) (32 + (4294967295 - 32 * (n + 1))) (omega (arith, l)) r),
  omega (arith, w, after-wait k (n + 1) b s x, wait-most b.wait (waiting (step s x).aic k) (starts_of k s x) (starts_other k s x)),
)

-- ---- one step

marks-told : (s : Aic) (x : Step) → marks_by (eqb (step s x).refusal carried_out) s x ≡ marks_of s x
unfolding carried
marks-told s x = (Bounds.kept).marks_is s x

with-is : (n : ℕ) (f : Figures) (b : Bound) → (figures_with n f b).bound ≡ b
unfolding figures_with
with-is n f b = refl

-- the waits told by one step, and then those of the others
waits-more : (k n began : ℕ) (b : Bound) (s : Aic) (x : Step) (xs : List Step)
    → wait_lines (only_if (ends b (bound_after k (n + 1) b s x)) (waited began (n + 1) b))
    ++ wait_lines (waits_from k (n + 1) (pick (ltb b.wait 2) (n + 1) began) (bound_after k (n + 1) b s x) (step s x).aic xs)
    ≡ wait_lines (waits_from k n began b s (x ∷ xs))
unfolding waits_from
waits-more k n began b s x xs = sym (lines_append _ _)

figures-more : (k n : ℕ) (f : Figures) (s : Aic) (x : Step) (xs : List Step) → Room f.bound 32
    → figures_over k (n + 1) (figures_with (n + 1) f (bound_after k (n + 1) f.bound s x)) (step s x).aic xs ≡ figures_over k n f s (x ∷ xs)
unfolding figures_over
figures-more k n f s x xs r =
    ap (λ (c : Bound). figures_over k (n + 1) (figures_with (n + 1) f c) (step s x).aic xs)
    (sym (by-is k (wait_after k f.bound.wait s x) (n + 1) f.bound s x r))

-- ---- the loop

abbrev Left : List ℕ → ℕ → ℕ → List Step
Left trace left at = steps_in (steps_from false left trace at).steps

-- after n steps: the text stands up to `to`, the wait that stands began by a step, the figures are f, and the record is s
pub record Telling (trace : List ℕ) (limit start : ℕ) (first : Aic) (k : ℕ) (out₀ out : List ℕ) (at : ℕ) (s : Aic) (left to n began : ℕ) (f : Figures) : Type 0 where
  pub text : write (out, to) (wait_lines (waits_from k n began f.bound s (Left trace left at))) ≡ write (out₀, 0) (wait_lines (waits_of k first (Left trace limit start)))
  pub figures : figures_over k n f s (Left trace left at) ≡ figures_of k first (Left trace limit start)
  pub refusal : (steps_from false left trace at).refusal ≡ (steps_from false limit trace start).refusal
  pub offset : (steps_from false left trace at).offset ≡ (steps_from false limit trace start).offset
  pub same : length out ≡ length out₀
  pub ready : sound s ≡ true
  pub shaped : Shaped s
  pub far : n ≤ at
  pub fit : Fit n f.bound

pub begins : (trace : List ℕ) (limit start : ℕ) (first : Aic) (k : ℕ) (out : List ℕ) (f : Figures) → f ≡ no_figures → sound first ≡ true → Shaped first
    → Telling trace limit start first k out out start first limit 0 0 0 f
unfolding waits_of
begins trace limit start first k out f e ok h =
    rw e
    (record {
      text = refl;
      figures = refl;
      refusal = refl;
      offset = refl;
      same = refl;
      ready = ok;
      shaped = h;
      far = omega arith;
      fit = fit_none;
    })

module _ (trace : List ℕ) (limit start : ℕ) (first : Aic) (k : ℕ) (out₀ out : List ℕ) (at : ℕ) (s : Aic) (left to n began : ℕ) (f : Figures)
    (g : Telling trace limit start first k out₀ out at s left to n began f) where
  -- the end
  module _ (refusal offset : ℕ) (e : turn_at false trace at left ≡ Ended refusal offset) where
    none_left : Left trace left at ≡ []
    none_left = ap (λ (t : Trace). steps_in t.steps) (trace-ended false left trace at refusal offset e)

    last-wait : (xs : List Step) → xs ≡ [] → wait_lines (waits_from k n began f.bound s xs) ≡ wait_lines (only_if (ltb 1 f.bound.wait) (waited began 0 f.bound))
    unfolding waits_from
    last-wait xs z = rw z

    last_figures : (xs : List Step) → xs ≡ [] → f ≡ figures_over k n f s xs
    unfolding figures_over
    last_figures xs z = rw z

    pub told_text : (p : List ℕ × ℕ) → p ≡ write (out, to) (wait_lines (only_if (ltb 1 f.bound.wait) (waited began 0 f.bound)))
        → p ≡ write (out₀, 0) (wait_lines (waits_of k first (Left trace limit start)))
    told_text p h = h ∙ ap (write (out, to)) (sym (last-wait (Left trace left at) none_left)) ∙ g.text

    pub told_figures : f ≡ figures_of k first (Left trace limit start)
    told_figures = last_figures (Left trace left at) none_left ∙ g.figures

    pub told-ending : (refusal ≡ (steps_from false limit trace start).refusal) × (offset ≡ (steps_from false limit trace start).offset)
    told-ending = (
      ap (λ (t : Trace). t.refusal) (sym (trace-ended false left trace at refusal offset e)) ∙ g.refusal,
      ap (λ (t : Trace). t.offset) (sym (trace-ended false left trace at refusal offset e)) ∙ g.offset,
    )

  -- a step
  module _ (short : length trace ≤ 65536) (x : Recorded) (next : ℕ) (e : turn_at false trace at left ≡ Found x next) where
    pub small : n < 65536
    small = let p = found_far false trace at left x next e in omega (arith, g.far, short, p.0, p.1)

    abbrev y : Step
    y = x.step

    abbrev c : Bound
    c = bound_after k (n + 1) f.bound s y

    more_left : Left trace left at ≡ y ∷ Left trace (left - 1) next
    more_left = ap (λ (t : Trace). steps_in t.steps) (trace_found false left trace at x next e)

    on_step : (out' : List ℕ) (to' : ℕ) → (out', to') ≡ write (out, to) (wait_lines (only_if (ends f.bound c) (waited began (n + 1) f.bound)))
        → Telling trace limit start first k out₀ out' next (step s y).aic (left - 1) to' (n + 1) (pick (ltb f.bound.wait 2) (n + 1) began) (figures_with (n + 1) f c)
    on_step out' to' h =
        let r : Room f.bound 32 = less f.bound (4294967295 - 32 * n) 32 (omega (arith, small)) g.fit.0 in
        record {
          text =
              rw (with-is (n + 1) f c)
              (rest_of (out, to) (out', to') _ _ h ∙ ap (write (out, to)) (waits-more k n began f.bound s y (Left trace (left - 1) next))
              ∙ ap (λ (xs : List Step). write (out, to) (wait_lines (waits_from k n began f.bound s xs))) (sym more_left) ∙ g.text);
          figures =
              figures-more k n f s y (Left trace (left - 1) next) r ∙ ap (λ (xs : List Step). figures_over k n f s xs) (sym more_left) ∙ g.figures;
          refusal = ap (λ (t : Trace). t.refusal) (sym (trace_found false left trace at x next e)) ∙ g.refusal;
          offset = ap (λ (t : Trace). t.offset) (sym (trace_found false left trace at x next e)) ∙ g.offset;
          same = same_length (out, to) (out', to') _ h ∙ g.same;
          ready = step-sound s y g.shaped g.ready;
          shaped = step_shaped s y g.shaped;
          far = omega (arith, g.far, (found_far false trace at left x next e).0);
          fit = rw (with-is (n + 1) f c) (fit_next k n f.bound s y small g.fit);
        }

    pub tells_on : (a : Answer) (w : ℕ) (m : Marks) (out' : List ℕ) (to' began' : ℕ) (f' : Figures) → a ≡ step s y
        → w ≡ stands_by (started_from s.depth a.aic) a.aic f.bound.wait k → m ≡ marks_by (eqb a.refusal carried_out) s y
        → (out', to') ≡ write (out, to) (wait_lines (only_if (ltb 1 f.bound.wait && ltb w 2) (waited began (n + 1) f.bound)))
        → began' ≡ pick (ltb f.bound.wait 2) (n + 1) began → f' ≡ figures_with (n + 1) f (bound_by k w (n + 1) f.bound m a.aic)
        → Telling trace limit start first k out₀ out' next a.aic (left - 1) to' (n + 1) began' f'
    tells_on a w m out' to' began' f' ea ew em eo eg ef =
        let w2 : w ≡ wait_after k f.bound.wait s y =
        ew ∙ ap (λ (z : Answer). stands_by (started_from s.depth z.aic) z.aic f.bound.wait k) ea
        ∙ stands-tells s y f.bound.wait k g.shaped.2 g.ready (omega (arith, small, g.fit.1)) in
        let m2 : m ≡ marks_of s y = em ∙ ap (λ (z : Answer). marks_by (eqb z.refusal carried_out) s y) ea ∙ marks-told s y in
        let r : Room f.bound 32 = less f.bound (4294967295 - 32 * n) 32 (omega (arith, small)) g.fit.0 in
        let b2 : bound_by k w (n + 1) f.bound m a.aic ≡ c =
        ap₂ (λ (v : ℕ) (q : Marks). bound_by k v (n + 1) f.bound q a.aic) w2 m2
        ∙ ap (λ (z : Answer). bound_by k (wait_after k f.bound.wait s y) (n + 1) f.bound (marks_of s y) z.aic) ea
        ∙ by-is k (wait_after k f.bound.wait s y) (n + 1) f.bound s y r in
        let f2 : f' ≡ figures_with (n + 1) f c = ef ∙ ap (figures_with (n + 1) f) b2 in
        let o2 : (out', to') ≡ write (out, to) (wait_lines (only_if (ends f.bound c) (waited began (n + 1) f.bound))) =
        eo ∙ ap (λ (v : ℕ). write (out, to) (wait_lines (only_if (ltb 1 f.bound.wait && ltb v 2) (waited began (n + 1) f.bound))))
        (w2 ∙ sym (after-wait k (n + 1) f.bound s y)) in
        rw (ea, eg, f2) (on_step out' to' o2)
