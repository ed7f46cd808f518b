-- What the text and the figures of a trace are in each of its ways.
use Prim.Native.Nat.{ℕ, ◌≤◌, ◌<◌}
use mathlib.Core.Path.{◌≡◌, sym, ap, ap₂, ◌∙◌}
use mathlib.Core.Bool.{Bool, true, false, ◌&&◌}
use mathlib.Core.List.{List, [], ◌∷◌}
use native.Mathlib.Omega.{arith}
use lib.Dec.{eqb, leb}
use lib.ListN.{length}
use borrow.Author.Tests.{eq-eqb, ne_eqb, eqb-true, leb-true}
use Rattle.words.proofs.ChoiceLaws.{pick_true, pick-false}
use Rattle.words.proofs.TruthLaws.{and_left, and_right}
use Rattle.steps.specs.Refusals.{carried_out}
use Rattle.text.specs.Text.{write, laid}
use Rattle.text.proofs.WriteLaws.{and_then, write-laid}
use Rattle.trace.specs.Trace.{Trace, steps_from}
use Rattle.kinds.specs.Kinds.{aic_kind, tells_privilege}
use Rattle.aic_record.specs.declared.Aic.{Aic}
use Rattle.aic_record.specs.Sound.{sound}
use Rattle.aic_record.specs.Promises.{Shaped}
use Rattle.aic_bounds.specs.declared.Bound.{Bound}
use Rattle.aic_bounds.specs.Bounds.{bound_of}
use Rattle.aic_bounds.specs.Over.{bounded_of, waits_begun, waits_unended, waits_unbounded}
use Rattle.aic_bounds.specs.declared.figures.Figures.{Figures}
use Rattle.aic_bounds.specs.Figures.{no_figures, figures_of, largest_now, unended_now}
use Rattle.aic_bounds.proofs.FiguresPromises as Told
use Rattle.machine.specs.declared.record.Machine.{Machine}
use Rattle.machine.proofs.MachineLaws.{sound_aic}
use Rattle.beginning.specs.declared.Begun.{Begun}
use Rattle.beginning.specs.Begin.{begin_of}
use Rattle.beginning.proofs.BeginningLaws.{begin-ready}
use Rattle.beginning.specs.Play.{records_from, records_of}
use Rattle.beginning.proofs.PlayLaws.{records-begun}
use Rattle.lines.specs.Listing.{end_of}
use Rattle.tally.specs.Tally.{steps_in}
use Rattle.tally.proofs.TallyLaws.{as_many}
use Rattle.tally.proofs.LengthLaws.{begun-length}
use Rattle.trace_bounds.specs.Waits.{waits_of}
use Rattle.trace_bounds.specs.Lines.{wait_lines, last_line, no_beginning, no_waits, no_source}
use Rattle.trace_bounds.specs.Listing.{most_played, is_source, lines_over, lines_of, is_listed, bound_text}
use Rattle.trace_bounds.specs.Figures.{figures_in, counts_of, six_of, terms_of}

pub source_small : (k : ℕ) → is_source k ≡ true → k < 32
unfolding is_source
source_small k h = omega (arith, leb-true k 31 (and_right (leb 1 k) _ h))

-- ---- the lines of some steps

-- the waits, the last line by the figures, and how the steps end
pub lines-made : (k : ℕ) (s : Aic) (t : Trace) (l : List ℕ) (p q r : List ℕ × ℕ) (f : Figures) (refusal offset : ℕ) → length t.steps ≤ 134217727
    → p ≡ write (l, 0) (wait_lines (waits_of k s (steps_in t.steps))) → f ≡ figures_of k s (steps_in t.steps)
    → (refusal ≡ t.refusal) × (offset ≡ t.offset)
    → q ≡ write p (last_line k f.begun (unended_now f) f.unbounded (bound_of (largest_now f))) → r ≡ write q (end_of refusal offset)
    → r ≡ laid l (lines_of k s t)
unfolding lines_of lines_over
lines-made k s t l p q r f refusal offset h ep ef (en, eo) eq er =
    and_then (l, 0) {p = q} {q = r} _ _ (and_then (l, 0) {p = p} {q = q} _ _ ep (eq ∙ ap (write p) told)) (er ∙ ap₂ (λ (n m : ℕ). write q (end_of n m)) en eo) ∙ write-laid l _
  where
    told : last_line k f.begun (unended_now f) f.unbounded (bound_of (largest_now f))
        ≡ last_line k (waits_begun k s (steps_in t.steps)) (waits_unended k s (steps_in t.steps)) (waits_unbounded k s (steps_in t.steps)) (bounded_of k s (steps_in t.steps))
    told =
        let w = (Told.kept).figures_tell s k (steps_in t.steps) (omega (arith, h, as_many t.steps)) in
        ap (λ (g : Figures). last_line k g.begun (unended_now g) g.unbounded (bound_of (largest_now g))) ef
        ∙ rw (w.begun, w.unended, w.unbounded, w.most)

-- ---- a trace

module _ (s : List ℕ) (k : ℕ) (b : Begun) (e : b ≡ begin_of s) where
  refusal_is : b.refusal ≡ (begin_of s).refusal
  refusal_is = ap (λ (d : Begun). d.refusal) e

  kind-is : b.machine.kind ≡ (begin_of s).machine.kind
  kind-is = ap (λ (d : Begun). d.machine.kind) e

  -- without a beginning
  pub no_beginning_lem : (b.refusal ≡ carried_out → ⊥) → no_beginning b.refusal b.place ≡ bound_text s k
  unfolding bound_text
  no_beginning_lem n =
      ap (λ (d : Begun). no_beginning d.refusal d.place) e ∙ pick-false _ (ne_eqb (begin_of s).refusal carried_out (λ z. n (refusal_is ∙ z)))

  pub not-begun : (b.refusal ≡ carried_out → ⊥) → false ≡ is_listed s k
  unfolding is_listed
  not-begun n = rw (ne_eqb (begin_of s).refusal carried_out (λ z. n (refusal_is ∙ z)))

  module _ (r : b.refusal ≡ carried_out) where
    begun : eqb (begin_of s).refusal carried_out ≡ true
    begun = eq-eqb (begin_of s).refusal carried_out (sym refusal_is ∙ r)

    -- of another controller
    pub no-waits : (b.machine.kind ≡ aic_kind → ⊥) → no_waits ≡ bound_text s k
    unfolding bound_text
    no-waits n = pick-false _ (ne_eqb (begin_of s).machine.kind aic_kind (λ z. n (kind-is ∙ z))) ∙ pick_true _ begun

    pub not_aic : (b.machine.kind ≡ aic_kind → ⊥) → false ≡ is_listed s k
    unfolding is_listed
    not_aic n = rw (begun, ne_eqb (begin_of s).machine.kind aic_kind (λ z. n (kind-is ∙ z)))

    module _ (z : b.machine.kind ≡ aic_kind) where
      told : false ≡ tells_privilege b.machine.kind
      told = rw z

      pub is-sound : sound b.machine.aic ≡ true
      is-sound = sound_aic b.machine z ∙ (begin-ready s b e r).0

      pub is_shaped : Shaped b.machine.aic
      is_shaped = (begin-ready s b e r).1

      pub is-short : length s ≤ 65536
      is-short = begun-length s b e r

      aic : eqb (begin_of s).machine.kind aic_kind ≡ true
      aic = eq-eqb (begin_of s).machine.kind aic_kind (sym kind-is ∙ z)

      -- the steps of an AIC tell no privilege
      records : (limit : ℕ) → steps_from false limit s b.place ≡ records_of s limit
      records limit =
          ap (λ (t : Bool). steps_from t limit s b.place) told ∙ sym (records-begun limit s b r) ∙ ap (λ (d : Begun). records_from limit s d) e

      pub no_source_lem : is_source k ≡ false → no_source ≡ bound_text s k
      unfolding bound_text
      no_source_lem n = pick-false _ n ∙ pick_true _ aic ∙ pick_true _ begun

      pub if_source : is_source k ≡ is_listed s k
      unfolding is_listed
      if_source = rw (begun, aic)

      pub the_lines : is_source k ≡ true → lines_of k b.machine.aic (steps_from false most_played s b.place) ≡ bound_text s k
      unfolding bound_text
      the_lines n =
          ap₂ (λ (m : Machine) (t : Trace). lines_of k m.aic t) (ap (λ (d : Begun). d.machine) e) (records most_played)
          ∙ pick_true _ n ∙ pick_true _ aic ∙ pick_true _ begun

      pub the_figures : (limit : ℕ) (f : Figures) → is_source k ≡ true → f ≡ figures_of k b.machine.aic (steps_in (steps_from false limit s b.place).steps)
          → f ≡ figures_in s limit k
      unfolding figures_in
      the_figures limit f n h =
          h ∙ ap₂ (λ (m : Machine) (t : Trace). figures_of k m.aic (steps_in t.steps)) (ap (λ (d : Begun). d.machine) e) (records limit)
          ∙ pick_true _ (sym if_source ∙ n)

-- ---- the figures of a trace

pub listed-is : (s : List ℕ) (k : ℕ) (b : Begun) (i : Bool) → b ≡ begin_of s → i ≡ is_source k
    → (eqb b.refusal carried_out && eqb b.machine.kind aic_kind && i) ≡ is_listed s k
unfolding is_listed
listed-is s k b i e f = ap₂ (λ (d : Begun) (j : Bool). eqb d.refusal carried_out && eqb d.machine.kind aic_kind && j) e f

pub listed-parts : (n m : ℕ) (i : Bool) → (eqb n carried_out && eqb m aic_kind && i) ≡ true → (n ≡ carried_out) × (m ≡ aic_kind) × (i ≡ true)
listed-parts n m i h =
    let p : eqb n carried_out ≡ true = search (and_left, and_right) in
    let q : eqb m aic_kind ≡ true = search (and_left, and_right) in
    let r : i ≡ true = search (and_left, and_right) in
    (eqb-true n carried_out p, eqb-true m aic_kind q, r)

pub no_figures_lem : (s : List ℕ) (limit k : ℕ) → is_listed s k ≡ false → no_figures ≡ figures_in s limit k
unfolding figures_in
no_figures_lem s limit k h = pick-false _ h

pub counts_are : (f : Figures) (u : ℕ) → u ≡ unended_now f → f.begun ∷ u ∷ f.unbounded ∷ f.first ∷ [] ≡ counts_of f
unfolding counts_of
counts_are f u e = rw e

pub terms_are : (f : Figures) (b : Bound) → b ≡ largest_now f → b.pending ∷ b.edges ∷ b.commands ∷ b.turns ∷ b.closed ∷ b.remembered ∷ [] ≡ terms_of f
unfolding terms_of six_of
terms_are f b e = rw e
