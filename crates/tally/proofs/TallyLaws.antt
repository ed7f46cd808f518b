-- The figures that the loop follows step by step are their definitions over the steps played.
use Prim.Native.Nat.{ℕ, zero, suc, ◌+◌, ◌≤◌, ◌<◌}
use mathlib.Core.Path.{◌≡◌, refl, sym, ap, ap₂, ◌∙◌, subst}
use mathlib.Core.Bool.{Bool}
use mathlib.Core.List.{List, [], ◌∷◌}
use native.Mathlib.Nat.{add-zero, zero-add}
use native.Mathlib.Decide.{ℕ_discrete}
use native.Mathlib.Omega.{arith}
use lib.Dec.{eqb}
use lib.ListN.{get_or, length}
use lib.Seq.{ext_get_or}
use borrow.Author.Tests.{eq-eqb, ne_eqb}
use Rattle.words.specs.Choice.{pick}
use Rattle.words.proofs.ChoiceLaws.{pick_true, pick-false}
use Rattle.steps.specs.Refusals.{carried_out}
use Rattle.steps.specs.declared.Recorded.{Recorded}
use Rattle.steps.specs.declared.Step.{Step}
use Rattle.trace.specs.Trace.{steps_from}
use Rattle.kinds.specs.Kinds.{aic_kind, tells_privilege}
use Rattle.kinds.specs.declared.Configuration.{Configuration}
use Rattle.kinds.proofs.KindLaws.{KindOf, is_aic, is_core, is_cic, is_aintc, is_indexed, is_none, kind_of, at_aic, at_core, at-cic, at_aintc, at_indexed, at_none}
use Rattle.aic_record.specs.declared.Aic.{Aic}
use Rattle.aic_record.specs.Record.{reset}
use Rattle.aic.specs.Model.{start as aic_start}
use Rattle.aic_waits.specs.Figures.{started_of, waited_of, entries_of}
use Rattle.aic_waits.specs.Following.{Figures, no_figures, figures_over, followed}
use Rattle.aic_waits.proofs.RunLaws.{Whole, whole-followed}
use Rattle.aic_waits.proofs.Promises as Waits
use Rattle.machine.specs.declared.record.Machine.{Machine}
use Rattle.machine.specs.Machine.{start}
use Rattle.machine.specs.Steps.{step}
use Rattle.machine.proofs.StepLaws.{step-kind}
use Rattle.beginning.specs.declared.Begun.{Begun}
use Rattle.beginning.specs.Begin.{begin_of}
use Rattle.beginning.proofs.BeginningLaws.{Beginning, overlong, damaged_at, no_kind, beyond_at, configured, beginning}
use Rattle.beginning.specs.Play.{records_from, records_of, report, play_of}
use Rattle.beginning.proofs.PlayLaws.{records-begun, records-refused}
use Rattle.totals.specs.declared.Totals.{Totals}
use Rattle.totals.specs.Totals.{zeros}
use Rattle.tally.specs.Tally.{refused_in, steps_in, each_from, each, figures_of, tally_of}
use Rattle.tally.specs.Following.{followed_by, followed_all, totals_of, tallied, not_tallied}
use Rattle.tally.proofs.LengthLaws.{records-short}
use Rattle.tally.proofs.TurnLaws.{aic-after, followed_aic, followed-other, tallied-ends}

-- ---- a figure of each source

pub each-length : (n i : ℕ) (f : ℕ → ℕ) → length (each_from n i f) ≡ n
unfolding each_from
each-length zero i f = refl
each-length (suc n) i f = ap suc (each-length n (i + 1) f)

each_from_lem : (n i : ℕ) (f : ℕ → ℕ) (k : ℕ) → k < n → get_or (each_from n i f) k 0 ≡ f (i + k)
unfolding each_from
each_from_lem zero i f k l = absurd (omega arith)
each_from_lem (suc n) i f zero l = ap f (sym (add-zero i))
each_from_lem (suc n) i f (suc k) l = each_from_lem n (i + 1) f k (omega arith) ∙ (let e : i + 1 + k ≡ i + suc k = omega arith in ap f e)

pub each_at : (f : ℕ → ℕ) (k : ℕ) → k < 32 → get_or (each f) k 0 ≡ f k
each_at f k l = each_from_lem 32 0 f k l ∙ ap f (zero-add k)

table_is : (xs : List ℕ) (f : ℕ → ℕ) → length xs ≡ 32 → ((i : ℕ) → i < 32 → get_or xs i 0 ≡ f i) → xs ≡ each f
table_is xs f l h = ext_get_or 0 xs (each f) (l ∙ sym (each-length 32 0 f)) (λ i m. let n : i < 32 = omega (arith, l, m) in h i n ∙ sym (each_at f i n))

-- ---- the steps of step records

pub as_many : (xs : List Recorded) → length (steps_in xs) ≡ length xs
as_many [] = refl
as_many (x ∷ xs) = ap suc (as_many xs)

pub all_aic : (f : Figures) (m : Machine) (xs : List Recorded) → m.kind ≡ aic_kind → followed_all f m xs ≡ figures_over f m.aic (steps_in xs)
unfolding followed_all figures_over
all_aic f m [] z = refl
all_aic f m (x ∷ xs) z =
    all_aic (followed_by f m x) (step m x).machine xs (step-kind m x ∙ z)
    ∙ ap₂ (λ (g : Figures) (a : Aic). figures_over g a (steps_in xs)) (followed_aic f m x z) (aic-after m x z)

all-other : (f : Figures) (m : Machine) (xs : List Recorded) → (m.kind ≡ aic_kind → ⊥) → followed_all f m xs ≡ f
unfolding followed_all
all-other f m [] z = refl
all-other f m (x ∷ xs) z =
    all-other (followed_by f m x) (step m x).machine xs (λ e. z (sym (step-kind m x) ∙ e)) ∙ followed-other f m x z

whole-over : (f : Figures) (s : Aic) (xs : List Step) → Whole f → Whole (figures_over f s xs)
unfolding figures_over
whole-over f s [] w = w
whole-over f s (x ∷ xs) w = whole-over (followed f s x) _ xs (whole-followed f s x w)

-- ---- what the loop follows

-- the AIC that a machine begins with is as a reset leaves it, also in a machine of another kind
abbrev pub Fresh : Aic → Type 0
Fresh a = (external : ℕ) × (lines : ℕ) × (a ≡ reset external lines)

fresh_start : (kind : ℕ) (c : Configuration) → Fresh (start kind c).aic
unfolding start aic_start
fresh_start kind c = go (kind_of kind)
  where
    go : KindOf kind → Fresh (start kind c).aic
    go (is_aic k) = subst (λ (m : Machine). Fresh m.aic) (at_aic kind _ k) (_, _, refl)
    go (is_core k) = subst (λ (m : Machine). Fresh m.aic) (at_core kind _ k) (0, 0, refl)
    go (is_cic k) = subst (λ (m : Machine). Fresh m.aic) (at-cic kind _ k) (0, 0, refl)
    go (is_aintc k) = subst (λ (m : Machine). Fresh m.aic) (at_aintc kind _ k) (0, 0, refl)
    go (is_indexed k) = subst (λ (m : Machine). Fresh m.aic) (at_indexed kind _ k) (0, 0, refl)
    go (is_none a b c d e) = subst (λ (m : Machine). Fresh m.aic) (at_none kind _ a b c d e) (0, 0, refl)

pub fresh : (s : List ℕ) → Fresh (begin_of s).machine.aic
fresh s = go (begin_of s) (beginning s)
  where
    go : (d : Begun) → Beginning s d → Fresh d.machine.aic
    go d (overlong l) = (0, 0, refl)
    go d (damaged_at ns p l h w t) = (0, 0, refl)
    go d (no_kind l t k) = (0, 0, refl)
    go d (beyond_at kind ns p l h w t b) = (0, 0, refl)
    go d (configured kind ns p l h w) = fresh_start kind _

zeros_are : totals_of no_figures ≡ zeros
unfolding zeros
zeros_are = refl

run_figures : (external lines : ℕ) (xs : List Step) → length xs ≤ 65536
    → totals_of (figures_over no_figures (reset external lines) xs)
    ≡ record { started = each (λ i. started_of i (reset external lines) xs); waited = each (λ i. waited_of i (reset external lines) xs); entries = each (λ i. entries_of i (reset external lines) xs) }
run_figures external lines xs l =
    let w = whole-over no_figures (reset external lines) xs (refl, refl, refl, refl) in
    let a = table_is _ (λ i. started_of i (reset external lines) xs) w.0 (λ i m. (Waits.kept).started_is external lines i xs m (omega (arith, l))) in
    let b = table_is _ (λ i. waited_of i (reset external lines) xs) w.2 (λ i m. (Waits.kept).waited_is external lines i xs m (omega (arith, l))) in
    let c = table_is _ (λ i. entries_of i (reset external lines) xs) w.3 (λ i m. (Waits.kept).entries_is external lines i xs m) in
    λ i. record { started = a i; waited = b i; entries = c i }

aic_figures : (a : Aic) (xs : List Step) → Fresh a → length xs ≤ 65536
    → totals_of (figures_over no_figures a xs) ≡ record { started = each (λ i. started_of i a xs); waited = each (λ i. waited_of i a xs); entries = each (λ i. entries_of i a xs) }
aic_figures a xs r l = rw r.2 (run_figures r.0 r.1 xs l)

figures_are : (m : Machine) (xs : List Recorded) → Fresh m.aic → length xs ≤ 65536 → totals_of (followed_all no_figures m xs) ≡ figures_of m xs
unfolding figures_of
figures_are m xs r l = go (ℕ_discrete m.kind aic_kind)
  where
    go : Dec (m.kind ≡ aic_kind)
        → totals_of (followed_all no_figures m xs)
        ≡ pick (eqb m.kind aic_kind)
        (record { started = each (λ i. started_of i m.aic (steps_in xs)); waited = each (λ i. waited_of i m.aic (steps_in xs)); entries = each (λ i. entries_of i m.aic (steps_in xs)) })
        zeros
    go (yes z) = ap totals_of (all_aic no_figures m xs z) ∙ aic_figures m.aic (steps_in xs) r (omega (arith, as_many xs, l)) ∙ pick_true _ (eq-eqb m.kind aic_kind z)
    go (no n) = ap totals_of (all-other no_figures m xs n) ∙ zeros_are ∙ pick-false _ (ne_eqb m.kind aic_kind n)

-- ---- the whole trace

tally-is : (s : List ℕ) (limit : ℕ) → tallied 0 0 no_figures (begin_of s).machine (records_of s limit) ≡ tally_of s limit
unfolding tallied tally_of play_of report
tally-is s limit =
    ap₂ (λ (k : ℕ) (f : Totals). record { steps = 0 + length (records_of s limit).steps; refused = k; refusal = (records_of s limit).refusal; offset = (records_of s limit).offset; figures = f })
    (zero-add (refused_in (begin_of s).machine (records_of s limit).steps)) (figures_are (begin_of s).machine (records_of s limit).steps (fresh s) (records-short s limit))

pub tally-begun : (s : List ℕ) (limit : ℕ) (told : Bool) (b : Begun) → b ≡ begin_of s → b.refusal ≡ carried_out → told ≡ tells_privilege b.machine.kind
    → tallied 0 0 no_figures b.machine (steps_from told limit s b.place) ≡ tally_of s limit
tally-begun s limit told b e r t =
    ap (λ (z : Bool). tallied 0 0 no_figures b.machine (steps_from z limit s b.place)) t
    ∙ ap (tallied 0 0 no_figures b.machine) (sym (records-begun limit s b r))
    ∙ ap (λ (d : Begun). tallied 0 0 no_figures d.machine (records_from limit s d)) e ∙ tally-is s limit

pub tally-refused : (s : List ℕ) (limit : ℕ) (b : Begun) → b ≡ begin_of s → (b.refusal ≡ carried_out → ⊥) → not_tallied b.refusal b.place ≡ tally_of s limit
tally-refused s limit b e r =
    ap (λ (f : Totals). record { steps = 0; refused = 0; refusal = b.refusal; offset = b.place; figures = f }) (sym zeros_are)
    ∙ tallied-ends 0 0 no_figures b.machine b.refusal b.place ∙ ap (tallied 0 0 no_figures b.machine) (sym (records-refused limit s b r))
    ∙ ap (λ (d : Begun). tallied 0 0 no_figures d.machine (records_from limit s d)) e ∙ tally-is s limit

-- a trace that begins finds no entry open
pub none_open : (s : List ℕ) (b : Begun) → b ≡ begin_of s → b.machine.aic.depth ≡ 0
unfolding reset
none_open s b e = ap (λ (d : Begun). d.machine.aic.depth) e ∙ ap (λ (a : Aic). a.depth) (fresh s).2
