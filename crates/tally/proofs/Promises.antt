-- The promises of the figures of a trace, kept.
use Prim.Native.Nat.{ℕ, ◌+◌, ◌≤◌, ◌<◌}
use mathlib.Core.Path.{◌≡◌, refl, sym, ap, ◌∙◌, subst}
use mathlib.Core.Bool.{Bool, not}
use mathlib.Core.List.{List, [], ◌∷◌}
use mathlib.Core.Logic.{◌≢◌}
use native.Mathlib.Nat.{zero-add}
use native.Mathlib.Omega.{arith}
use lib.Dec.{eqb}
use lib.ListN.{get_or, length}
use borrow.Author.Tests.{eqb-true, eq-eqb}
use Rattle.words.specs.Counting.{one}
use Rattle.words.proofs.ChoiceLaws.{pick_cases}
use Rattle.words.proofs.CountingLaws.{one_le}
use Rattle.words.proofs.TruthLaws.{clash}
use Rattle.steps.specs.Refusals.{carried_out}
use Rattle.steps.specs.declared.Recorded.{Recorded}
use Rattle.steps.specs.declared.Step.{Step}
use Rattle.trace.specs.Trace.{Trace, steps_from}
use Rattle.trace.specs.Promises.{Along, Ends}
use Rattle.trace.proofs.Promises as Traces
use Rattle.kinds.specs.Kinds.{aic_kind, tells_privilege}
use Rattle.aic_record.specs.declared.Aic.{Aic}
use Rattle.aic_runs.specs.Counted.{starts_of}
use Rattle.aic_runs.specs.Runs.{count}
use Rattle.aic.specs.Model.{step as aic_step}
use Rattle.aic_waits.specs.Figures.{started_of, waited_of, entries_of}
use Rattle.aic_waits.proofs.Promises as Waits
use Rattle.machine.specs.declared.record.Machine.{Machine}
use Rattle.machine.specs.Steps.{step}
use Rattle.beginning.specs.Begin.{begin_of}
use Rattle.beginning.specs.Play.{records_of, report, play_of}
use Rattle.beginning.proofs.PlayLaws.{records-begun}
use Rattle.totals.specs.declared.Totals.{Totals}
use Rattle.totals.specs.Promises.{Whole, Source}
use Rattle.totals.specs.Totals.{zeros}
use Rattle.totals.proofs.Promises as Sums
use Rattle.tally.specs.declared.Tallied.{Tallied}
use Rattle.tally.specs.Tally.{refused_in, steps_in, each, figures_of, tally_of}
use Rattle.tally.specs.Promises.{Promises, aic_of, played_of, Holds}
use Rattle.tally.proofs.LengthLaws.{records-short}
use Rattle.tally.proofs.TallyLaws.{each-length, each_at, Fresh, fresh, as_many, tally-refused}

-- ---- steps

played : (s : List ℕ) (limit : ℕ)
    → ((tally_of s limit).steps ≡ (play_of s limit).steps) × ((tally_of s limit).refusal ≡ (play_of s limit).refusal) × ((tally_of s limit).offset ≡ (play_of s limit).offset)
unfolding tally_of
played s limit = (refl, refl, refl)

refused : (s : List ℕ) (limit : ℕ) → (tally_of s limit).refused ≡ refused_in (begin_of s).machine (records_of s limit).steps
unfolding tally_of
refused s limit = refl

steps_are : (s : List ℕ) (limit : ℕ) → (tally_of s limit).steps ≡ length (records_of s limit).steps
unfolding tally_of play_of report
steps_are s limit = zero-add (length (records_of s limit).steps)

refused_none : (m : Machine) → refused_in m [] ≡ 0
unfolding refused_in
refused_none m = refl

refused-more : (m : Machine) (x : Recorded) (xs : List Recorded) → refused_in m (x ∷ xs) ≡ one (not (eqb (step m x).refusal 0)) + refused_in (step m x).machine xs
unfolding refused_in
refused-more m x xs = refl

refused-most : (m : Machine) (xs : List Recorded) → refused_in m xs ≤ length xs
unfolding refused_in
refused-most m [] = omega arith
refused-most m (x ∷ xs) = omega (arith, one_le (not (eqb (step m x).refusal carried_out)), refused-most (step m x).machine xs)

-- ---- the steps followed

holds : (told : Bool) (s : List ℕ) (at : ℕ) (xs : List Recorded) (p : ℕ) → Along told s at xs p → Holds told s at (steps_in xs) p
holds told s at [] p h = h
holds told s at (x ∷ xs) p h = (x.privilege, h.0, h.1, holds told s h.0 xs p h.2)

-- the steps of step records stand as these do, and are as many
abbrev Held : Bool → ℕ → List ℕ → ℕ → Trace → Type 0
Held told limit s at t = (p : ℕ) × Holds told s at (steps_in t.steps) p × Ends told limit s (length (steps_in t.steps)) p t.refusal t.offset

held : (told : Bool) (limit : ℕ) (s : List ℕ) (at : ℕ) → Held told limit s at (steps_from told limit s at)
held told limit s at =
    let t = steps_from told limit s at in
    let w = (Traces.kept).trace told limit s at in
    (w.0, holds told s at t.steps w.0 w.1, subst (λ (n : ℕ). Ends told limit s n w.0 t.refusal t.offset) (sym (as_many t.steps)) w.2)

follows : (s : List ℕ) (limit : ℕ) → (begin_of s).refusal ≡ 0
    → (p : ℕ) × Holds (tells_privilege (begin_of s).machine.kind) s (begin_of s).place (played_of s limit) p
    × Ends (tells_privilege (begin_of s).machine.kind) limit s (length (played_of s limit)) p (tally_of s limit).refusal (tally_of s limit).offset
unfolding tally_of play_of report
follows s limit z =
    let told = tells_privilege (begin_of s).machine.kind in
    subst (Held told limit s (begin_of s).place) (sym (records-begun limit s (begin_of s) z)) (held told limit s (begin_of s).place)

-- ---- figures

-- those of an AIC over some steps
abbrev aic_figures : Aic → List Step → Totals
aic_figures a xs = record { started = each (λ i. started_of i a xs); waited = each (λ i. waited_of i a xs); entries = each (λ i. entries_of i a xs) }

aic_has : (a : Aic) (xs : List Step) (i : ℕ) → i < 32 → Source (aic_figures a xs) i (started_of i a xs) (waited_of i a xs) (entries_of i a xs)
aic_has a xs i l =
    record {
      started = each_at (λ k. started_of k a xs) i l;
      waited = each_at (λ k. waited_of k a xs) i l;
      entries = each_at (λ k. entries_of k a xs) i l;
    }

-- whatever holds of the figures of an AIC, where the trace begins with one, and of zeros where not
by_figures : (P : Totals → Type 0) (s : List ℕ) (limit : ℕ)
    → ((begin_of s).machine.kind ≡ 0 → P (aic_figures (aic_of s) (played_of s limit))) → ((begin_of s).machine.kind ≢ 0 → P zeros) → P (tally_of s limit).figures
unfolding tally_of figures_of
by_figures P s limit a z =
    pick_cases P (eqb (begin_of s).machine.kind aic_kind) (λ e. a (eqb-true (begin_of s).machine.kind aic_kind e))
    (λ e. z (λ q. clash (eq-eqb (begin_of s).machine.kind aic_kind q) e))

figure : (s : List ℕ) (limit i : ℕ) → (begin_of s).machine.kind ≡ 0 → i < 32
    → Source (tally_of s limit).figures i (started_of i (aic_of s) (played_of s limit)) (waited_of i (aic_of s) (played_of s limit)) (entries_of i (aic_of s) (played_of s limit))
figure s limit i z l =
    by_figures
    (λ t. Source t i (started_of i (aic_of s) (played_of s limit)) (waited_of i (aic_of s) (played_of s limit)) (entries_of i (aic_of s) (played_of s limit)))
    s limit (λ _. aic_has (aic_of s) (played_of s limit) i l) (λ n. absurd (n z))

other_kinds : (s : List ℕ) (limit i : ℕ) → (begin_of s).machine.kind ≢ 0 → Source (tally_of s limit).figures i 0 0 0
other_kinds s limit i n = by_figures (λ t. Source t i 0 0 0) s limit (λ z. absurd (n z)) (λ _. (Sums.kept).empty i)

not-begun : (s : List ℕ) (limit i : ℕ) → (begin_of s).refusal ≢ 0 → ((tally_of s limit).steps ≡ 0) × ((tally_of s limit).refused ≡ 0) × Source (tally_of s limit).figures i 0 0 0
not-begun s limit i z =
    let e = tally-refused s limit (begin_of s) refl z in
    (ap (λ (t : Tallied). t.steps) (sym e), ap (λ (t : Tallied). t.refused) (sym e), subst (λ (t : Tallied). Source t.figures i 0 0 0) e ((Sums.kept).empty i))

sources : (s : List ℕ) (limit : ℕ) → Whole (tally_of s limit).figures
unfolding zeros
sources s limit =
    by_figures Whole s limit (λ _. record { started = each-length 32 0 _; waited = each-length 32 0 _; entries = each-length 32 0 _ })
    (λ _. record { started = refl; waited = refl; entries = refl })

-- source 0, and eight entries, from the record that a trace begins with
fresh-zero : (a : Aic) (xs : List Step) → Fresh a → (started_of 0 a xs ≡ 0) × (waited_of 0 a xs ≡ 0) × (entries_of 0 a xs ≡ 0)
fresh-zero a xs r = rw r.2 ((Waits.kept).zero r.0 r.1 xs)

fresh_eight : (a : Aic) (xs : List Step) (i : ℕ) → Fresh a → entries_of i a xs ≤ 8
fresh_eight a xs i r = rw r.2 ((Waits.kept).eight r.0 r.1 i xs)

zero : (s : List ℕ) (limit : ℕ) → Source (tally_of s limit).figures 0 0 0 0
zero s limit =
    let z = fresh-zero (aic_of s) (played_of s limit) (fresh s) in
    let f = aic_has (aic_of s) (played_of s limit) 0 (omega arith) in
    by_figures (λ t. Source t 0 0 0 0) s limit
    (λ _. record { started = f.started ∙ z.0; waited = f.waited ∙ z.1; entries = f.entries ∙ z.2 })
    (λ _. (Sums.kept).empty 0)

eight : (s : List ℕ) (limit i : ℕ) → i < 32 → get_or (tally_of s limit).figures.entries i 0 ≤ 8
eight s limit i l =
    by_figures (λ t. get_or t.entries i 0 ≤ 8) s limit
    (λ _. omega (arith, fresh_eight (aic_of s) (played_of s limit) i (fresh s), (aic_has (aic_of s) (played_of s limit) i l).entries))
    (λ _. omega (arith, ((Sums.kept).empty i).entries))

started-most : (i : ℕ) (a : Aic) (xs : List Step) → started_of i a xs ≤ length xs
unfolding started_of count
started-most i a [] = omega arith
started-most i a (x ∷ xs) = omega (arith, one_le (starts_of i a x), started-most i (aic_step a x).aic xs)

most : (s : List ℕ) (limit i : ℕ) → i < 32 → get_or (tally_of s limit).figures.started i 0 ≤ (tally_of s limit).steps
most s limit i l =
    by_figures (λ t. get_or t.started i 0 ≤ (tally_of s limit).steps) s limit
    (λ _. omega (arith, (aic_has (aic_of s) (played_of s limit) i l).started, started-most i (aic_of s) (played_of s limit), as_many (records_of s limit).steps, steps_are s limit))
    (λ _. omega (arith, ((Sums.kept).empty i).started))

pub kept : Promises
kept =
    record {
      played = played;
      refused = refused;
      refused_none = refused_none;
      refused_more = refused-more;
      refused_most = λ s limit. omega (arith, refused s limit, refused-most (begin_of s).machine (records_of s limit).steps, steps_are s limit);
      follows = follows;
      follows_all = λ s limit. as_many (records_of s limit).steps ∙ sym (steps_are s limit);
      figure = figure;
      other_kinds = other_kinds;
      not_begun = not-begun;
      sources = sources;
      zero = zero;
      eight = eight;
      most = most;
      short = λ s limit. omega (arith, steps_are s limit, records-short s limit);
    }
