-- The proof of what is promised of a picture.
use Prim.Native.Nat.{ℕ, suc, ◌+◌, ◌-◌, ◌≤◌, min}
use mathlib.Core.Path.{◌≡◌, refl, sym, ap, ◌∙◌}
use mathlib.Core.Bool.{true}
use mathlib.Core.List.{List, ◌++◌}
use mathlib.Core.Logic.{◌≢◌}
use native.Mathlib.Nat.{zero-add}
use native.Mathlib.Omega.{arith}
use lib.Dec.{eqb}
use lib.ListN.{length, drop}
use borrow.Author.Tests.{eq-eqb, eqb-true, le-leb}
use Rattle.words.proofs.ChoiceLaws.{pick_true, pick-false, pick_cases}
use Rattle.words.proofs.TruthLaws.{and_left, and_right, and_both, not-holds}
use Rattle.steps.specs.Refusals.{carried_out}
use Rattle.numbers.specs.Number.{size_at, worth_at, faulty, number_at}
use Rattle.text.specs.Text.{decimal, field, laid}
use Rattle.text.proofs.WriteLaws.{write-laid}
use Rattle.text.proofs.Promises as Text
use Rattle.text.specs.Phrases.{bytes, counted}
use Rattle.trace.specs.Steps.{operands_of, two_numbers, step_at}
use Rattle.trace.specs.Trace.{turn_at, steps_from}
use Rattle.kinds.specs.Kinds.{aic_kind}
use Rattle.aic_record.specs.Last.{last_source, last_level}
use Rattle.machine.proofs.Computing.{aic_computes}
use Rattle.beginning.specs.Begin.{setup_from, setup_of, by_setup, begin_of}
use Rattle.beginning.proofs.BeginningLaws.{begin-ready}
use Rattle.beginning.specs.Play.{records_from, records_of, run_of, report, play_of}
use Rattle.beginning.proofs.PlayLaws.{records_limited}
use Rattle.drawing.specs.Drawing.{drawing}
use Rattle.drawing.specs.Promises.{Below}
use Rattle.drawing.proofs.Promises.{kept as drawn}
use Rattle.picture.specs.Window.{before, within, columns_from, columns_of}
use Rattle.picture.specs.Lines.{no_beginning, no_entries, wrong_window}
use Rattle.picture.specs.Picture.{most_played, inside, is_drawn, drawn_of, picture_of}
use Rattle.picture.specs.Promises.{Inside, columns_in, aic_before, bars_in, opened_in, seven_steps, last_four, Promises}
use Rattle.picture.proofs.BarLaws.{bars-run}
use Rattle.picture.proofs.PictureLaws.{inside_is, no_beginning_lem, no_entries_lem}
use Rattle.picture.proofs.SizeLaws.{drawn-most, beginning-most, entries-most, wrong-most}
use Rattle.picture.proofs.ShownLaws as shown

-- ---- when there is a picture

is-inside : (played first steps : ℕ) → Inside played first steps → inside played first steps ≡ true
unfolding inside
is-inside played first steps i = and_both (and_both (and_both (le-leb 1 first i.begins) (le-leb first played i.reached)) (le-leb 1 steps i.some)) (le-leb steps 500 i.most)

abbrev Asked : List ℕ → ℕ → ℕ → Type 0
Asked s first steps = ((begin_of s).refusal ≡ 0) × ((begin_of s).machine.kind ≡ 0) × Inside (play_of s 20000).steps first steps

asked : (s : List ℕ) (first steps : ℕ) → is_drawn s first steps ≡ true → Asked s first steps
unfolding is_drawn
asked s first steps h = (
  eqb-true (begin_of s).refusal 0 (search (and_left, and_right)),
  eqb-true (begin_of s).machine.kind 0 (search (and_left, and_right)),
  inside_is (play_of s 20000).steps first steps (search (and_left, and_right)),
)

drawn_if : (s : List ℕ) (first steps : ℕ) → Asked s first steps → is_drawn s first steps ≡ true
unfolding is_drawn
drawn_if s first steps a = and_both (and_both (eq-eqb (begin_of s).refusal 0 a.0) (eq-eqb (begin_of s).machine.kind 0 a.1)) (is-inside (play_of s 20000).steps first steps a.2)

a-drawing : (s : List ℕ) (first steps : ℕ) → is_drawn s first steps ≡ true
    → picture_of s first steps ≡ drawing first (columns_in s first steps) (aic_before s first).source (aic_before s first).level
unfolding picture_of drawn_of
a-drawing s first steps h =
    let a = asked s first steps h in
    sym (pick_true _ (is-inside (play_of s 20000).steps first steps a.2) ∙ pick_true _ (eq-eqb (begin_of s).machine.kind 0 a.1) ∙ pick_true _ (eq-eqb (begin_of s).refusal 0 a.0))

not-begun : (s : List ℕ) (first steps : ℕ) → (begin_of s).refusal ≢ 0
    → picture_of s first steps ≡ bytes "no picture: the trace has no beginning, E" ++ field (begin_of s).refusal ++ field (begin_of s).place ++ bytes "\n"
not-begun s first steps n = sym (no_beginning_lem s first steps (begin_of s) refl n) ∙ line (begin_of s).refusal (begin_of s).place
  where
    line : (r p : ℕ) → no_beginning r p ≡ bytes "no picture: the trace has no beginning, E" ++ field r ++ field p ++ bytes "\n"
    line r p = unfold no_beginning bytes in refl

not_aic : (s : List ℕ) (first steps : ℕ) → (begin_of s).refusal ≡ 0 → (begin_of s).machine.kind ≢ 0
    → picture_of s first steps ≡ bytes "no picture: the trace is not of an AIC, and no other controller has entries\n"
not_aic s first steps r n = sym (no_entries_lem s first steps (begin_of s) refl r n) ∙ (unfold no_entries in refl)

not-inside : (s : List ℕ) (first steps : ℕ) → (begin_of s).refusal ≡ 0 → (begin_of s).machine.kind ≡ 0 → (Inside (play_of s 20000).steps first steps → ⊥)
    → picture_of s first steps
    ≡ bytes "no picture: a window has 1 to 500 steps and begins with a step that is played, steps played " ++ decimal (play_of s 20000).steps ++ bytes "\n"
unfolding picture_of
not-inside s first steps r k n =
    sym (pick-false _ (not-holds (inside (play_of s 20000).steps first steps) (λ i. n (inside_is (play_of s 20000).steps first steps i))) ∙ pick_true _ (eq-eqb (begin_of s).machine.kind 0 k) ∙ pick_true _ (eq-eqb (begin_of s).refusal 0 r))
    ∙ line (play_of s 20000).steps
  where
    line : (p : ℕ) → wrong_window p ≡ bytes "no picture: a window has 1 to 500 steps and begins with a step that is played, steps played " ++ decimal p ++ bytes "\n"
    line p = unfold wrong_window counted bytes in refl

-- ---- what it shows

played : (s : List ℕ) → (play_of s 20000).steps ≡ length (records_of s 20000).steps
unfolding play_of report
played s = zero-add (length (records_of s 20000).steps)

many : (s : List ℕ) (first steps : ℕ) → length (columns_in s first steps) ≡ suc (min steps ((play_of s 20000).steps - (first - 1)))
many s first steps = shown.many first steps (begin_of s).machine (records_of s 20000).steps ∙ ap (λ (n : ℕ). suc (min steps (n - (first - 1)))) (sym (played s))

as_many : (s : List ℕ) (first steps : ℕ) → is_drawn s first steps ≡ true
    → length (bars_in s first steps)
    ≡ min (aic_before s first).depth (aic_before s (suc first)).depth
    + opened_in (before first (begin_of s).machine (records_of s 20000).steps) (within first steps (records_of s 20000).steps)
as_many s first steps h =
    let a = asked s first steps h in
    drawn.as_many (columns_in s first steps) (aic_before s first).source (aic_before s first).level
    ∙ bars-run first steps (begin_of s).machine (records_of s 20000).steps (begin-ready s (begin_of s) refl a.0) a.1 a.2.begins (omega (arith, a.2.reached, played s)) a.2.some

eighth : (s : List ℕ) (first steps : ℕ) → is_drawn s first steps ≡ true → Below 8 (bars_in s first steps)
eighth s first steps h =
    let a = asked s first steps h in
    drawn.eighth (columns_in s first steps) (aic_before s first).source (aic_before s first).level
    (λ k. shown.eight first steps (begin_of s).machine (records_of s 20000).steps k (begin-ready s (begin_of s) refl a.0) a.1)

-- ---- how long it is

most : (s : List ℕ) (first steps : ℕ) → length (picture_of s first steps) ≤ 219082
unfolding picture_of
most s first steps =
    pick_cases P (eqb (begin_of s).refusal carried_out)
    (λ r.
    pick_cases P (eqb (begin_of s).machine.kind aic_kind)
    (λ k. pick_cases P (inside (play_of s most_played).steps first steps) (λ i. of-drawing (eqb-true (begin_of s).refusal 0 r) (eqb-true (begin_of s).machine.kind 0 k) (inside_is (play_of s 20000).steps first steps i)) (λ i. wrong-most (play_of s most_played).steps))
    (λ k. entries-most))
    (λ r. beginning-most (begin_of s).refusal (begin_of s).place)
  where
    P : List ℕ → Type 0
    P l = length l ≤ 219082

    of-drawing : (begin_of s).refusal ≡ 0 → (begin_of s).machine.kind ≡ 0 → Inside (play_of s 20000).steps first steps → P (drawn_of first steps (begin_of s).machine (records_of s most_played))
    of-drawing r k i =
        drawn-most first steps (begin_of s).machine (records_of s most_played) (begin-ready s (begin_of s) refl r) k
        (omega (arith, i.reached, played s, records_limited 20000 s (begin_of s))) i.most

takes : (l s : List ℕ) (first steps : ℕ) → 219082 ≤ length l
    → laid l (picture_of s first steps) ≡ (picture_of s first steps ++ drop (length (picture_of s first steps)) l, length (picture_of s first steps))
takes l s first steps h = sym (write-laid l (picture_of s first steps)) ∙ (Text.kept).fits l (picture_of s first steps) (omega (arith, most s first steps))

-- ---- a window of a trace

unfoldable reading : Unit {0}
unfolding size_at worth_at faulty number_at operands_of two_numbers step_at turn_at steps_from setup_from setup_of by_setup begin_of records_from
reading = tt

worked : is_drawn seven_steps 4 4 ≡ true
unfolding aic_computes reading report play_of inside is_drawn
worked = refl

worked_columns : columns_in seven_steps 4 4 ≡ last_four
unfolding aic_computes reading run_of last_source last_level columns_from columns_of
worked_columns = refl

pub kept : Promises
kept =
    record {
      columns_many = shown.many;
      machine_before = shown.before-is 0;
      before_all = shown.before-all;
      after_each = shown.after-each;
      eight = shown.eight;
      drawn_if = λ s first steps. (asked s first steps, drawn_if s first steps);
      drawn = a-drawing;
      not_begun = not-begun;
      not_aic = not_aic;
      not_inside = not-inside;
      many = many;
      as_many = as_many;
      eighth = eighth;
      most = most;
      takes = takes;
      worked = worked;
      worked_columns = worked_columns;
    }
