-- The worked listings, computed from the definitions (01, "House trace"). The steps of a CIC are computed without the check of its whole record, which is known.
use Prim.Native.Nat.{ℕ, ◌+◌}
use mathlib.Core.Path.{◌≡◌, refl, ap, ◌∙◌}
use mathlib.Core.List.{List, [], ◌∷◌, ◌++◌}
use Rattle.steps.specs.declared.Recorded.{Recorded}
use Rattle.numbers.specs.Number.{size_at, worth_at, faulty, number_at}
use Rattle.text.specs.Text.{hex_digit, hex_of, decimal_of, field}
use Rattle.trace.specs.Steps.{operands_of, two_numbers, step_at}
use Rattle.trace.specs.Trace.{turn_at, steps_from}
use Rattle.machine.specs.declared.Answer.{Answer}
use Rattle.machine.specs.declared.record.Columns.{Columns}
use Rattle.machine.specs.declared.record.Machine.{Machine}
use Rattle.machine.specs.RecordPromises.{Ready}
use Rattle.machine.proofs.Computing.{aic_computes, core_computes, cic_computes, aintc_computes, cic_quick, cic_seen, cic-quick, cic-seen}
use Rattle.machine.proofs.StepLaws.{step-ready}
use Rattle.beginning.specs.Begin.{setup_from, setup_of, by_setup, begin_of}
use Rattle.beginning.specs.Play.{records_from, records_of}
use Rattle.beginning.proofs.BeginningLaws.{begin-ready}
use Rattle.lines.specs.Listing.{letter, shown_value, line_of, step_line, lines_from, joined, end_line, end_of, text_from, name_line, listing_of}
use Rattle.listing.specs.Promises.{aic_trace, aic_text, core_trace, core_text, cic_trace, cic_text, aintc_trace, aintc_text}

-- what is read of a trace, and how a line is written
unfoldable reading : Unit {0}
unfolding size_at worth_at faulty number_at operands_of two_numbers step_at turn_at steps_from setup_from setup_of by_setup begin_of records_from
reading = tt

unfoldable writing : Unit {0}
unfolding hex_digit hex_of decimal_of field letter shown_value line_of joined end_line end_of name_line
writing = tt

pub aic_listed : listing_of aic_trace 20000 ≡ aic_text
unfolding aic_computes reading writing lines_from text_from listing_of
aic_listed = refl

pub nothing_listed : listing_of [] 20000 ≡ 69 ∷ 32 ∷ 56 ∷ 32 ∷ 48 ∷ 10 ∷ []
unfolding aic_computes reading writing lines_from text_from listing_of
nothing_listed = refl

pub core_listed : listing_of core_trace 20000 ≡ core_text
unfolding core_computes reading writing lines_from text_from listing_of
core_listed = refl

pub aintc_listed : listing_of aintc_trace 20000 ≡ aintc_text
unfolding aintc_computes reading writing lines_from text_from listing_of
aintc_listed = refl

pub aintc_alone : listing_of (3 ∷ []) 20000 ≡ 65 ∷ 73 ∷ 78 ∷ 84 ∷ 67 ∷ 10 ∷ []
unfolding aintc_computes reading writing lines_from text_from listing_of
aintc_alone = refl

-- ---- the lines of a CIC that is known to be sound

unfoldable quick_lines : ℕ → Machine → List Recorded → List (List ℕ)
quick_lines n m [] = []
quick_lines n m (x ∷ xs) =
    line_of (n + 1) (letter x.step (cic_quick m x).refusal) (shown_value (cic_quick m x).refusal (cic_quick m x).value) (cic_seen (cic_quick m x).machine)
    ∷ quick_lines (n + 1) (cic_quick m x).machine xs

quick_lines_lem : (n : ℕ) (m : Machine) (xs : List Recorded) → m.kind ≡ 2 → Ready m → lines_from n m xs ≡ quick_lines n m xs
unfolding lines_from quick_lines
quick_lines_lem n m [] k r = refl
quick_lines_lem n m (x ∷ xs) k r =
    let e = cic-quick m x k r.0 in
    let q : Ready (cic_quick m x).machine = rw e at (step-ready m x r) in
    ap (λ (a : Answer). step_line (n + 1) x.step a ∷ lines_from (n + 1) a.machine xs) e
    ∙ ap (λ (c : Columns). line_of (n + 1) (letter x.step (cic_quick m x).refusal) (shown_value (cic_quick m x).refusal (cic_quick m x).value) c ∷ lines_from (n + 1) (cic_quick m x).machine xs)
    (cic-seen (cic_quick m x).machine k q.0)
    ∙ ap (λ (ls : List (List ℕ)). line_of (n + 1) (letter x.step (cic_quick m x).refusal) (shown_value (cic_quick m x).refusal (cic_quick m x).value) (cic_seen (cic_quick m x).machine) ∷ ls)
    (quick_lines_lem (n + 1) (cic_quick m x).machine xs k q)

cic-begun : (begin_of cic_trace).refusal ≡ 0
unfolding cic_computes reading
cic-begun = refl

cic-kind : (begin_of cic_trace).machine.kind ≡ 2
unfolding cic_computes reading
cic-kind = refl

abbrev quick_text : List ℕ
quick_text =
    name_line (begin_of cic_trace)
    ++ (joined (quick_lines 0 (begin_of cic_trace).machine (records_of cic_trace 20000).steps) ++ end_of (records_of cic_trace 20000).refusal (records_of cic_trace 20000).offset)

to-quick : listing_of cic_trace 20000 ≡ quick_text
unfolding text_from listing_of
to-quick =
    ap (λ (ls : List (List ℕ)). name_line (begin_of cic_trace) ++ (joined ls ++ end_of (records_of cic_trace 20000).refusal (records_of cic_trace 20000).offset))
    (quick_lines_lem 0 (begin_of cic_trace).machine (records_of cic_trace 20000).steps cic-kind (begin-ready cic_trace (begin_of cic_trace) refl cic-begun))

quick_listed : quick_text ≡ cic_text
unfolding cic_computes reading writing quick_lines
quick_listed = refl

pub cic_listed : listing_of cic_trace 20000 ≡ cic_text
cic_listed = to-quick ∙ quick_listed
