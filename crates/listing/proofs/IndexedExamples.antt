-- The worked listing, computed from the definitions without the check of the whole record, which is known, and two traces that are alike.
use Prim.Native.Nat.{ℕ, ◌+◌}
use mathlib.Core.Path.{◌≡◌, refl, sym, ap, ◌∙◌}
use mathlib.Core.Bool.{Bool, true}
use mathlib.Core.List.{List, [], ◌∷◌, ◌++◌}
use native.Mathlib.Omega.{arith}
use Rattle.words.proofs.ChoiceLaws.{pick_true}
use Rattle.steps.specs.declared.Recorded.{Recorded}
use Rattle.numbers.specs.Number.{size_at, worth_at, faulty, number_at}
use Rattle.text.specs.Text.{hex_digit, hex_of, decimal_of, field}
use Rattle.trace.specs.Steps.{operands_of, two_numbers, step_at}
use Rattle.trace.specs.Trace.{turn_at, steps_from}
use Rattle.cic_registers.specs.Hosts.{shown as cic_shown}
use Rattle.cic_held.specs.Order.{pending_in, busy, first_in, channel_first, index_over, index_of}
use Rattle.cic_held.specs.Held.{held_as, word_held, within, start, freed_hosts, controlled}
use Rattle.cic_indexed.specs.Registers.{own_at, host_access, hosts_written, held_after}
use Rattle.cic_indexed.specs.Model.{read_as, write_as, step_as, outputs}
use Rattle.machine.specs.declared.Answer.{Answer}
use Rattle.machine.specs.declared.record.Columns.{Columns}
use Rattle.machine.specs.declared.record.Machine.{Machine}
use Rattle.machine.specs.Machine.{indexed, sound}
use Rattle.machine.specs.RecordPromises.{Ready}
use Rattle.machine.specs.Shown.{cic_columns, shown}
use Rattle.machine.proofs.MachineLaws.{sound-indexed}
use Rattle.machine.proofs.ShownLaws.{indexed-shows}
use Rattle.machine.specs.Steps.{after_indexed, step}
use Rattle.machine.proofs.Computing.{cic_computes}
use Rattle.machine.proofs.StepLaws.{indexed_steps, step-ready}
use Rattle.beginning.specs.Begin.{setup_from, setup_of, by_setup, begin_of}
use Rattle.beginning.proofs.BeginningLaws.{begin-ready}
use Rattle.beginning.specs.Play.{records_from, records_of}
use Rattle.lines.specs.Listing.{letter, shown_value, line_of, step_line, lines_from, joined, end_line, end_of, text_from, name_line, listing_of}
use Rattle.listing.specs.Indexed.{Alike, indexed_trace, indexed_text}

-- what is read of a trace, and how a line is written
unfoldable reading : Unit {0}
unfolding size_at worth_at faulty number_at operands_of two_numbers step_at turn_at steps_from setup_from setup_of by_setup begin_of records_from
reading = tt

unfoldable writing : Unit {0}
unfolding hex_digit hex_of decimal_of field letter shown_value line_of joined end_line end_of name_line
writing = tt

-- what is computed of a CIC with a choice, besides
unfoldable indexed_computes : Unit {0}
unfolding cic_computes pending_in busy first_in channel_first index_over index_of held_as word_held within start freed_hosts controlled own_at host_access hosts_written held_after read_as write_as step_as
indexed_computes = tt

-- ---- the lines of one that is known to be sound

abbrev quick : Machine → Recorded → Answer
quick m x = after_indexed m (step_as true (indexed m) x.step)

abbrev seen : Machine → Columns
seen m = cic_columns (cic_shown m.cic)

quick-is : (m : Machine) (x : Recorded) → m.kind ≡ 4 → sound m ≡ true → step m x ≡ quick m x
quick-is m x k s = indexed_steps m x k ∙ ap (λ (ok : Bool). after_indexed m (step_as ok (indexed m) x.step)) (sound-indexed m k ∙ s)

seen-is : (m : Machine) → m.kind ≡ 4 → sound m ≡ true → shown m ≡ seen m
unfolding outputs
seen-is m k s = indexed-shows m k ∙ ap cic_columns (sym (pick_true _ (sound-indexed m k ∙ s)))

abbrev quick_line : ℕ → Machine → Recorded → Columns → List ℕ
quick_line n m x c = line_of (n + 1) (letter x.step (quick m x).refusal) (shown_value (quick m x).refusal (quick m x).value) c

unfoldable quick_lines : ℕ → Machine → List Recorded → List (List ℕ)
quick_lines n m [] = []
quick_lines n m (x ∷ xs) = quick_line n m x (seen (quick m x).machine) ∷ quick_lines (n + 1) (quick m x).machine xs

quick_lines_lem : (n : ℕ) (m : Machine) (xs : List Recorded) → m.kind ≡ 4 → Ready m → lines_from n m xs ≡ quick_lines n m xs
unfolding lines_from quick_lines
quick_lines_lem n m [] k r = refl
quick_lines_lem n m (x ∷ xs) k r =
    let e = quick-is m x k r.0 in
    let q : Ready (quick m x).machine = rw e at (step-ready m x r) in
    ap (λ (a : Answer). step_line (n + 1) x.step a ∷ lines_from (n + 1) a.machine xs) e
    ∙ ap (λ (c : Columns). quick_line n m x c ∷ lines_from (n + 1) (quick m x).machine xs) (seen-is (quick m x).machine k q.0)
    ∙ ap (λ (ls : List (List ℕ)). quick_line n m x (seen (quick m x).machine) ∷ ls) (quick_lines_lem (n + 1) (quick m x).machine xs k q)

-- ---- the worked listing

begins : (begin_of indexed_trace).refusal ≡ 0
unfolding indexed_computes reading
begins = refl

kind-is : (begin_of indexed_trace).machine.kind ≡ 4
unfolding indexed_computes reading
kind-is = refl

abbrev quick_text : List ℕ
quick_text =
    name_line (begin_of indexed_trace)
    ++ (joined (quick_lines 0 (begin_of indexed_trace).machine (records_of indexed_trace 20000).steps) ++ end_of (records_of indexed_trace 20000).refusal (records_of indexed_trace 20000).offset)

to-quick : listing_of indexed_trace 20000 ≡ quick_text
unfolding text_from listing_of
to-quick =
    ap (λ (ls : List (List ℕ)). name_line (begin_of indexed_trace) ++ (joined ls ++ end_of (records_of indexed_trace 20000).refusal (records_of indexed_trace 20000).offset))
    (quick_lines_lem 0 (begin_of indexed_trace).machine (records_of indexed_trace 20000).steps kind-is (begin-ready indexed_trace (begin_of indexed_trace) refl begins))

quick_listed : quick_text ≡ indexed_text
unfolding indexed_computes reading writing quick_lines
quick_listed = refl

pub indexed_listed : listing_of indexed_trace 20000 ≡ indexed_text
indexed_listed = to-quick ∙ quick_listed

-- ---- traces that are alike

pub met : Alike (4 ∷ 4 ∷ 2 ∷ 1 ∷ 7 ∷ 0 ∷ []) (2 ∷ 4 ∷ 2 ∷ 1 ∷ 7 ∷ []) (1 ∷ 0 ∷ 9 ∷ [])
unfolding cic_computes reading
met =
    record {
      systems = 4;
      channels = 2;
      hosts = 1;
      revision = 7;
      in_range = ((omega arith, omega arith), ((omega arith, omega arith), (omega arith, omega arith)));
      indexed = (refl, (refl, (refl, (refl, (refl, (refl, (refl, (refl, (refl, (refl, (refl, (refl, refl))))))))))));
      plain = (refl, (refl, (refl, (refl, (refl, (refl, (refl, (refl, (refl, (refl, refl))))))))));
      short = (omega arith, omega arith);
    }
