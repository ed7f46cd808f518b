-- How long the rows of the page and its parts are at most.
use Prim.Native.Nat.{ℕ, ◌+◌, ◌*◌, ◌≤◌}
use mathlib.Core.Bool.{Bool}
use mathlib.Core.List.{List, [], ◌++◌}
use native.Mathlib.Nat.{mul-le-mul_right}
use native.Mathlib.Omega.{arith}
use lib.Dec.{eqb, ltb}
use lib.ListN.{length, get_or, length-append}
use Rattle.words.proofs.ChoiceLaws.{pick_cases}
use Rattle.text.proofs.DigitLaws.{length-field}
use Rattle.text.specs.Phrases.{bytes}
use Rattle.stack.specs.declared.Table.{Table}
use Rattle.stack.specs.Bytes.{normal, level_bytes, stack_bytes}
use Rattle.totals.specs.declared.waits.Waits.{Waits}
use Rattle.totals.specs.declared.sheets.Noted.{Noted}
use Rattle.totals.specs.declared.sheets.Sheet.{Sheet}
use Rattle.sheet.specs.Texts.{each}
use Rattle.sheet.specs.Names.{escape, name_of}
use Rattle.sheet.specs.Head.{document_head, style_parts, style_tables, style_paper, traces_head, page_head}
use Rattle.sheet.specs.Rows.{row_head, ended, enabling, remark, ending, trace_row, reason, left_out_row}
use Rattle.sheet.specs.Order.{ahead_of, in_order, hidden}
use Rattle.sheet.specs.Levels.{tallest, width, top, baseline, bar, owner, called, whose, level_row, figure, bars, levels, stack_part}
use Rattle.sheet.specs.Sources.{source_head, typed, tabled, ahead_cell, bound_of, most, others, waited, first, term, started_cells, source_row, bounded, terms, waits_row}
use Rattle.sheet.specs.Meaning.{meaning_first, meaning_last, meaning}
use Rattle.sheet.specs.End.{head_row, out_row, traces_named, sums, head_part, sources_head, waits_head, hidden_line, sources_of, sources_part, page_end}
use Rattle.sheet.proofs.OrderLaws.{order-fits}
use Rattle.sheet.proofs.SizeLaws.{length-counted, length-amount, length-cell, length-cell_of, length-source-cell, length-empty-cell, length-each, length_eight, length-escaped, length-name}

-- ---- the head of the file

pub length-head : length page_head ≤ 1400
unfolding page_head document_head style_parts style_tables style_paper traces_head bytes
length-head = simp length-append (omega arith)

-- ---- rows of traces

length-row-head : (n : ℕ) (name : List ℕ) → length (row_head n name) ≤ length name * 6 + 42
unfolding row_head bytes
length-row-head n name = simp length-append (omega (arith, length-counted (bytes "<tr><th>") n, length-escaped name))

length-ended : (refusal offset : ℕ) → length (ended refusal offset) ≤ 43
unfolding ended bytes
length-ended refusal offset =
    pick_cases (λ (l : List ℕ). length l ≤ 43) (eqb refusal 0) (λ e. omega arith) (λ e. simp length-append (omega (arith, length-field refusal, length-field offset)))

length-remark : (aic : Bool) (used : ℕ) → length (remark aic used) ≤ 27
unfolding remark enabling bytes
length-remark aic used =
    pick_cases (λ (l : List ℕ). length l ≤ 27) aic (λ e. pick_cases (λ (l : List ℕ). length l ≤ 27) (eqb used 0) (λ e. omega arith) (λ e. omega arith)) (λ e. omega arith)

length-ending : (t : Noted) → length (ending t) ≤ 112
unfolding ending bytes
length-ending t = simp length-append (omega (arith, length-ended t.refusal t.offset, length-remark t.aic t.used))

pub length_trace : (n : ℕ) (t : Noted) (name : List ℕ) → length (trace_row n t name) ≤ length name * 6 + 484
unfolding trace_row bytes
length_trace n t name =
    simp length-append
    (omega (
      arith,
      length-row-head n name,
      length-cell (bytes "trace-steps") t.steps (bytes "steps"),
      length-cell (bytes "trace-steps-refused") t.refused (bytes "steps"),
      length-cell (bytes "trace-marks") t.marks (bytes "marks"),
      length-cell (bytes "trace-idle-ends") t.idle (bytes "ends"),
      length-cell (bytes "trace-entries-left-open") t.left (bytes "entries"),
      length-ending t,
    ))

length-reason : (refusal step source : ℕ) → length (reason refusal step source) ≤ 110
unfolding reason bytes
length-reason refusal step source =
    pick_cases (λ (l : List ℕ). length l ≤ 110) (eqb refusal 16) (λ e. omega arith)
    (λ e. pick_cases (λ (l : List ℕ). length l ≤ 110) (eqb refusal 17) (λ e. omega arith)
    (λ e. simp length-append (omega (arith, length-counted (bytes "left out by 18: after step ") step, length-counted (bytes " source ") source))))

pub length-left_out : (n refusal step source : ℕ) (name : List ℕ) → length (left_out_row n refusal step source name) ≤ length name * 6 + 484
unfolding left_out_row bytes
length-left_out n refusal step source name = simp length-append (omega (arith, length-row-head n name, length-reason refusal step source))

-- ---- levels

length-bar : (m b l : ℕ) → length (bar m b l) ≤ 267
unfolding bar bytes
length-bar m b l =
    simp length-append
    (omega (
      arith,
      length-counted (bytes "<text x=\"8\" y=\"") (baseline l),
      length-counted (bytes "\">level ") l,
      length-counted (bytes "</text><rect x=\"64\" y=\"") (top l),
      length-counted (bytes "\" width=\"") (width m b),
      length-counted (bytes "\" height=\"16\" fill=\"none\" stroke=\"black\"/><text x=\"") (width m b + 72),
      length-counted (bytes "\" y=\"") (baseline l),
      length-amount b (bytes "bytes"),
    ))

length-called : (names : List ℕ) (k i : ℕ) → length (called names k i) ≤ 173
unfolding called bytes
length-called names k i =
    simp length-append
    (omega (
      arith,
      length-counted (bytes "source ") i,
      pick_cases (λ (l : List ℕ). length l ≤ 146) (eqb k 0) {a = []} {b = bytes ", " ++ each escape (name_of names k i)} (λ e. omega arith)
          (λ e. simp length-append (omega (arith, length-name names k i))),
    ))

length-whose : (t : Table) (names lengths : List ℕ) (l : ℕ) → length (whose t names lengths l) ≤ 173
unfolding whose bytes
length-whose t names lengths l =
    pick_cases (λ (x : List ℕ). length x ≤ 173) (ltb t.mark (level_bytes t l))
    (λ e. length-called names (get_or lengths (owner t l (level_bytes t l)) 0) (owner t l (level_bytes t l)))
    (λ e. omega arith)

length_level : (t : Table) (names lengths : List ℕ) (l : ℕ) → length (level_row t names lengths l) ≤ 383
unfolding level_row bytes
length_level t names lengths l =
    simp length-append
    (omega (
      arith,
      length-counted (bytes "<tr><th>level ") l,
      length-counted (bytes "</th><td data-figure=\"level-bytes\" data-level=\"") l,
      length-amount (level_bytes t l) (bytes "bytes"),
      length-counted (bytes "</td><td data-figure=\"level-source\" data-level=\"") l,
      length-whose t names lengths l,
    ))

length_stack : (t : Table) (names lengths : List ℕ) → length (stack_part t names lengths) ≤ 6000
unfolding stack_part figure bars levels bytes
length_stack t names lengths =
    simp length-append
    (omega (
      arith,
      length-amount (stack_bytes t) (bytes "bytes"),
      length_eight (λ l. bar (tallest t 8) (level_bytes t l) l) 267 (λ l. length-bar (tallest t 8) (level_bytes t l) l),
      length_eight (level_row t names lengths) 383 (length_level t names lengths),
    ))

-- ---- sources

length-source-head : (names : List ℕ) (k i : ℕ) → length (source_head names k i) ≤ 193
unfolding source_head bytes
length-source-head names k i =
    simp length-append
    (omega (
      arith,
      length-counted (bytes "<tr><th>source ") i,
      pick_cases (λ (l : List ℕ). length l ≤ 144) (eqb k 0) {a = bytes "-"} {b = each escape (name_of names k i)} (λ e. omega arith) (λ e. length-name names k i),
    ))

length-typed : (kind : ℕ) → length (typed kind) ≤ 25
unfolding typed bytes
length-typed kind =
    pick_cases (λ (l : List ℕ). length l ≤ 25) (eqb kind 0) (λ e. omega arith)
    (λ e. pick_cases (λ (l : List ℕ). length l ≤ 25) (eqb kind 1) (λ e. omega arith)
    (λ e. pick_cases (λ (l : List ℕ). length l ≤ 25) (eqb kind 2) (λ e. omega arith) (λ e. omega arith)))

length-tabled : (i priority kind frame : ℕ) → length (tabled i priority kind frame) ≤ 223
unfolding tabled bytes
length-tabled i priority kind frame =
    simp length-append
    (omega (
      arith,
      length-cell_of (bytes "priority") i,
      length-counted (bytes "level ") priority,
      length-typed kind,
      length-source-cell (bytes "frame-bytes") i frame (bytes "bytes"),
    ))

length-ahead : (t : Table) (used i : ℕ) → length (ahead_cell t used i) ≤ 100
unfolding ahead_cell bytes
length-ahead t used i =
    pick_cases (λ (l : List ℕ). length l ≤ 100) (normal t i)
    (λ e. omega (arith, length-source-cell (bytes "ahead-sources") i (ahead_of t used i) (bytes "sources")))
    (λ e. omega (arith, length-empty-cell (bytes "ahead-sources") i))

length_most : (begun unbounded bound : ℕ) → length (most begun unbounded bound) ≤ 29
unfolding most bytes
length_most begun unbounded bound =
    pick_cases (λ (l : List ℕ). length l ≤ 29) (eqb begun 0) (λ e. omega arith)
    (λ e. pick_cases (λ (l : List ℕ). length l ≤ 29) (eqb unbounded begun) (λ e. omega arith) (λ e. omega (arith, length-amount bound (bytes "handlers"))))

length-others : (unbounded : ℕ) → length (others unbounded) ≤ 38
unfolding others bytes
length-others unbounded =
    pick_cases (λ (l : List ℕ). length l ≤ 38) (eqb unbounded 0) (λ e. omega arith) (λ e. simp length-append (omega (arith, length-counted (bytes ", ") unbounded)))

length-waited : (i begun unbounded : ℕ) → length (waited i begun unbounded) ≤ 141
unfolding waited bytes
length-waited i begun unbounded =
    simp length-append
    (omega (arith, length-counted (bytes "<td><span data-figure=\"waits\" data-source=\"") i, length-amount begun (bytes "waits"), length-others unbounded))

length_started : (s : Sheet) (i : ℕ) → length (started_cells s i) ≤ 579
unfolding started_cells bytes
length_started s i =
    simp length-append
    (omega (
      arith,
      length-source-cell (bytes "handlers-started") i (get_or s.figures.started i 0) (bytes "handlers"),
      length-source-cell (bytes "most-started-while-waiting") i (get_or s.figures.waited i 0) (bytes "handlers"),
      length-cell_of (bytes "most-startable-while-waiting") i,
      length_most (get_or s.waits.begun i 0) (get_or s.waits.unbounded i 0) (bound_of s.waits i),
      length-waited i (get_or s.waits.begun i 0) (get_or s.waits.unbounded i 0),
      length-source-cell (bytes "most-entries-open") i (get_or s.figures.entries i 0) (bytes "entries"),
    ))

length_source : (t : Table) (names lengths : List ℕ) (s : Sheet) (i : ℕ) → length (source_row t names lengths s i) ≤ 1101
unfolding source_row bytes
length_source t names lengths s i =
    simp length-append
    (omega (
      arith,
      length-source-head names (get_or lengths i 0) i,
      length-tabled i (get_or t.priority i 0) (get_or t.kind i 0) (get_or t.frame i 0),
      length-ahead t s.used i,
      length_started s i,
    ))

length-first : (unbounded step trace : ℕ) → length (first unbounded step trace) ≤ 55
unfolding first bytes
length-first unbounded step trace =
    pick_cases (λ (l : List ℕ). length l ≤ 55) (eqb unbounded 0) (λ e. omega arith)
    (λ e. simp length-append (omega (arith, length-counted (bytes "step ") step, length-counted (bytes " of trace ") trace)))

length-term : (name : List ℕ) (i : ℕ) (told : Bool) (n : ℕ) → length (term name i told n) ≤ length name + 88
unfolding term bytes
length-term name i told n =
    pick_cases (λ (l : List ℕ). length l ≤ length name + 88) told
    (λ e. omega (arith, length-source-cell name i n (bytes "handlers")))
    (λ e. omega (arith, length-empty-cell name i))

length-terms : (w : Waits) (i : ℕ) (told : Bool) → length (terms w i told) ≤ 612
unfolding terms bytes
length-terms w i told =
    simp length-append
    (omega (
      arith,
      length-term (bytes "bound-pending") i told (get_or w.pending i 0),
      length-term (bytes "bound-edges") i told (get_or w.edges i 0),
      length-term (bytes "bound-commands") i told (get_or w.commands i 0),
      length-term (bytes "bound-turns") i told (get_or w.turns i 0),
      length-term (bytes "bound-closed-active") i told (get_or w.closed i 0),
      length-term (bytes "bound-remembered") i told (get_or w.remembered i 0),
    ))

length-waits : (w : Waits) (trace : List ℕ) (i : ℕ) → length (waits_row w trace i) ≤ 1101
unfolding waits_row bytes
length-waits w trace i =
    simp length-append
    (omega (
      arith,
      length-counted (bytes "<tr><th>source ") i,
      length-source-cell (bytes "waits-unended") i (get_or w.unended i 0) (bytes "waits"),
      length-source-cell (bytes "waits-unbounded") i (get_or w.unbounded i 0) (bytes "waits"),
      length-cell_of (bytes "first-unbounded") i,
      length-first (get_or w.unbounded i 0) (get_or w.first i 0) (get_or trace i 0),
      length-terms w i (bounded (get_or w.begun i 0) (get_or w.unbounded i 0)),
    ))

-- a table of them
length-table : (f : ℕ → List ℕ) → ((i : ℕ) → length (f i) ≤ 1101) → (t : Table) (used : ℕ) → length (each f (in_order t used)) ≤ 35232
length-table f h t used = omega (arith, length-each f 1101 h (in_order t used), mul-le-mul_right 1101 (order-fits t used))

length-hidden : (t : Table) (used : ℕ) → length (hidden_line t used) ≤ 180
unfolding hidden_line bytes
length-hidden t used = simp length-append (omega (arith, length-amount (hidden t used) (bytes "sources")))

length_sources : (t : Table) (names lengths : List ℕ) (s : Sheet) → length (sources_part t names lengths s) ≤ 71500
unfolding sources_part sources_of sources_head waits_head bytes
length_sources t names lengths s =
    simp length-append
    (omega (
      arith,
      length-table (source_row t names lengths s) (length_source t names lengths s) t s.used,
      length-table (waits_row s.waits s.trace) (length-waits s.waits s.trace) t s.used,
      length-hidden t s.used,
    ))

-- ---- the whole end

length-head-row : (words name : List ℕ) (n : ℕ) (unit : List ℕ) → length (head_row words name n unit) ≤ length words + length name + length unit + 64
unfolding head_row bytes
length-head-row words name n unit = simp length-append (omega (arith, length-cell name n unit))

length-out-row : (words : List ℕ) (n : ℕ) → length (out_row words n) ≤ length words + 58
unfolding out_row bytes
length-out-row words n = simp length-append (omega (arith, length-amount n (bytes "traces")))

length-head_part : (s : Sheet) → length (head_part s) ≤ 1500
unfolding head_part traces_named sums bytes
length-head_part s =
    simp length-append
    (omega (
      arith,
      length-head-row (bytes "traces named") (bytes "traces") s.named (bytes "traces"),
      length-head-row (bytes "traces left out") (bytes "traces-left-out") (s.full + s.unopened + s.unkept) (bytes "traces"),
      length-out-row (bytes "16: a sum would be too large</th><td data-refusal=\"16\">") s.full,
      length-out-row (bytes "17: not to be opened or read</th><td data-refusal=\"17\">") s.unopened,
      length-out-row (bytes "18: the table is not kept</th><td data-refusal=\"18\">") s.unkept,
      length-head-row (bytes "steps played") (bytes "steps") s.steps (bytes "steps"),
      length-head-row (bytes "steps refused") (bytes "steps-refused") s.refused (bytes "steps"),
      length-head-row (bytes "spurious marks opened") (bytes "marks") s.marks (bytes "marks"),
      length-head-row (bytes "ends of interrupt that found no entry open") (bytes "idle-ends") s.idle (bytes "ends"),
      length-head-row (bytes "entries left open at the end of a trace") (bytes "entries-left-open") s.left (bytes "entries"),
    ))

length-meaning : length meaning ≤ 2000
unfolding meaning meaning_first meaning_last bytes
length-meaning = simp length-append (omega arith)

pub length_end : (t : Table) (names lengths : List ℕ) (s : Sheet) → length (page_end t names lengths s) ≤ 81000
unfolding page_end
length_end t names lengths s =
    simp length-append (omega (arith, length-head_part s, length_stack t names lengths, length_sources t names lengths s, length-meaning))
