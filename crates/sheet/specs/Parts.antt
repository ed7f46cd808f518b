-- The parts of the page, each as an equation that a reader can lay beside it.
use Rattle.std.specs.Prelude.{ℕ, ◌+◌, ◌≡◌, Bool, List, ◌++◌, get_or}
use Rattle.text.specs.Phrases.{bytes, counted}
use Rattle.stack.specs.declared.Table.{Table}
use Rattle.stack.specs.Bytes.{level_bytes, stack_bytes}
use Rattle.totals.specs.declared.waits.Waits.{Waits}
use Rattle.totals.specs.declared.sheets.Sheet.{Sheet}
use Rattle.sheet.specs.Texts.{amount, cell_of, source_cell, each, down}
use Rattle.sheet.specs.Order.{in_order, hidden}
use Rattle.sheet.specs.Levels.{tallest, bar, level_row, stack_part}
use Rattle.sheet.specs.Sources.{source_head, typed, tabled, ahead_cell, bounded, bound_of, most, others, waited, first, term, started_cells, source_row, terms, waits_row}
use Rattle.sheet.specs.Meaning.{meaning}
use Rattle.sheet.specs.End.{head_row, out_row, traces_named, sums, head_part, sources_head, waits_head, hidden_line, sources_part, page_end}

-- what the head, the stack and the whole end are made of
pub record Sections (t : Table) (names lengths : List ℕ) (s : Sheet) : Type 0 where
  pub end : page_end t names lengths s ≡ head_part s ++ stack_part t names lengths ++ sources_part t names lengths s ++ meaning
  pub head : head_part s
      ≡ bytes "</tbody>\n</table>\n</section>\n<header>\n<h1>Tuning sheet</h1>\n<table>\n" ++ traces_named s ++ sums s ++ bytes "</table>\n</header>\n"
  -- the traces left out by any number are those of the three together
  pub traces : traces_named s
      ≡ head_row (bytes "traces named") (bytes "traces") s.named (bytes "traces")
      ++ head_row (bytes "traces left out") (bytes "traces-left-out") (s.full + s.unopened + s.unkept) (bytes "traces")
      ++ out_row (bytes "16: a sum would be too large</th><td data-refusal=\"16\">") s.full
      ++ out_row (bytes "17: not to be opened or read</th><td data-refusal=\"17\">") s.unopened
      ++ out_row (bytes "18: the table is not kept</th><td data-refusal=\"18\">") s.unkept
  pub added : sums s
      ≡ head_row (bytes "steps played") (bytes "steps") s.steps (bytes "steps") ++ head_row (bytes "steps refused") (bytes "steps-refused") s.refused (bytes "steps")
      ++ head_row (bytes "spurious marks opened") (bytes "marks") s.marks (bytes "marks")
      ++ head_row (bytes "ends of interrupt that found no entry open") (bytes "idle-ends") s.idle (bytes "ends")
      ++ head_row (bytes "entries left open at the end of a trace") (bytes "entries-left-open") s.left (bytes "entries")
  -- the figure, eight bars and eight rows, level 7 first (02, 4/12)
  pub stack : stack_part t names lengths
      ≡ (bytes "<section id=\"stack\">\n<h2>Stack</h2>\n<p>Open handlers and marks take at most <b data-figure=\"stack-bytes\">" ++ amount (stack_bytes t) (bytes "bytes")
      ++ bytes "</b>, at every moment of every trace counted: a frame for each of eight levels.</p>\n")
      ++ (bytes "<svg xmlns=\"http://www.w3.org/2000/svg\" viewBox=\"0 0 640 200\" width=\"640\" height=\"200\" font-family=\"sans-serif\" font-size=\"12\">\n"
      ++ down (λ l. bar (tallest t 8) (level_bytes t l) l) 8 ++ bytes "</svg>\n")
      ++ (bytes "<table>\n<thead>\n<tr><th>level</th><th>at most</th><th>whose frame</th></tr>\n</thead>\n<tbody>\n" ++ down (level_row t names lengths) 8
      ++ bytes "</tbody>\n</table>\n</section>\n")
  -- two tables with the same sources, in the same order, and how many are not shown
  pub sources : sources_part t names lengths s
      ≡ sources_head ++ each (source_row t names lengths s) (in_order t s.used) ++ waits_head ++ each (waits_row s.waits s.trace) (in_order t s.used)
      ++ hidden_line t s.used
  pub not_shown : hidden_line t s.used
      ≡ bytes "</tbody>\n</table>\n<p><span data-figure=\"sources-left-out\">" ++ amount (hidden t s.used) (bytes "sources")
      ++ bytes "</span> are left out: enabled in no trace, and 0 0 0 in the table.</p>\n</section>\n"

-- the rows of source i
pub record SourceRows (t : Table) (names lengths : List ℕ) (s : Sheet) (i : ℕ) : Type 0 where
  pub row : source_row t names lengths s i
      ≡ source_head names (get_or lengths i 0) i ++ tabled i (get_or t.priority i 0) (get_or t.kind i 0) (get_or t.frame i 0) ++ ahead_cell t s.used i
      ++ started_cells s i
      ++ bytes "</tr>\n"
  pub tabled_is : (priority kind frame : ℕ)
      → tabled i priority kind frame
      ≡ cell_of (bytes "priority") i ++ counted (bytes "level ") priority ++ bytes "</td><td>" ++ typed kind ++ bytes "</td>"
      ++ source_cell (bytes "frame-bytes") i frame (bytes "bytes")
  pub started : started_cells s i
      ≡ source_cell (bytes "handlers-started") i (get_or s.figures.started i 0) (bytes "handlers")
      ++ source_cell (bytes "most-started-while-waiting") i (get_or s.figures.waited i 0) (bytes "handlers")
      ++ cell_of (bytes "most-startable-while-waiting") i ++ most (get_or s.waits.begun i 0) (get_or s.waits.unbounded i 0) (bound_of s.waits i) ++ bytes "</td>"
      ++ waited i (get_or s.waits.begun i 0) (get_or s.waits.unbounded i 0)
      ++ source_cell (bytes "most-entries-open") i (get_or s.figures.entries i 0) (bytes "entries")
  pub waited_is : (begun unbounded : ℕ)
      → waited i begun unbounded
      ≡ counted (bytes "<td><span data-figure=\"waits\" data-source=\"") i ++ bytes "\">" ++ amount begun (bytes "waits") ++ bytes "</span>" ++ others unbounded
      ++ bytes "</td>"

-- the waits of source i
pub record WaitRows (w : Waits) (trace : List ℕ) (i : ℕ) : Type 0 where
  pub row : waits_row w trace i
      ≡ counted (bytes "<tr><th>source ") i ++ bytes "</th>" ++ source_cell (bytes "waits-unended") i (get_or w.unended i 0) (bytes "waits")
      ++ source_cell (bytes "waits-unbounded") i (get_or w.unbounded i 0) (bytes "waits")
      ++ cell_of (bytes "first-unbounded") i ++ first (get_or w.unbounded i 0) (get_or w.first i 0) (get_or trace i 0) ++ bytes "</td>"
      ++ terms w i (bounded (get_or w.begun i 0) (get_or w.unbounded i 0))
      ++ bytes "</tr>\n"
  pub six : (told : Bool)
      → terms w i told
      ≡ term (bytes "bound-pending") i told (get_or w.pending i 0) ++ term (bytes "bound-edges") i told (get_or w.edges i 0)
      ++ term (bytes "bound-commands") i told (get_or w.commands i 0)
      ++ term (bytes "bound-turns") i told (get_or w.turns i 0)
      ++ term (bytes "bound-closed-active") i told (get_or w.closed i 0)
      ++ term (bytes "bound-remembered") i told (get_or w.remembered i 0)
