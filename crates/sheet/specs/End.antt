-- How the page ends, after the last trace: the sums over the traces that are counted, the stack, the sources, and what each figure counts.
use Rattle.std.specs.Prelude.{ℕ, ◌+◌, List, ◌++◌}
use Rattle.text.specs.Phrases.{bytes}
use Rattle.stack.specs.declared.Table.{Table}
use Rattle.totals.specs.declared.sheets.Sheet.{Sheet}
use Rattle.sheet.specs.Texts.{amount, cell, each}
use Rattle.sheet.specs.Order.{in_order, hidden}
use Rattle.sheet.specs.Levels.{stack_part}
use Rattle.sheet.specs.Sources.{source_row, waits_row}
use Rattle.sheet.specs.Meaning.{meaning}

-- ---- the head of the page

-- a figure of the head in its row
unfoldable pub head_row : List ℕ → List ℕ → ℕ → List ℕ → List ℕ
head_row words figure n unit = bytes "<tr><th>" ++ words ++ bytes "</th>" ++ cell figure n unit ++ bytes "</tr>\n"

-- the traces left out by one number
unfoldable pub out_row : List ℕ → ℕ → List ℕ
out_row words n = bytes "<tr><th>left out by " ++ words ++ amount n (bytes "traces") ++ bytes "</td></tr>\n"

-- the traces named and left out
unfoldable pub traces_named : Sheet → List ℕ
traces_named s =
    head_row (bytes "traces named") (bytes "traces") s.named (bytes "traces")
    ++ head_row (bytes "traces left out") (bytes "traces-left-out") (s.full + s.unopened + s.unkept) (bytes "traces")
    ++ out_row (bytes "16: a sum would be too large</th><td data-refusal=\"16\">") s.full
    ++ out_row (bytes "17: not to be opened or read</th><td data-refusal=\"17\">") s.unopened
    ++ out_row (bytes "18: the table is not kept</th><td data-refusal=\"18\">") s.unkept

-- and what was added up of the others
unfoldable pub sums : Sheet → List ℕ
sums s =
    head_row (bytes "steps played") (bytes "steps") s.steps (bytes "steps") ++ head_row (bytes "steps refused") (bytes "steps-refused") s.refused (bytes "steps")
    ++ head_row (bytes "spurious marks opened") (bytes "marks") s.marks (bytes "marks")
    ++ head_row (bytes "ends of interrupt that found no entry open") (bytes "idle-ends") s.idle (bytes "ends")
    ++ head_row (bytes "entries left open at the end of a trace") (bytes "entries-left-open") s.left (bytes "entries")

unfoldable pub head_part : Sheet → List ℕ
head_part s =
    bytes "</tbody>\n</table>\n</section>\n<header>\n<h1>Tuning sheet</h1>\n<table>\n" ++ traces_named s ++ sums s ++ bytes "</table>\n</header>\n"

-- ---- the sources

unfoldable pub sources_head : List ℕ
sources_head =
    bytes "<section id=\"sources\">\n<h2>Sources</h2>\n<table>\n<thead>\n"
    ++ bytes "<tr><th>source</th><th>name</th><th>priority</th><th>type</th><th>frame</th><th>ahead of it</th><th>started</th>"
    ++ bytes "<th>started while it waited: most seen</th><th>at most</th><th>waits</th><th>entries open while it was: most</th></tr>\n"
    ++ bytes "</thead>\n<tbody>\n"

unfoldable pub waits_head : List ℕ
waits_head =
    bytes "</tbody>\n</table>\n<table>\n<thead>\n"
    ++ bytes "<tr><th>source</th><th>waits not ended</th><th>waits without a bound</th><th>first of these</th><th>pending</th><th>edges</th>"
    ++ bytes "<th>commands</th><th>turns</th><th>closed while active</th><th>remembered</th></tr>\n"
    ++ bytes "</thead>\n<tbody>\n"

-- the sources that are not shown
unfoldable pub hidden_line : Table → ℕ → List ℕ
hidden_line t used =
    bytes "</tbody>\n</table>\n<p><span data-figure=\"sources-left-out\">" ++ amount (hidden t used) (bytes "sources")
    ++ bytes "</span> are left out: enabled in no trace, and 0 0 0 in the table.</p>\n</section>\n"

-- both tables, with these sources
unfoldable pub sources_of : List ℕ → Table → List ℕ → List ℕ → Sheet → List ℕ
sources_of is t names lengths s =
    sources_head ++ each (source_row t names lengths s) is ++ waits_head ++ each (waits_row s.waits s.trace) is ++ hidden_line t s.used

unfoldable pub sources_part : Table → List ℕ → List ℕ → Sheet → List ℕ
sources_part t names lengths s = sources_of (in_order t s.used) t names lengths s

-- ---- the whole

unfoldable pub page_end : Table → List ℕ → List ℕ → Sheet → List ℕ
page_end t names lengths s = head_part s ++ stack_part t names lengths ++ sources_part t names lengths s ++ meaning
