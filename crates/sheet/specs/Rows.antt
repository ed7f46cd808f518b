-- The row of a trace: what is told of one that is counted, or the number by which it is left out (02, 11/12).
use Rattle.std.specs.Prelude.{ℕ, Bool, List, [], ◌++◌, eqb}
use Rattle.words.specs.Choice.{pick}
use Rattle.steps.specs.Refusals.{carried_out}
use Rattle.text.specs.Text.{field}
use Rattle.text.specs.Phrases.{bytes, counted}
use Rattle.totals.specs.declared.sheets.Noted.{Noted}
use Rattle.sheet.specs.Texts.{cell}
use Rattle.sheet.specs.Names.{escaped}

-- how the row of the nth name begins
unfoldable pub row_head : ℕ → List ℕ → List ℕ
row_head n name = counted (bytes "<tr><th>") n ++ bytes "</th><td>" ++ escaped name ++ bytes "</td>"

-- ---- a trace that is counted

-- how it ended: whole, or with E, the refusal and its offset (01, House trace)
unfoldable pub ended : ℕ → ℕ → List ℕ
ended refusal offset = pick (eqb refusal carried_out) (bytes "whole") (bytes "E" ++ field refusal ++ field offset)

-- that it enables nothing
unfoldable pub enabling : ℕ → List ℕ
enabling used = pick (eqb used 0) (bytes ", enables no source") []

-- that it has steps only, or enables nothing
unfoldable pub remark : Bool → ℕ → List ℕ
remark aic used = pick aic (enabling used) (bytes ", not of an AIC: steps only")

unfoldable pub ending : Noted → List ℕ
ending t = bytes "<td data-figure=\"trace-ending\">" ++ ended t.refusal t.offset ++ remark t.aic t.used ++ bytes "</td></tr>\n"

-- its row
unfoldable pub trace_row : ℕ → Noted → List ℕ → List ℕ
trace_row n t name =
    row_head n name ++ cell (bytes "trace-steps") t.steps (bytes "steps") ++ cell (bytes "trace-steps-refused") t.refused (bytes "steps")
    ++ cell (bytes "trace-marks") t.marks (bytes "marks") ++ cell (bytes "trace-idle-ends") t.idle (bytes "ends")
    ++ cell (bytes "trace-entries-left-open") t.left (bytes "entries")
    ++ ending t

-- ---- a trace that is left out

-- why: a sum would be too large (02, 11/12), the file could not be had, or the table is not kept after a step, 0 for the start, by a source
unfoldable pub reason : ℕ → ℕ → ℕ → List ℕ
reason refusal step source =
    pick (eqb refusal 16) (bytes "left out by 16: a sum of the page would pass 4294967295")
    (pick (eqb refusal 17) (bytes "left out by 17: it could not be opened or read")
    (counted (bytes "left out by 18: after step ") step ++ counted (bytes " source ") source ++ bytes " is enabled and not as in the table"))

unfoldable pub left_out_row : ℕ → ℕ → ℕ → ℕ → List ℕ → List ℕ
left_out_row n refusal step source name =
    row_head n name ++ bytes "<td colspan=\"6\" data-figure=\"trace-left-out\">" ++ reason refusal step source ++ bytes "</td></tr>\n"
