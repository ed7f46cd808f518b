-- What is promised of the page: its words and numbers part by part, which sources it shows and in which order, and how long its parts are at most.
use Rattle.std.specs.Prelude.{ℕ, suc, ◌+◌, ◌*◌, ◌/◌, ◌<◌, ◌≤◌, min, max, ◌≡◌, Bool, true, false, not, ◌&&◌, List, [], ◌∷◌, ◌++◌, ◌↔◌, ◌≢◌, ◌⊎◌, eqb, length, get_or, take, drop}
use Rattle.words.specs.Counting.{one, count_below}
use Rattle.words.specs.Word.{bit}
use Rattle.text.specs.Text.{decimal, hex_of}
use Rattle.text.specs.Phrases.{bytes, counted}
use Rattle.stack.specs.declared.Table.{Table}
use Rattle.stack.specs.Bytes.{normal, level_bytes}
use Rattle.stack.specs.Promises.{NormalOf}
use Rattle.totals.specs.declared.waits.Waits.{Waits}
use Rattle.totals.specs.declared.sheets.Noted.{Noted}
use Rattle.totals.specs.declared.sheets.Sheet.{Sheet}
use Rattle.sheet.specs.Texts.{amount, cell, cell_of, source_cell, empty_cell}
use Rattle.sheet.specs.Names.{escape, escaped, name_of}
use Rattle.sheet.specs.Head.{page_head}
use Rattle.sheet.specs.Rows.{row_head, ended, remark, trace_row, reason, left_out_row}
use Rattle.sheet.specs.Order.{shown, stands, chosen, in_order, ahead, ahead_of, hidden}
use Rattle.sheet.specs.Levels.{tallest, width, bar, called, whose, level_row}
use Rattle.sheet.specs.Sources.{source_head, typed, ahead_cell, bounded, bound_of, most, others, first, term, source_row, waits_row}
use Rattle.sheet.specs.End.{head_row, out_row, page_end}
use Rattle.sheet.specs.Parts.{Sections, SourceRows, WaitRows}
use Rattle.sheet.specs.Worked.{row_worked, sheet_worked, table_worked, source_worked, waits_worked}

-- every number of a list is one of a byte
abbrev pub Bytes : List ℕ → Type 0
Bytes [] = Unit
Bytes (b ∷ bs) = (b < 256) × Bytes bs

-- how often a number stands in a list
unfoldable pub occurs : ℕ → List ℕ → ℕ
occurs i [] = 0
occurs i (x ∷ xs) = one (eqb x i) + occurs i xs

pub record Promises : Type 0 where
  -- ---- numbers and cells

  -- a number, a space and the word of what it counts (02, 4/12 and 11/12)
  pub amount_is : (n : ℕ) (unit : List ℕ) → amount n unit ≡ decimal n ++ bytes " " ++ unit
  -- a figure's cell carries its name, one of a source the source's number too
  pub cell_is : (figure : List ℕ) (n : ℕ) (unit : List ℕ) → cell figure n unit ≡ bytes "<td data-figure=\"" ++ figure ++ bytes "\">" ++ amount n unit ++ bytes "</td>"
  pub cell_of_is : (figure : List ℕ) (i : ℕ) → cell_of figure i ≡ bytes "<td data-figure=\"" ++ figure ++ counted (bytes "\" data-source=\"") i ++ bytes "\">"
  pub source_cell_is : (figure : List ℕ) (i n : ℕ) (unit : List ℕ) → source_cell figure i n unit ≡ cell_of figure i ++ amount n unit ++ bytes "</td>"
  pub empty_cell_is : (figure : List ℕ) (i : ℕ) → empty_cell figure i ≡ cell_of figure i ++ bytes "-</td>"
  -- ---- names

  -- markup and the backslash are told by other bytes
  pub markup : (escape 38 ≡ bytes "&amp;") × (escape 60 ≡ bytes "&lt;") × (escape 62 ≡ bytes "&gt;") × (escape 34 ≡ bytes "&quot;") × (escape 92 ≡ bytes "\\\\")
  -- every other byte that prints stands for itself, and one that does not is told by two hexadecimal digits
  pub printed : (b : ℕ) → 32 ≤ b → b ≤ 126 → b ≢ 38 → b ≢ 60 → b ≢ 62 → b ≢ 34 → b ≢ 92 → escape b ≡ b ∷ []
  pub told : (b : ℕ) → (b < 32) ⊎ (126 < b) → escape b ≡ bytes "\\x" ++ hex_of 2 b
  pub by_byte : (b : ℕ) (name : List ℕ) → (escaped [] ≡ []) × (escaped (b ∷ name) ≡ escape b ++ escaped name)
  -- two names that look alike are one
  pub unlike : (a b : List ℕ) → Bytes a → Bytes b → escaped a ≡ escaped b → a ≡ b
  -- the name of source i is so many bytes from 24 * i on, 24 at most
  pub name_is : (names : List ℕ) (k i : ℕ) → name_of names k i ≡ take (min k 24) (drop (24 * i) names)
  -- ---- rows of traces

  -- rows of three traces, whole: one that ended early, one of another kind, and one that does not keep the table (02, 11/12)
  pub trace_worked : trace_row 3 row_worked (bytes "a<b\n")
      ≡ bytes "<tr><th>3</th><td>a&lt;b\\x0A</td><td data-figure=\"trace-steps\">7 steps</td><td data-figure=\"trace-steps-refused\">1 steps</td>"
      ++ bytes "<td data-figure=\"trace-marks\">2 marks</td><td data-figure=\"trace-idle-ends\">0 ends</td><td data-figure=\"trace-entries-left-open\">4 entries</td>"
      ++ bytes "<td data-figure=\"trace-ending\">E 8 65535</td></tr>\n"
  pub left_out_worked : left_out_row 12 18 40 9 (bytes "t")
      ≡ bytes "<tr><th>12</th><td>t</td><td colspan=\"6\" data-figure=\"trace-left-out\">left out by 18: after step 40 source 9 is enabled and not as in the table</td></tr>\n"
  -- a row begins with the number of the name and the name
  pub row_begins : (n : ℕ) (name : List ℕ) → row_head n name ≡ counted (bytes "<tr><th>") n ++ bytes "</th><td>" ++ escaped name ++ bytes "</td>"
  pub trace_is : (n : ℕ) (t : Noted) (name : List ℕ)
      → trace_row n t name
      ≡ row_head n name ++ cell (bytes "trace-steps") t.steps (bytes "steps") ++ cell (bytes "trace-steps-refused") t.refused (bytes "steps")
      ++ cell (bytes "trace-marks") t.marks (bytes "marks") ++ cell (bytes "trace-idle-ends") t.idle (bytes "ends")
      ++ cell (bytes "trace-entries-left-open") t.left (bytes "entries")
      ++ (bytes "<td data-figure=\"trace-ending\">" ++ ended t.refusal t.offset ++ remark t.aic t.used ++ bytes "</td></tr>\n")
  -- its ending, and what is remarked
  pub ended_whole : (offset : ℕ) → ended 0 offset ≡ bytes "whole"
  pub ended_by : (refusal offset : ℕ) → refusal ≢ 0 → ended refusal offset ≡ bytes "E " ++ decimal refusal ++ (bytes " " ++ decimal offset)
  pub remark_other : (used : ℕ) → remark false used ≡ bytes ", not of an AIC: steps only"
  pub remark_idle : remark true 0 ≡ bytes ", enables no source"
  pub remark_none : (used : ℕ) → used ≢ 0 → remark true used ≡ []
  -- a trace that is left out tells why
  pub left_out_is : (n refusal step source : ℕ) (name : List ℕ)
      → left_out_row n refusal step source name
      ≡ row_head n name ++ bytes "<td colspan=\"6\" data-figure=\"trace-left-out\">" ++ reason refusal step source ++ bytes "</td></tr>\n"
  pub by_sixteen : (step source : ℕ) → reason 16 step source ≡ bytes "left out by 16: a sum of the page would pass 4294967295"
  pub by_seventeen : (step source : ℕ) → reason 17 step source ≡ bytes "left out by 17: it could not be opened or read"
  pub by_eighteen : (step source : ℕ)
      → reason 18 step source
      ≡ counted (bytes "left out by 18: after step ") step ++ counted (bytes " source ") source ++ bytes " is enabled and not as in the table"
  -- ---- which sources, and in which order

  -- a source is shown exactly if it is enabled in some trace or is not 0 0 0 in the table
  pub shown_is : (t : Table) (used i : ℕ)
      → (shown t used i ≡ true) ↔ ((bit used i ≡ true) ⊎ ((get_or t.priority i 0 ≢ 0) ⊎ ((get_or t.kind i 0 ≢ 0) ⊎ (get_or t.frame i 0 ≢ 0))))
  -- each source shown stands there once, and no other (of a table within its limits)
  pub once : (t : Table) (used i : ℕ) → i < 32 → get_or t.priority i 0 ≤ 7 → occurs i (in_order t used) ≡ one (shown t used i)
  pub occurs_is : (i x : ℕ) (xs : List ℕ) → (occurs i [] ≡ 0) × (occurs i (x ∷ xs) ≡ one (eqb x i) + occurs i xs)
  -- normal ones come first, level 7 to level 0, then the fast ones; of one level the lower number comes first (01, AIC, Normal side; 003, 27.7.3.1)
  pub order_is : (t : Table) (used : ℕ) → let n : ℕ → List ℕ = λ l. chosen (stands t used false l) 32 in let f : ℕ → List ℕ = λ l. chosen (stands t used true l) 32 in
      in_order t used ≡ (n 7 ++ (n 6 ++ (n 5 ++ (n 4 ++ (n 3 ++ (n 2 ++ (n 1 ++ (n 0 ++ [])))))))) ++ (f 7 ++ (f 6 ++ (f 5 ++ (f 4 ++ (f 3 ++ (f 2 ++ (f 1 ++ (f 0 ++ []))))))))
  pub normal_at : (t : Table) (used l i : ℕ) → stands t used false l i ≡ (shown t used i && (normal t i && eqb (get_or t.priority i 0) l))
  pub fast_at : (t : Table) (used l i : ℕ) → stands t used true l i ≡ (shown t used i && (not (normal t i) && eqb (get_or t.priority i 0) l))
  pub chosen_none : (p : ℕ → Bool) → chosen p 0 ≡ []
  pub chosen_passes : (p : ℕ → Bool) (n : ℕ) → p n ≡ true → chosen p (suc n) ≡ chosen p n ++ (n ∷ [])
  pub chosen_fails : (p : ℕ → Bool) (n : ℕ) → p n ≡ false → chosen p (suc n) ≡ chosen p n
  -- one is ahead of another exactly if its priority is higher, or equal and its number lower
  pub ahead_is : (t : Table) (j i : ℕ)
      → (ahead t j i ≡ true) ↔ ((get_or t.priority i 0 < get_or t.priority j 0) ⊎ ((get_or t.priority j 0 ≡ get_or t.priority i 0) × (j < i)))
  pub ahead_counts : (t : Table) (used i : ℕ) → ahead_of t used i ≡ count_below 32 (λ j. shown t used j && (normal t j && ahead t j i))
  pub hidden_counts : (t : Table) (used : ℕ) → hidden t used ≡ count_below 32 (λ i. not (shown t used i))
  -- ---- the stack

  -- whose frame a level's is: the mark's where no source has more, else that of the lowest number that has as much
  pub whose_mark : (t : Table) (names lengths : List ℕ) (l : ℕ) → level_bytes t l ≤ t.mark → whose t names lengths l ≡ bytes "the mark"
  pub whose_source : (t : Table) (names lengths : List ℕ) (l i : ℕ) → t.mark < level_bytes t l → NormalOf t l i → get_or t.frame i 0 ≡ level_bytes t l
      → ((j : ℕ) → j < i → NormalOf t l j → get_or t.frame j 0 ≢ level_bytes t l) → whose t names lengths l ≡ called names (get_or lengths i 0) i
  pub called_bare : (names : List ℕ) (i : ℕ) → called names 0 i ≡ counted (bytes "source ") i
  pub called_named : (names : List ℕ) (k i : ℕ) → k ≢ 0 → called names k i ≡ counted (bytes "source ") i ++ (bytes ", " ++ escaped (name_of names k i))
  pub level_is : (t : Table) (names lengths : List ℕ) (l : ℕ)
      → level_row t names lengths l
      ≡ counted (bytes "<tr><th>level ") l ++ counted (bytes "</th><td data-figure=\"level-bytes\" data-level=\"") l ++ bytes "\">" ++ amount (level_bytes t l) (bytes "bytes")
      ++ counted (bytes "</td><td data-figure=\"level-source\" data-level=\"") l ++ bytes "\">" ++ whose t names lengths l ++ bytes "</td></tr>\n"
  -- a bar is as wide as its bytes are of the most, 440 at most
  pub width_is : (m b : ℕ) → width m b ≡ b * 440 / max 1 m
  pub widest : (m b : ℕ) → b ≤ m → width m b ≤ 440
  pub tallest_is : (t : Table) (n : ℕ) → (tallest t 0 ≡ 0) × (tallest t (suc n) ≡ max (tallest t n) (level_bytes t n))
  pub bar_worked : bar 1000 250 7
      ≡ bytes "<text x=\"8\" y=\"20\">level 7</text><rect x=\"64\" y=\"8\" width=\"110\" height=\"16\" fill=\"none\" stroke=\"black\"/><text x=\"182\" y=\"20\">250 bytes</text>\n"
  -- ---- the sources

  pub source_whole : source_row table_worked (bytes "tick") (4 ∷ []) sheet_worked 0 ≡ source_worked
  pub waits_whole : waits_row sheet_worked.waits sheet_worked.trace 1 ≡ waits_worked
  -- a source's row begins with its number and its name, - where it has none
  pub source_bare : (names : List ℕ) (i : ℕ) → source_head names 0 i ≡ counted (bytes "<tr><th>source ") i ++ bytes "</th><td>" ++ bytes "-" ++ bytes "</td>"
  pub source_named : (names : List ℕ) (k i : ℕ) → k ≢ 0
      → source_head names k i ≡ counted (bytes "<tr><th>source ") i ++ bytes "</th><td>" ++ escaped (name_of names k i) ++ bytes "</td>"
  -- a type in words
  pub types : (typed 0 ≡ bytes "level, low if external") × (typed 1 ≡ bytes "edge, falling if external") × (typed 2 ≡ bytes "level, high") × (typed 3 ≡ bytes "edge, rising")
  -- sources ahead are counted of a normal one only
  pub ahead_normal : (t : Table) (used i : ℕ) → normal t i ≡ true → ahead_cell t used i ≡ source_cell (bytes "ahead-sources") i (ahead_of t used i) (bytes "sources")
  pub ahead_fast : (t : Table) (used i : ℕ) → normal t i ≡ false → ahead_cell t used i ≡ empty_cell (bytes "ahead-sources") i
  -- the most that can be started: - where it never waited, none where no wait has a bound, else the sum of the six terms (02, 12/12)
  pub most_never : (unbounded bound : ℕ) → most 0 unbounded bound ≡ bytes "-"
  pub most_none : (begun bound : ℕ) → begun ≢ 0 → most begun begun bound ≡ bytes "none"
  pub most_bound : (begun unbounded bound : ℕ) → begun ≢ 0 → unbounded ≢ begun → most begun unbounded bound ≡ amount bound (bytes "handlers")
  pub bound_is : (w : Waits) (i : ℕ)
      → bound_of w i ≡ get_or w.pending i 0 + get_or w.edges i 0 + get_or w.commands i 0 + get_or w.turns i 0 + get_or w.closed i 0 + get_or w.remembered i 0
  -- the first wait without a bound, and how many there are
  pub first_none : (step trace : ℕ) → first 0 step trace ≡ bytes "-"
  pub first_of : (unbounded step trace : ℕ) → unbounded ≢ 0 → first unbounded step trace ≡ counted (bytes "step ") step ++ counted (bytes " of trace ") trace
  pub others_none : others 0 ≡ []
  pub others_some : (unbounded : ℕ) → unbounded ≢ 0 → others unbounded ≡ counted (bytes ", ") unbounded ++ bytes " without a bound"
  -- a term is told where some wait has a bound: it waited, and not every wait lost its bound
  pub bounded_is : (begun unbounded : ℕ) → (bounded begun unbounded ≡ true) ↔ ((begun ≢ 0) × (unbounded ≢ begun))
  pub term_told : (figure : List ℕ) (i n : ℕ) → term figure i true n ≡ source_cell figure i n (bytes "handlers")
  pub term_empty : (figure : List ℕ) (i n : ℕ) → term figure i false n ≡ empty_cell figure i
  -- ---- the whole

  -- what the end is made of, and the rows of each source, as equations (specs/Parts.antt)
  pub sections : (t : Table) (names lengths : List ℕ) (s : Sheet) → Sections t names lengths s
  pub source_rows : (t : Table) (names lengths : List ℕ) (s : Sheet) (i : ℕ) → SourceRows t names lengths s i
  pub wait_rows : (w : Waits) (trace : List ℕ) (i : ℕ) → WaitRows w trace i
  pub head_rows : (words figure : List ℕ) (n : ℕ) (unit : List ℕ) → head_row words figure n unit ≡ bytes "<tr><th>" ++ words ++ bytes "</th>" ++ cell figure n unit ++ bytes "</tr>\n"
  pub out_rows : (words : List ℕ) (n : ℕ) → out_row words n ≡ bytes "<tr><th>left out by " ++ words ++ amount n (bytes "traces") ++ bytes "</td></tr>\n"
  -- how long they are: the head of the file, the row of a name, the end, whatever the figures are
  pub head_most : length page_head ≤ 1400
  pub trace_most : (n : ℕ) (t : Noted) (name : List ℕ) → length (trace_row n t name) ≤ length name * 6 + 484
  pub left_out_most : (n refusal step source : ℕ) (name : List ℕ) → length (left_out_row n refusal step source name) ≤ length name * 6 + 484
  pub end_most : (t : Table) (names lengths : List ℕ) (s : Sheet) → length (page_end t names lengths s) ≤ 81000
