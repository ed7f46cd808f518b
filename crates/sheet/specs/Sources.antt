-- The sources on the page: two tables with a row for each source that is shown (02, 11/12 and 12/12).
use Rattle.std.specs.Prelude.{ℕ, ◌+◌, Bool, not, ◌&&◌, List, [], ◌++◌, eqb, get_or}
use Rattle.words.specs.Choice.{pick}
use Rattle.text.specs.Phrases.{bytes, counted}
use Rattle.stack.specs.declared.Table.{Table}
use Rattle.stack.specs.Bytes.{normal}
use Rattle.totals.specs.declared.waits.Waits.{Waits}
use Rattle.totals.specs.declared.sheets.Sheet.{Sheet}
use Rattle.sheet.specs.Texts.{amount, cell_of, source_cell, empty_cell}
use Rattle.sheet.specs.Names.{escaped, name_of}
use Rattle.sheet.specs.Order.{ahead_of}

-- ---- what the table says of a source

-- its number, and its name of k bytes or -
unfoldable pub source_head : List ℕ → ℕ → ℕ → List ℕ
source_head names k i = counted (bytes "<tr><th>source ") i ++ bytes "</th><td>" ++ pick (eqb k 0) (bytes "-") (escaped (name_of names k i)) ++ bytes "</td>"

-- its type in words; a source that is not external has no low level and no falling edge (003, 27.8.3)
unfoldable pub typed : ℕ → List ℕ
typed kind =
    pick (eqb kind 0) (bytes "level, low if external")
    (pick (eqb kind 1) (bytes "edge, falling if external") (pick (eqb kind 2) (bytes "level, high") (bytes "edge, rising")))

-- its priority, type and frame
unfoldable pub tabled : ℕ → ℕ → ℕ → ℕ → List ℕ
tabled i priority kind frame =
    cell_of (bytes "priority") i ++ counted (bytes "level ") priority ++ bytes "</td><td>" ++ typed kind ++ bytes "</td>"
    ++ source_cell (bytes "frame-bytes") i frame (bytes "bytes")

-- how many sources are ahead of it; of a fast one nothing is told
unfoldable pub ahead_cell : Table → ℕ → ℕ → List ℕ
ahead_cell t used i =
    pick (normal t i) (source_cell (bytes "ahead-sources") i (ahead_of t used i) (bytes "sources")) (empty_cell (bytes "ahead-sources") i)

-- ---- its waits

-- some wait of it has a bound
unfoldable pub bounded : ℕ → ℕ → Bool
bounded begun unbounded = not (eqb begun 0) && not (eqb unbounded begun)

-- the largest bound is the sum of its six terms (02, 12/12)
unfoldable pub bound_of : Waits → ℕ → ℕ
bound_of w i =
    get_or w.pending i 0 + get_or w.edges i 0 + get_or w.commands i 0 + get_or w.turns i 0 + get_or w.closed i 0 + get_or w.remembered i 0

-- the most handlers that can be started during a wait: - where it never waited, none where no wait has a bound
unfoldable pub most : ℕ → ℕ → ℕ → List ℕ
most begun unbounded bound = pick (eqb begun 0) (bytes "-") (pick (eqb unbounded begun) (bytes "none") (amount bound (bytes "handlers")))

-- how many waits have no bound
unfoldable pub others : ℕ → List ℕ
others unbounded = pick (eqb unbounded 0) [] (counted (bytes ", ") unbounded ++ bytes " without a bound")

-- how many waits there are, and how many of them have no bound
unfoldable pub waited : ℕ → ℕ → ℕ → List ℕ
waited i begun unbounded =
    counted (bytes "<td><span data-figure=\"waits\" data-source=\"") i ++ bytes "\">" ++ amount begun (bytes "waits") ++ bytes "</span>" ++ others unbounded
    ++ bytes "</td>"

-- the first wait without a bound
unfoldable pub first : ℕ → ℕ → ℕ → List ℕ
first unbounded step trace = pick (eqb unbounded 0) (bytes "-") (counted (bytes "step ") step ++ counted (bytes " of trace ") trace)

-- a term of the largest bound, where there is one
unfoldable pub term : List ℕ → ℕ → Bool → ℕ → List ℕ
term figure i told n = pick told (source_cell figure i n (bytes "handlers")) (empty_cell figure i)

-- ---- its rows

-- the handlers of it that were started, and the most seen and the most possible during one wait of it
unfoldable pub started_cells : Sheet → ℕ → List ℕ
started_cells s i =
    source_cell (bytes "handlers-started") i (get_or s.figures.started i 0) (bytes "handlers")
    ++ source_cell (bytes "most-started-while-waiting") i (get_or s.figures.waited i 0) (bytes "handlers")
    ++ cell_of (bytes "most-startable-while-waiting") i ++ most (get_or s.waits.begun i 0) (get_or s.waits.unbounded i 0) (bound_of s.waits i) ++ bytes "</td>"
    ++ waited i (get_or s.waits.begun i 0) (get_or s.waits.unbounded i 0)
    ++ source_cell (bytes "most-entries-open") i (get_or s.figures.entries i 0) (bytes "entries")

unfoldable pub source_row : Table → List ℕ → List ℕ → Sheet → ℕ → List ℕ
source_row t names lengths s i =
    source_head names (get_or lengths i 0) i ++ tabled i (get_or t.priority i 0) (get_or t.kind i 0) (get_or t.frame i 0) ++ ahead_cell t s.used i ++ started_cells s i
    ++ bytes "</tr>\n"

-- the six terms of the largest bound
unfoldable pub terms : Waits → ℕ → Bool → List ℕ
terms w i told =
    term (bytes "bound-pending") i told (get_or w.pending i 0) ++ term (bytes "bound-edges") i told (get_or w.edges i 0)
    ++ term (bytes "bound-commands") i told (get_or w.commands i 0)
    ++ term (bytes "bound-turns") i told (get_or w.turns i 0)
    ++ term (bytes "bound-closed-active") i told (get_or w.closed i 0)
    ++ term (bytes "bound-remembered") i told (get_or w.remembered i 0)

unfoldable pub waits_row : Waits → List ℕ → ℕ → List ℕ
waits_row w trace i =
    counted (bytes "<tr><th>source ") i ++ bytes "</th>" ++ source_cell (bytes "waits-unended") i (get_or w.unended i 0) (bytes "waits")
    ++ source_cell (bytes "waits-unbounded") i (get_or w.unbounded i 0) (bytes "waits")
    ++ cell_of (bytes "first-unbounded") i ++ first (get_or w.unbounded i 0) (get_or w.first i 0) (get_or trace i 0) ++ bytes "</td>"
    ++ terms w i (bounded (get_or w.begun i 0) (get_or w.unbounded i 0))
    ++ bytes "</tr>\n"
