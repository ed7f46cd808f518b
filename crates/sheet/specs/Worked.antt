-- A trace, a table and a sheet, worked through.
use Rattle.std.specs.Prelude.{ℕ, true, List, [], ◌∷◌, ◌++◌}
use Rattle.text.specs.Phrases.{bytes}
use Rattle.totals.specs.declared.waits.Waits.{Waits}
use Rattle.stack.specs.declared.Table.{Table}
use Rattle.totals.specs.declared.sheets.Noted.{Noted}
use Rattle.totals.specs.declared.sheets.Sheet.{Sheet}

abbrev none : Waits
none =
    record {
      begun = [];
      unended = [];
      unbounded = [];
      first = [];
      pending = [];
      edges = [];
      commands = [];
      turns = [];
      closed = [];
      remembered = [];
    }

-- a trace of seven steps, one of them refused, that ended with a refusal by 8 at 65,535
abbrev pub row_worked : Noted
row_worked =
    record {
      steps = 7;
      refused = 1;
      marks = 2;
      idle = 0;
      left = 4;
      refusal = 8;
      offset = 65535;
      aic = true;
      used = 2;
      strays = 32;
      astray = 0;
      figures = record { started = []; waited = []; entries = [] };
      waits = none;
    }

-- source 0 has priority 3, a rising edge and a frame of 160 bytes, source 1 priority 6, a high level and 96 bytes
abbrev pub table_worked : Table
table_worked = record { priority = 3 ∷ 6 ∷ []; kind = 3 ∷ 2 ∷ []; forced = 0; frame = 160 ∷ 96 ∷ []; mark = 64 }

-- source 0 waited twice, and a mode was written in both; source 1 waited five times, once without a bound from step 17 of trace 3 on
abbrev pub sheet_worked : Sheet
sheet_worked =
    record {
      named = 3;
      full = 0;
      unopened = 0;
      unkept = 0;
      steps = 7;
      refused = 1;
      marks = 2;
      idle = 0;
      left = 4;
      used = 3;
      figures = record { started = 12 ∷ 4 ∷ []; waited = 5 ∷ 2 ∷ []; entries = 8 ∷ 3 ∷ [] };
      waits =
          record {
            begun = 2 ∷ 5 ∷ [];
            unended = 0 ∷ 1 ∷ [];
            unbounded = 2 ∷ 1 ∷ [];
            first = 9 ∷ 17 ∷ [];
            pending = 0 ∷ 1 ∷ [];
            edges = 0 ∷ 2 ∷ [];
            commands = 0 ∷ 0 ∷ [];
            turns = 0 ∷ 3 ∷ [];
            closed = 0 ∷ 0 ∷ [];
            remembered = 0 ∷ 1 ∷ [];
          };
      trace = 2 ∷ 3 ∷ [];
    }

-- the row of source 0, which is called tick
abbrev pub source_worked : List ℕ
source_worked =
    bytes "<tr><th>source 0</th><td>tick</td><td data-figure=\"priority\" data-source=\"0\">level 3</td><td>edge, rising</td>"
    ++ bytes "<td data-figure=\"frame-bytes\" data-source=\"0\">160 bytes</td><td data-figure=\"ahead-sources\" data-source=\"0\">-</td>"
    ++ bytes "<td data-figure=\"handlers-started\" data-source=\"0\">12 handlers</td><td data-figure=\"most-started-while-waiting\" data-source=\"0\">5 handlers</td>"
    ++ bytes "<td data-figure=\"most-startable-while-waiting\" data-source=\"0\">none</td>"
    ++ bytes "<td><span data-figure=\"waits\" data-source=\"0\">2 waits</span>, 2 without a bound</td><td data-figure=\"most-entries-open\" data-source=\"0\">8 entries</td></tr>\n"

-- the waits of source 1
abbrev pub waits_worked : List ℕ
waits_worked =
    bytes "<tr><th>source 1</th><td data-figure=\"waits-unended\" data-source=\"1\">1 waits</td><td data-figure=\"waits-unbounded\" data-source=\"1\">1 waits</td>"
    ++ bytes "<td data-figure=\"first-unbounded\" data-source=\"1\">step 17 of trace 3</td><td data-figure=\"bound-pending\" data-source=\"1\">1 handlers</td>"
    ++ bytes "<td data-figure=\"bound-edges\" data-source=\"1\">2 handlers</td><td data-figure=\"bound-commands\" data-source=\"1\">0 handlers</td>"
    ++ bytes "<td data-figure=\"bound-turns\" data-source=\"1\">3 handlers</td><td data-figure=\"bound-closed-active\" data-source=\"1\">0 handlers</td>"
    ++ bytes "<td data-figure=\"bound-remembered\" data-source=\"1\">1 handlers</td></tr>\n"
