-- The priority table of an AIC as it is typed: priority, type and forcing of each source as its record has them. A record has no frames, and 0 stands for
-- each (docs/STACK.md; 02, 4/12).
use Rattle.std.specs.Prelude.{ℕ, zero, suc, ◌+◌, ◌%◌, ◌^◌, Bool, ◌&&◌, List, [], ◌∷◌, ◌++◌, eqb, get_or}
use Rattle.words.specs.Choice.{pick}
use Rattle.steps.specs.Refusals.{carried_out}
use Rattle.text.specs.Text.{newline, hex, decimal, field}
use Rattle.text.specs.Phrases.{bytes, counted}
use Rattle.aic_record.specs.declared.Aic.{Aic}
use Rattle.aic_record.specs.Mode.{priority_of, type_of}
use Rattle.stack.specs.declared.Table.{Table}
use Rattle.tables.specs.Reading.{list_of}
use Rattle.kinds.specs.Kinds.{aic_kind}
use Rattle.beginning.specs.Begin.{begin_of}
use Rattle.beginning.specs.Play.{play_of}

-- ---- the table of a record

-- bits 2:0 and 6:5 of each mode, the forced sources, a word, and no frame (01, AIC, Mode and Fast side; 003, 27.8.3)
unfoldable pub table_in : Aic → Table
table_in a =
    record {
      priority = list_of 32 (λ i. priority_of (get_or a.mode i 0));
      kind = list_of 32 (λ i. type_of (get_or a.mode i 0));
      forced = a.forced % 2 ^ 32;
      frame = list_of 32 (λ i. 0);
      mark = 0;
    }

-- ---- its text

-- what the numbers are, as a comment
unfoldable pub heading : List ℕ
heading = bytes "# priority, type and frame in bytes of each source, 0 first; the frames and that of a mark are 0 and to be filled in\n"

-- a source of this mode: its priority, its type, 0 for its frame, and in a comment which one it is
unfoldable pub source_line : ℕ → ℕ → List ℕ
source_line mode i = decimal (priority_of mode) ++ field (type_of mode) ++ counted (bytes " 0 # source ") i ++ (newline ∷ [])

-- k sources from the ith on
unfoldable pub source_lines : List ℕ → ℕ → ℕ → List ℕ
source_lines modes zero i = []
source_lines modes (suc k) i = source_line (get_or modes i 0) i ++ source_lines modes k (i + 1)

-- the forced sources, and 0 for the frame of a mark
unfoldable pub last_lines : ℕ → List ℕ
last_lines forced = bytes "0x" ++ hex forced ++ bytes " # forced sources\n0 # frame of a mark in bytes\n"

unfoldable pub table_text : Aic → List ℕ
table_text a = heading ++ source_lines a.mode 32 0 ++ last_lines a.forced

-- ---- of a trace

-- there is a table: the trace is of an AIC, and starts one
unfoldable pub is_tabled : List ℕ → Bool
is_tabled s = eqb (begin_of s).refusal carried_out && eqb (begin_of s).machine.kind aic_kind

-- why there is none
unfoldable pub no_beginning : ℕ → ℕ → List ℕ
no_beginning refusal offset = bytes "no table: the trace has no beginning, E" ++ field refusal ++ field offset ++ (newline ∷ [])

unfoldable pub no_table : List ℕ
no_table = bytes "no table: the trace is not of an AIC\n"

-- the table of the record after the last step played, of 20,000 at most; or why there is none
unfoldable pub text_of : List ℕ → List ℕ
text_of s =
    pick (eqb (begin_of s).refusal carried_out)
    (pick (eqb (begin_of s).machine.kind aic_kind) (table_text (play_of s 20000).machine.aic) no_table)
    (no_beginning (begin_of s).refusal (begin_of s).place)
