-- The text of the report: each number stands behind what it counts, handlers, entries or steps (02, 11/12).
use Rattle.std.specs.Prelude.{ℕ, zero, suc, List, [], ◌∷◌, ◌++◌, eqb, get_or}
use Rattle.words.specs.Choice.{pick}
use Rattle.steps.specs.Refusals.{carried_out}
use Rattle.text.specs.Text.{newline, field}
use Rattle.text.specs.Phrases.{bytes, counted}
use Rattle.totals.specs.declared.Totals.{Totals}

-- ---- a line for each trace named

-- the name, which comes last so that any byte may be in it
unfoldable pub named : List ℕ → List ℕ
named name = bytes ": " ++ name ++ (newline ∷ [])

-- E, the number and the offset of a trace that ends so, as a listing tells them: it is counted as far as it was played (02, 11/12; 01, House trace)
unfoldable pub ended_at : ℕ → ℕ → List ℕ
ended_at refusal offset = pick (eqb refusal carried_out) [] (bytes ", E" ++ field refusal ++ field offset)

-- of one trace: how many steps were played, and how many of them were refused (02, 11/12)
unfoldable pub trace_line : ℕ → ℕ → ℕ → ℕ → List ℕ → List ℕ
trace_line played refused refusal offset name =
    counted (bytes "steps played ") played ++ counted (bytes ", steps refused ") refused ++ ended_at refusal offset ++ named name

-- a trace that is left out, by 16 or 17
unfoldable pub left_out_line : ℕ → List ℕ → List ℕ
left_out_line refusal name = counted (bytes "refusal ") refusal ++ named name

-- ---- a line for each source

-- of one source of the AIC, from every trace that was read: its handlers started, the most of others started in one of its waits, and the most entries
-- open while a handler of it was among them (02, 11/12)
unfoldable pub source_line : ℕ → ℕ → ℕ → ℕ → List ℕ
source_line i started waited entries =
    counted (bytes "source ") i ++ counted (bytes ": handlers started ") started
    ++ counted (bytes ", most handlers started while it waited ") waited
    ++ counted (bytes ", most entries open while it was open ") entries ++ (newline ∷ [])

-- those of the first n sources, one after the other
unfoldable pub source_lines : ℕ → Totals → List ℕ
source_lines zero t = []
source_lines (suc n) t = source_lines n t ++ source_line n (get_or t.started n 0) (get_or t.waited n 0) (get_or t.entries n 0)
