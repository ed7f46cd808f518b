-- The text of the waits of a source: a line for each, a last one for all of them, and the line that says why there is none.
use Rattle.std.specs.Prelude.{ℕ, ◌-◌, List, [], ◌∷◌, ◌++◌, eqb, ltb}
use Rattle.words.specs.Choice.{pick}
use Rattle.text.specs.Text.{field, newline}
use Rattle.text.specs.Phrases.{bytes, counted}
use Rattle.aic_bounds.specs.declared.Bound.{Bound}
use Rattle.aic_bounds.specs.Bounds.{bound_of}
use Rattle.trace_bounds.specs.Waits.{Wait}

-- ---- a wait

-- the step by which it ends
unfoldable pub end_words : ℕ → List ℕ
end_words ended = pick (eqb ended 0) (bytes ", not ended") (counted (bytes ", ended by step ") ended)

-- the six terms: handlers
unfoldable pub term_words : Bound → List ℕ
term_words b =
    counted (bytes " handlers: pending ") b.pending ++ counted (bytes ", edges ") b.edges ++ counted (bytes ", commands ") b.commands
    ++ counted (bytes ", turns ") b.turns ++ counted (bytes ", closed while active ") b.closed ++ counted (bytes ", remembered ") b.remembered

-- the bound and its terms, or the step that wrote a mode or a forcing
unfoldable pub bound_words : Bound → List ℕ
bound_words b =
    pick (eqb b.broke 0) (counted (bytes ", at most ") (bound_of b) ++ term_words b) (counted (bytes ", no bound: a mode or a forcing written by step ") b.broke)

-- the whole line: handlers of others that are started in it stand over 2 in what is observed
unfoldable pub wait_line : Wait → List ℕ
wait_line w =
    counted (bytes "began by step ") w.began ++ end_words w.ended ++ counted (bytes "; handlers started ") (w.bound.wait - 2) ++ bound_words w.bound
    ++ (newline ∷ [])

unfoldable pub wait_lines : List Wait → List ℕ
wait_lines [] = []
wait_lines (w ∷ ws) = wait_line w ++ wait_lines ws

-- ---- all of them

-- of those that have a bound the largest, if there are any: handlers
unfoldable pub most_words : ℕ → ℕ → ℕ → List ℕ
most_words begun unbounded most = pick (ltb unbounded begun) (counted (bytes "; handlers started in one with a bound at most ") most) []

-- the waits of source k that begin, have not ended and have no bound, and the largest bound of the others
unfoldable pub last_line : ℕ → ℕ → ℕ → ℕ → ℕ → List ℕ
last_line k begun unended unbounded most =
    counted (bytes "source ") k ++ counted (bytes ": waits ") begun ++ counted (bytes ", not ended ") unended ++ counted (bytes ", without a bound ") unbounded
    ++ most_words begun unbounded most ++ (newline ∷ [])

-- ---- none

-- the trace has no beginning, its controller is none whose sources wait, the number is that of no source that waits
unfoldable pub no_beginning : ℕ → ℕ → List ℕ
no_beginning refusal offset = bytes "no bound: the trace has no beginning, E" ++ field refusal ++ field offset ++ (newline ∷ [])

unfoldable pub no_waits : List ℕ
no_waits = bytes "no bound: the trace is not of an AIC, and no source of another controller waits\n"

unfoldable pub no_source : List ℕ
no_source = bytes "no bound: a source that waits is a number from 1 to 31\n"
