-- The text of the waits of a source over a trace.
use Rattle.std.specs.Prelude.{ℕ, Bool, ◌&&◌, List, ◌++◌, eqb, leb}
use Rattle.words.specs.Choice.{pick}
use Rattle.steps.specs.Refusals.{carried_out}
use Rattle.steps.specs.declared.Step.{Step}
use Rattle.trace.specs.Trace.{Trace}
use Rattle.kinds.specs.Kinds.{aic_kind}
use Rattle.aic_record.specs.declared.Aic.{Aic}
use Rattle.aic_bounds.specs.Over.{bounded_of, waits_begun, waits_unended, waits_unbounded}
use Rattle.beginning.specs.Begin.{begin_of}
use Rattle.beginning.specs.Play.{records_of}
use Rattle.lines.specs.Listing.{end_of}
use Rattle.tally.specs.Tally.{steps_in}
use Rattle.trace_bounds.specs.Waits.{waits_of}
use Rattle.trace_bounds.specs.Lines.{wait_lines, last_line, no_beginning, no_waits, no_source}

-- the most steps of a trace that are played
abbrev pub most_played : ℕ
most_played = 20000

-- source 0 is always fast, and never waits
unfoldable pub is_source : ℕ → Bool
is_source k = leb 1 k && leb k 31

-- the waits of source k over a run, and the last line
unfoldable pub lines_over : ℕ → Aic → List Step → List ℕ
lines_over k s xs = wait_lines (waits_of k s xs) ++ last_line k (waits_begun k s xs) (waits_unended k s xs) (waits_unbounded k s xs) (bounded_of k s xs)

-- those of step records, and E where they end in one, as in a listing (01, House trace)
unfoldable pub lines_of : ℕ → Aic → Trace → List ℕ
lines_of k s t = lines_over k s (steps_in t.steps) ++ end_of t.refusal t.offset

-- there are such lines
unfoldable pub is_listed : List ℕ → ℕ → Bool
is_listed s k = eqb (begin_of s).refusal carried_out && eqb (begin_of s).machine.kind aic_kind && is_source k

-- the text: the lines, or why there are none
unfoldable pub bound_text : List ℕ → ℕ → List ℕ
bound_text s k =
    pick (eqb (begin_of s).refusal carried_out)
    (pick (eqb (begin_of s).machine.kind aic_kind)
    (pick (is_source k) (lines_of k (begin_of s).machine.aic (records_of s most_played)) no_source)
    no_waits)
    (no_beginning (begin_of s).refusal (begin_of s).place)
