-- The nesting of an AIC over a window of its trace, as SVG; a line of text where there is no such picture.
use Rattle.std.specs.Prelude.{ℕ, Bool, ◌&&◌, List, eqb, leb}
use Rattle.words.specs.Choice.{pick}
use Rattle.steps.specs.Refusals.{carried_out}
use Rattle.kinds.specs.Kinds.{aic_kind}
use Rattle.machine.specs.declared.record.Machine.{Machine}
use Rattle.trace.specs.Trace.{Trace}
use Rattle.beginning.specs.Begin.{begin_of}
use Rattle.beginning.specs.Play.{records_of, play_of}
use Rattle.drawing.specs.Drawing.{drawing}
use Rattle.picture.specs.Lines.{no_beginning, no_entries, wrong_window}
use Rattle.picture.specs.Window.{before, columns_of}

-- the most steps of a trace that are played
abbrev pub most_played : ℕ
most_played = 20000

-- a window has 1 to 500 steps, and begins with one of those played, which are numbered from 1
unfoldable pub inside : ℕ → ℕ → ℕ → Bool
inside played first steps = leb 1 first && leb first played && leb 1 steps && leb steps 500

-- there is one
unfoldable pub is_drawn : List ℕ → ℕ → ℕ → Bool
is_drawn s first steps = eqb (begin_of s).refusal carried_out && eqb (begin_of s).machine.kind aic_kind && inside (play_of s most_played).steps first steps

-- the picture of step records on a machine
unfoldable pub drawn_of : ℕ → ℕ → Machine → Trace → List ℕ
drawn_of first steps m t =
    drawing first (columns_of first steps m t.steps) (before first m t.steps).aic.source (before first m t.steps).aic.level

-- the text: the picture, or why there is none
unfoldable pub picture_of : List ℕ → ℕ → ℕ → List ℕ
picture_of s first steps =
    pick (eqb (begin_of s).refusal carried_out)
    (pick (eqb (begin_of s).machine.kind aic_kind)
    (pick (inside (play_of s most_played).steps first steps) (drawn_of first steps (begin_of s).machine (records_of s most_played)) (wrong_window (play_of s most_played).steps))
    no_entries)
    (no_beginning (begin_of s).refusal (begin_of s).place)
