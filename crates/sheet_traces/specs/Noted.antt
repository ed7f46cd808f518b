-- What the sheet takes from a trace (02, 4/12, 11/12 and 12/12): the report's figures, and of an AIC what was seen and what bounds its waits.
use Rattle.std.specs.Prelude.{ℕ, Bool, true, false, ◌&&◌, List, eqb}
use Rattle.words.specs.Choice.{pick}
use Rattle.steps.specs.Refusals.{carried_out}
use Rattle.trace.specs.Trace.{Trace}
use Rattle.kinds.specs.Kinds.{aic_kind}
use Rattle.aic_record.specs.declared.Aic.{Aic}
use Rattle.aic_waits.specs.Following.{no_figures}
use Rattle.beginning.specs.Begin.{begin_of}
use Rattle.stack.specs.declared.Table.{Table}
use Rattle.tally.specs.declared.Tallied.{Tallied}
use Rattle.tally.specs.Promises.{aic_of, played_of}
use Rattle.tally.specs.Tally.{steps_in, tally_of}
use Rattle.totals.specs.declared.waits.Waits.{Waits}
use Rattle.totals.specs.Waits.{no_waits}
use Rattle.aic_figures.specs.Waits.{waits_of}
use Rattle.totals.specs.declared.sheets.Noted.{Noted}
use Rattle.sheet_traces.specs.declared.Played.{Played}
use Rattle.sheet_traces.specs.declared.Watched.{Watched}
use Rattle.sheet_traces.specs.Watched.{watched_in}
use Rattle.sheet_traces.specs.Following.{tallied_from}

-- the tally of the step records of an AIC, what is seen over them, and the waits of its sources
unfoldable pub played_in : Table → Aic → Trace → Played
played_in t a q =
    record { tallied = tallied_from 0 0 no_figures a q; watched = watched_in t a (steps_in q.steps); waits = waits_of a (steps_in q.steps) }

-- all of it, of a trace that starts an AIC or not
abbrev pub noted : Tallied → Bool → Watched → Waits → Noted
noted f aic w waits =
    record {
      steps = f.steps;
      refused = f.refused;
      marks = w.marks;
      idle = w.idle;
      left = w.left;
      refusal = f.refusal;
      offset = f.offset;
      aic = aic;
      used = w.used;
      strays = w.strays;
      astray = w.astray;
      figures = f.figures;
      waits = waits;
    }

-- nothing is seen, and no table is to be kept
abbrev pub unseen : Watched
unseen = record { marks = 0; idle = 0; left = 0; used = 0; strays = 32; astray = 0 }

-- the trace starts an AIC: its beginning is accepted, and of that kind (01, House trace)
unfoldable pub starts_aic : List ℕ → Bool
starts_aic s = eqb (begin_of s).refusal carried_out && eqb (begin_of s).machine.kind aic_kind

-- what the sheet takes from a trace of which at most so many steps are played: of other kinds, and of none, the report's figures only
unfoldable pub note_of : List ℕ → ℕ → Table → Noted
note_of s limit t =
    pick (starts_aic s)
    (noted (tally_of s limit) true (watched_in t (aic_of s) (played_of s limit)) (waits_of (aic_of s) (played_of s limit)))
    (noted (tally_of s limit) false unseen no_waits)
