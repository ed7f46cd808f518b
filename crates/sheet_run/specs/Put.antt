-- The sheet after names, put to it one after the other as the sheet's program does.
use Rattle.std.specs.Prelude.{ℕ, ◌≡◌, List, [], ◌∷◌, Result, Ok, Err}
use Rattle.stack.specs.declared.Table.{Table}
use Rattle.totals.specs.declared.sheets.Sheet.{Sheet}
use Rattle.totals.specs.Sheet.{added, left_unopened}
use Rattle.sheet_traces.specs.Noted.{note_of}
use Rattle.sheet_run.specs.declared.progress.Stopped.{Stopped}

-- what comes of a name: its file cannot be opened or read, or it holds these bytes
pub data Named : Type 0 where
  shut : Named
  holds : List ℕ → Named

-- the sheet with one name more: of a trace at most 20,000 steps are played, as of a listing
unfoldable pub put_one : Table → Sheet → Named → Sheet
put_one t s shut = left_unopened s
put_one t s (holds bytes) = (added s (note_of bytes 20000 t)).sheet

-- with names, the first one first
unfoldable pub put_all : Table → Sheet → List Named → Sheet
put_all t s [] = s
put_all t s (x ∷ xs) = put_all t (put_one t s x) xs

-- u is s with some names put to it: what comes of them no contract can say, since none says what is read of files
pub record Put (t : Table) (s u : Sheet) : Type 0 where
  pub names : List Named
  pub are : u ≡ put_all t s names

-- the sheet that is answered: of a page that stays unfinished the one up to there
abbrev pub sheet_of : Result Sheet Stopped → Sheet
sheet_of (Ok s) = s
sheet_of (Err e) = e.sheet
