-- What the sheet sees of an AIC over a run: marks, idle ends, entries left open, sources that were enabled, and the first record that does not keep the table.
use Rattle.std.specs.Prelude.{ℕ, ◌+◌, Bool, false, ◌&&◌, List, [], ◌∷◌, eqb, ltb}
use Rattle.words.specs.Choice.{pick}
use Rattle.words.specs.Word.{either}
use Rattle.steps.specs.declared.Step.{Step}
use Rattle.steps.specs.declared.Step.TheVariants.{Read, Write, Line}
use Rattle.aic_record.specs.declared.Aic.{Aic}
use Rattle.aic_record.specs.Sound.{source_at}
use Rattle.aic_registers.specs.Map.{eoicr}
use Rattle.aic.specs.Model.{step}
use Rattle.aic_runs.specs.Counted.{carried}
use Rattle.aic_runs.specs.Runs.{run, count}
use Rattle.stack.specs.declared.Table.{Table}
use Rattle.stack.specs.Kept.{keeps, unkept}
use Rattle.sheet_traces.specs.declared.Watched.{Watched}

-- the step opens an entry, and it is a mark: one of source 0 (02, 3/12; 003, 27.7.5)
unfoldable pub opens_mark : Aic → Step → Bool
opens_mark s x = ltb s.depth (step s x).aic.depth && eqb (source_at (step s x).aic s.depth) 0

-- an end of interrupt that finds no entry open: a write of EOICR that is carried out, of any value (01, AIC, Normal side; 003, 27.8.15)
unfoldable pub idle_end : Aic → Step → Bool
idle_end s (Read o) = false
idle_end s (Write o v) = carried s (Write o v) && eqb o eoicr && eqb s.depth 0
idle_end s (Line k l) = false

-- the sources that are enabled in some record of a run, the first and the last among them
unfoldable pub used_in : Aic → List Step → ℕ
used_in s [] = s.enabled
used_in s (x ∷ xs) = either s.enabled (used_in (step s x).aic xs)

-- the lowest source that does not keep the table in the first record that does not, 32 where every record does
unfoldable pub strays_in : Table → Aic → List Step → ℕ
strays_in t s [] = unkept t s
strays_in t s (x ∷ xs) = pick (keeps t s) (strays_in t (step s x).aic xs) (unkept t s)

-- the step after which that is, n steps having gone before: 0 for the start, and where every record does
unfoldable pub astray_from : Table → ℕ → Aic → List Step → ℕ
astray_from t n s [] = pick (keeps t s) 0 n
astray_from t n s (x ∷ xs) = pick (keeps t s) (astray_from t (n + 1) (step s x).aic xs) n

-- all of it: marks, ends, entries, sources, a source, a step
unfoldable pub watched_in : Table → Aic → List Step → Watched
watched_in t s xs =
    record {
      marks = count opens_mark s xs;
      idle = count idle_end s xs;
      left = (run s xs).depth;
      used = used_in s xs;
      strays = strays_in t s xs;
      astray = astray_from t 0 s xs;
    }
