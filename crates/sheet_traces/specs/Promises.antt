-- What is promised of what the sheet takes from a trace.
use Rattle.std.specs.Prelude.{ℕ, ◌≤◌, ◌<◌, ◌≡◌, true, false, List, ◌++◌, ◌↔◌, ◌≢◌, get_or}
use Rattle.words.specs.Word.{bit}
use Rattle.steps.specs.declared.Step.{Step}
use Rattle.steps.specs.declared.Step.TheVariants.{Write}
use Rattle.aic_record.specs.declared.Aic.{Aic}
use Rattle.aic.specs.Model.{step}
use Rattle.aic_runs.specs.Runs.{run, count}
use Rattle.beginning.specs.Begin.{begin_of}
use Rattle.stack.specs.declared.Table.{Table}
use Rattle.stack.specs.Bytes.{stack_bytes, open_bytes}
use Rattle.stack.specs.Kept.{keeps_along}
use Rattle.tally.specs.Promises.{aic_of, played_of}
use Rattle.tally.specs.Tally.{tally_of}
use Rattle.totals.specs.Promises.{Whole}
use Rattle.totals.specs.Waits.{no_waits, bound_of}
use Rattle.aic_figures.specs.Promises.{Source}
use Rattle.totals.specs.declared.sheets.Noted.{Noted}
use Rattle.sheet_traces.specs.Watched.{opens_mark, idle_end, used_in, strays_in, astray_from}
use Rattle.sheet_traces.specs.Left.{Left}
use Rattle.sheet_traces.specs.Noted.{note_of}

-- the steps played, the steps refused, the ending and the figures of each source are the report's (02, 11/12)
pub record Reported (s : List ℕ) (limit : ℕ) (n : Noted) : Type 0 where
  pub steps : n.steps ≡ (tally_of s limit).steps
  pub refused : n.refused ≡ (tally_of s limit).refused
  pub refusal : n.refusal ≡ (tally_of s limit).refusal
  pub offset : n.offset ≡ (tally_of s limit).offset
  pub figures : n.figures ≡ (tally_of s limit).figures

-- of an AIC what is seen over the steps xs from the record a, for the table t
pub record Seen (t : Table) (a : Aic) (xs : List Step) (n : Noted) : Type 0 where
  pub marks : n.marks ≡ count opens_mark a xs
  pub ends : n.idle ≡ count idle_end a xs
  pub entries : n.left ≡ (run a xs).depth
  pub used : n.used ≡ used_in a xs
  pub strays : n.strays ≡ strays_in t a xs
  pub astray : n.astray ≡ astray_from t 0 a xs
  pub waits : (k : ℕ) → k < 32 → Source n.waits k a xs

-- nothing is seen
pub record Unseen (n : Noted) : Type 0 where
  pub marks : n.marks ≡ 0
  pub ends : n.idle ≡ 0
  pub entries : n.left ≡ 0
  pub used : n.used ≡ 0
  pub strays : n.strays ≡ 32
  pub astray : n.astray ≡ 0
  pub waits : n.waits ≡ no_waits

pub record Promises : Type 0 where
  -- ---- what is taken

  pub reported : (s : List ℕ) (limit : ℕ) (t : Table) → Reported s limit (note_of s limit t)
  -- a trace is of an AIC exactly if its beginning is accepted and of kind 0 (01, House trace)
  pub of_aic : (s : List ℕ) (limit : ℕ) (t : Table) → ((note_of s limit t).aic ≡ true) ↔ (((begin_of s).refusal ≡ 0) × ((begin_of s).machine.kind ≡ 0))
  pub seen : (s : List ℕ) (limit : ℕ) (t : Table) → (note_of s limit t).aic ≡ true → Seen t (aic_of s) (played_of s limit) (note_of s limit t)
  pub unseen : (s : List ℕ) (limit : ℕ) (t : Table) → (note_of s limit t).aic ≡ false → Unseen (note_of s limit t)
  -- there are 32 figures of each kind
  pub sources : (s : List ℕ) (limit : ℕ) (t : Table) → Whole (note_of s limit t).figures
  -- ---- what each is

  -- a mark is opened exactly if one entry more is open after the step, and it is of source 0 (02, 3/12)
  pub mark_is : (s : Aic) (x : Step) → (opens_mark s x ≡ true) ↔ ((s.depth < (step s x).aic.depth) × (get_or (step s x).aic.source s.depth 0 ≡ 0))
  -- an end is idle exactly if it is a write of EOICR, is carried out, and finds no entry open (003, 27.8.15)
  pub idle_is : (s : Aic) (x : Step) → (idle_end s x ≡ true) ↔ ((v : ℕ) × (x ≡ Write 0x130 v) × ((step s x).refusal ≡ 0) × (s.depth ≡ 0))
  -- a source is used exactly if it is enabled in some record of the run
  pub used_is : (s : Aic) (xs : List Step) (i : ℕ) → i < 32
      → (bit (used_in s xs) i ≡ true) ↔ ((ys : List Step) × (zs : List Step) × (xs ≡ ys ++ zs) × (bit (run s ys).enabled i ≡ true))
  -- 32 is told exactly if the run keeps the table; else the first record that does not, and the lowest source of it that does not (02, 4/12)
  pub strays_none : (t : Table) (s : Aic) (xs : List Step) → (strays_in t s xs ≡ 32) ↔ (keeps_along t s xs ≡ true)
  pub strays_some : (t : Table) (s : Aic) (xs : List Step) → strays_in t s xs ≢ 32 → (strays_in t s xs < 32) × Left t s xs (strays_in t s xs) 0 (astray_from t 0 s xs)
  -- ---- what it gives

  -- of every trace that is not left out by 18: at every moment of it the open frames are at most the stack's bytes (02, 4/12)
  pub stack_holds : (s : List ℕ) (limit : ℕ) (t : Table) → (note_of s limit t).aic ≡ true → 32 ≤ (note_of s limit t).strays
      → (ys zs : List Step) → played_of s limit ≡ ys ++ zs → open_bytes t (run (aic_of s) ys) ≤ stack_bytes t
  -- where all waits of a source have a bound, the most handlers that were started in one are at most the largest bound (02, 11/12 and 12/12)
  pub seen_bounded : (s : List ℕ) (limit : ℕ) (t : Table) (k : ℕ) → (note_of s limit t).aic ≡ true → k < 32 → get_or (note_of s limit t).waits.unbounded k 0 ≡ 0
      → get_or (note_of s limit t).figures.waited k 0 ≤ bound_of (note_of s limit t).waits k
