-- What is promised of a picture: what its columns show, when there is one and what is written where there is none, its bars, and how long it is at most.
use Rattle.std.specs.Prelude.{ℕ, suc, ◌-◌, ◌<◌, ◌≤◌, min, ◌+◌, ◌≡◌, List, ◌∷◌, ◌++◌, [], length, drop, true, ◌↔◌, ◌≢◌, ltb}
use Rattle.words.specs.Counting.{one}
use Rattle.steps.specs.declared.Recorded.{Recorded}
use Rattle.aic_record.specs.declared.Aic.{Aic}
use Rattle.aic_record.specs.Last.{last_source, last_level}
use Rattle.aic.specs.Model.{outputs}
use Rattle.machine.specs.declared.record.Machine.{Machine}
use Rattle.machine.specs.RecordPromises.{Ready}
use Rattle.machine.specs.Steps.{step}
use Rattle.beginning.specs.Play.{run_of, records_of, play_of}
use Rattle.drawing.specs.Bars.{Column, column_at, entries_at, Bar, packed, bars}
use Rattle.picture.specs.Window.{before, columns_of, within}
use Rattle.text.specs.Text.{decimal, field, laid}
use Rattle.text.specs.Phrases.{bytes}
use Rattle.beginning.specs.Begin.{begin_of}
use Rattle.drawing.specs.Drawing.{drawing}
use Rattle.drawing.specs.Promises.{Below}
use Rattle.picture.specs.Picture.{is_drawn, picture_of}

-- a column shows a record: its outputs, how many entries are open and the last of them; and the number by which the step is refused that led to it, 0 for none
pub record Shows (c : Column) (s : Aic) (n : ℕ) : Type 0 where
  pub irq : c.irq ≡ one (outputs s).irq
  pub fiq : c.fiq ≡ one (outputs s).fiq
  pub entries : c.entries ≡ s.depth
  pub source : c.source ≡ last_source s
  pub level : c.level ≡ last_level s
  pub refusal : c.refusal ≡ n

-- a window has 1 to 500 steps, and begins with one of those played, which are numbered from 1
pub record Inside (played first steps : ℕ) : Type 0 where
  pub begins : 1 ≤ first
  pub reached : first ≤ played
  pub some : 1 ≤ steps
  pub most : steps ≤ 500

-- the columns of a window of a trace
abbrev pub columns_in : List ℕ → ℕ → ℕ → List ℕ
columns_in s first steps = columns_of first steps (begin_of s).machine (records_of s 20000).steps

-- the AIC before it
abbrev pub aic_before : List ℕ → ℕ → Aic
aic_before s first = (before first (begin_of s).machine (records_of s 20000).steps).aic

-- its bars
abbrev pub bars_in : List ℕ → ℕ → ℕ → List Bar
bars_in s first steps = bars (columns_in s first steps) (aic_before s first).source (aic_before s first).level

-- how many of some steps open an entry
unfoldable pub opened_in : Machine → List Recorded → ℕ
opened_in m [] = 0
opened_in m (x ∷ xs) = one (ltb m.aic.depth (step m x).machine.aic.depth) + opened_in (step m x).machine xs

-- a trace of an AIC: source 5 is set up and enabled, its line rises, IVR is read, a read is refused by 1, the interrupt is ended
abbrev pub seven_steps : List ℕ
seven_steps =
    0 ∷ 0 ∷ 0 ∷ 2 ∷ 20 ∷ 35 ∷ 2 ∷ 148 ∷ 1 ∷ 160 ∷ 1 ∷ 2 ∷ 160 ∷ 2 ∷ 32 ∷ 3 ∷ 5 ∷ 1 ∷ 1 ∷ 128 ∷ 2 ∷ 1 ∷ 2 ∷ 2 ∷ 176 ∷ 2 ∷ 0 ∷ []

-- its last four steps, the line's first, and what held before them
abbrev pub last_four : List ℕ
last_four =
    packed (record { irq = 0; fiq = 0; entries = 0; source = 0; level = 255; refusal = 0 })
    ∷ packed (record { irq = 1; fiq = 0; entries = 0; source = 0; level = 255; refusal = 0 })
    ∷ packed (record { irq = 0; fiq = 0; entries = 1; source = 5; level = 3; refusal = 0 })
    ∷ packed (record { irq = 0; fiq = 0; entries = 1; source = 5; level = 3; refusal = 1 })
    ∷ packed (record { irq = 0; fiq = 0; entries = 0; source = 0; level = 255; refusal = 0 })
    ∷ []

pub record Promises : Type 0 where
  -- ---- the columns of a window

  -- a column for each step of the window, which is as long as asked for or as there are steps, and column 0
  pub columns_many : (first steps : ℕ) (m : Machine) (xs : List Recorded) → length (columns_of first steps m xs) ≡ suc (min steps (length xs - (first - 1)))
  -- the machine before the window is that after the steps b which come before it: of its AIC are the entries that are open there
  pub machine_before : (m : Machine) (b xs : List Recorded) → before (suc (length b)) m (b ++ xs) ≡ run_of m b
  -- column 0 shows what held before the window, after the steps b
  pub before_all : (steps : ℕ) (m : Machine) (b xs : List Recorded) → Ready m → m.kind ≡ 0 → Shows (column_at (columns_of (suc (length b)) steps m (b ++ xs)) 0) (run_of m b).aic 0
  -- the column of a step x of the window, refused or not, shows what holds after it; the steps b come before the window, and a in it before x
  pub after_each : (steps : ℕ) (m : Machine) (b a : List Recorded) (x : Recorded) (xs : List Recorded) → Ready m → m.kind ≡ 0 → length a < steps
      → Shows (column_at (columns_of (suc (length b)) steps m (b ++ (a ++ (x ∷ xs)))) (suc (length a)))
      (step (run_of m (b ++ a)) x).machine.aic
      (step (run_of m (b ++ a)) x).refusal
  -- never more than eight entries are open in any (demand 3)
  pub eight : (first steps : ℕ) (m : Machine) (xs : List Recorded) (k : ℕ) → Ready m → m.kind ≡ 0 → entries_at (columns_of first steps m xs) k ≤ 8
  -- ---- when there is a picture

  -- exactly if the trace begins, is of an AIC, and the window has 1 to 500 steps and begins with one of the steps played, of which there are at most 20,000
  pub drawn_if : (s : List ℕ) (first steps : ℕ)
      → (is_drawn s first steps ≡ true) ↔ (((begin_of s).refusal ≡ 0) × ((begin_of s).machine.kind ≡ 0) × Inside (play_of s 20000).steps first steps)
  -- then it is the drawing of the window's columns
  pub drawn : (s : List ℕ) (first steps : ℕ) → is_drawn s first steps ≡ true
      → picture_of s first steps ≡ drawing first (columns_in s first steps) (aic_before s first).source (aic_before s first).level
  -- else a line says why there is none
  pub not_begun : (s : List ℕ) (first steps : ℕ) → (begin_of s).refusal ≢ 0
      → picture_of s first steps ≡ bytes "no picture: the trace has no beginning, E" ++ field (begin_of s).refusal ++ field (begin_of s).place ++ bytes "\n"
  pub not_aic : (s : List ℕ) (first steps : ℕ) → (begin_of s).refusal ≡ 0 → (begin_of s).machine.kind ≢ 0
      → picture_of s first steps ≡ bytes "no picture: the trace is not of an AIC, and no other controller has entries\n"
  pub not_inside : (s : List ℕ) (first steps : ℕ) → (begin_of s).refusal ≡ 0 → (begin_of s).machine.kind ≡ 0 → (Inside (play_of s 20000).steps first steps → ⊥)
      → picture_of s first steps
      ≡ bytes "no picture: a window has 1 to 500 steps and begins with a step that is played, steps played " ++ decimal (play_of s 20000).steps ++ bytes "\n"
  -- ---- what it shows

  -- a column for each step of the window, up to the last one played, and one for what held before
  pub many : (s : List ℕ) (first steps : ℕ) → length (columns_in s first steps) ≡ suc (min steps ((play_of s 20000).steps - (first - 1)))
  -- as many bars as entries that are open before the window and still after its first step, and entries that its steps open
  pub as_many : (s : List ℕ) (first steps : ℕ) → is_drawn s first steps ≡ true
      → length (bars_in s first steps)
      ≡ min (aic_before s first).depth (aic_before s (suc first)).depth
      + opened_in (before first (begin_of s).machine (records_of s 20000).steps) (within first steps (records_of s 20000).steps)
  -- no bar is beyond the eighth row (demand 3)
  pub eighth : (s : List ℕ) (first steps : ℕ) → is_drawn s first steps ≡ true → Below 8 (bars_in s first steps)
  -- ---- how long it is

  -- every picture, and every line, has at most so many bytes
  pub most : (s : List ℕ) (first steps : ℕ) → length (picture_of s first steps) ≤ 219082
  -- so a buffer of that many takes it whole
  pub takes : (l s : List ℕ) (first steps : ℕ) → 219082 ≤ length l
      → laid l (picture_of s first steps) ≡ (picture_of s first steps ++ drop (length (picture_of s first steps)) l, length (picture_of s first steps))
  -- ---- a window of the trace of seven steps

  pub worked : is_drawn seven_steps 4 4 ≡ true
  pub worked_columns : columns_in seven_steps 4 4 ≡ last_four
