-- What each count says of a step, and the worked runs, down to offsets, bits and fields (02, 12/12).
use Rattle.std.specs.Prelude.{ℕ, ◌+◌, ◌-◌, ◌≤◌, ◌<◌, ◌≡◌, Bool, true, false, not, List, [], ◌∷◌, ◌↔◌, ◌≢◌, eqb, get_or}
use Rattle.words.specs.Counting.{one}
use Rattle.words.specs.Word.{bit}
use Rattle.steps.specs.declared.Step.{Step}
use Rattle.steps.specs.declared.Step.TheVariants.{Read, Write, Line}
use Rattle.aic_record.specs.declared.Aic.{Aic}
use Rattle.aic_record.specs.Record.{reset}
use Rattle.aic_record.specs.Mode.{priority, edge}
use Rattle.aic_sources.specs.Pending.{active}
use Rattle.aic_registers.specs.Effects.{turns}
use Rattle.aic.specs.Model.{step}
use Rattle.aic_runs.specs.Counted.{rises, edges, commands}
use Rattle.aic_runs.specs.Runs.{run, always}
use Rattle.aic_runs.specs.Turns.{closes_of, closes_hot, cool, Cool, gains, gained, held, due}
use Rattle.aic_runs.specs.TurnsWorked.{board, quieted, entered, rest, noisy, raised, twice}

-- what a step x counts as for source i in the record s that it meets; refused, it counts as nothing
pub record Counts (i : ℕ) (s : Aic) (x : Step) : Type 0 where
  -- a close of a handler of source i: a write of EOICR, of any value, that finds an entry open, whose last entry is of source i, and i is not 0
  pub close_of : (closes_of i s x ≡ true)
      ↔ ((v : ℕ) × (x ≡ Write 0x130 v) × ((step s x).refusal ≡ 0) × (s.depth ≢ 0) × (i ≢ 0) × (get_or s.source (s.depth - 1) 0 ≡ i))
  -- while source i is level-sensitive, and its line is active
  pub hot : (closes_hot i s x ≡ true) ↔ ((closes_of i s x ≡ true) × (edge s i ≡ false) × (active s i ≡ true))
  pub cool_is : (cool i s x ≡ true) ↔ (closes_hot i s x ≡ false)
  -- a turn of the line of source i to its active level, edge-triggered or not
  pub turn : (rises i s x ≡ true) ↔ ((l : ℕ) × (x ≡ Line i l) × ((step s x).refusal ≡ 0) × (turns s i (eqb l 1) ≡ true))
  -- what an edge-triggered source gains, and what a level-sensitive one
  pub gains_edge : edge s i ≡ true → gains i s x ≡ one (edges i s x) + one (commands i s x)
  pub gains_level : edge s i ≡ false → gains i s x ≡ one (rises i s x)

-- what source i is due in the record s
pub record Dues (i : ℕ) (s : Aic) : Type 0 where
  -- a handler of it is open at its priority or above
  pub held_is : (held s i ≡ true) ↔ ((d : ℕ) × (d < s.depth) × (i ≢ 0) × (get_or s.source d 0 ≡ i) × (priority s i ≤ get_or s.level d 0))
  -- an edge-triggered one is due one start while its memory is set, held or not
  pub due_edge : edge s i ≡ true → due s i ≡ one (bit s.memory i)
  -- a level-sensitive one is due one start while its line is active and it is not held
  pub due_one : edge s i ≡ false → (due s i ≡ 1) ↔ ((active s i ≡ true) × (held s i ≡ false))
  pub due_small : due s i ≤ 1

-- what is gathered over a run
pub record Gathers : Type 0 where
  pub gained_none : (i : ℕ) (s : Aic) → gained i s [] ≡ 0
  pub gained_more : (i : ℕ) (s : Aic) (x : Step) (xs : List Step) → gained i s (x ∷ xs) ≡ gains i s x + gained i (step s x).aic xs
  -- no step is a close of a handler of a level-sensitive source that passes the test, with its line active
  pub cool_of : (s : Aic) (t : ℕ → Bool) (xs : List Step)
      → Cool s t xs ↔ ((i : ℕ) → i < 32 → t i ≡ true → always (λ u x. not (closes_hot i u x)) s xs ≡ true)

-- the worked runs, step by step
pub record Steps : Type 0 where
  -- source 4 is made level-sensitive at priority 5, sources 6 and 9 edge-triggered at priorities 4 and 3; all are enabled; 4 and 9 turn active
  pub board_is : board ≡ run (reset 0 0) (Write 0x10 0x45 ∷ Write 0x18 0x64 ∷ Write 0x24 0x63 ∷ Write 0x120 0x250 ∷ Line 4 1 ∷ Line 9 1 ∷ [])
  pub quieted_is : quieted
      ≡ Read 0x100 ∷ Read 0x100 ∷ Write 0x130 0 ∷ Line 4 0 ∷ Line 6 1 ∷ Write 0x130 0 ∷ Read 0x100 ∷ Line 4 1 ∷ Line 4 1 ∷ Read 0x100 ∷ Line 4 0 ∷ Write 0x130 0
      ∷ Write 0x130 0 ∷ Write 0x12C 0x50 ∷ Read 0x100 ∷ Write 0x130 0 ∷ []
  pub entered_is : entered ≡ run board (Read 0x100 ∷ [])
  pub rest_is : quieted ≡ Read 0x100 ∷ rest
  pub noisy_is : noisy ≡ Read 0x100 ∷ Write 0x130 0 ∷ Read 0x100 ∷ []
  -- source 4 is made level-sensitive at priority 5, source 9 edge-triggered at priority 3; in protect mode 4 turns active and is looked at; its
  -- priority is made 6, and 9 has an edge
  pub raised_is : raised
      ≡ run (reset 0 0)
      (Write 0x10 0x45 ∷ Write 0x24 0x63 ∷ Write 0x120 0x210 ∷ Write 0x138 1 ∷ Line 4 1 ∷ Read 0x100 ∷ Write 0x10 0x46 ∷ Line 9 1 ∷ [])
  pub twice_is : twice ≡ Write 0x100 0 ∷ Read 0x100 ∷ Write 0x100 0 ∷ []
