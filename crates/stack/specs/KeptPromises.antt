-- What is promised of a table that is kept: what that says, field by field, and what it means for the open frames of any run from reset.
use Rattle.std.specs.Prelude.{ℕ, ◌/◌, ◌%◌, ◌≤◌, ◌<◌, ◌≡◌, true, false, List, [], ◌∷◌, ◌++◌, ◌↔◌, ◌≢◌, get_or}
use Rattle.words.specs.Word.{bit}
use Rattle.steps.specs.declared.Step.{Step}
use Rattle.steps.specs.declared.Step.TheVariants.{Write}
use Rattle.aic_record.specs.declared.Aic.{Aic}
use Rattle.aic_record.specs.Record.{reset}
use Rattle.aic_record.specs.Promises.{Shaped}
use Rattle.aic_runs.specs.Counted.{steady}
use Rattle.aic_runs.specs.Runs.{run, always}
use Rattle.stack.specs.declared.Table.{Table}
use Rattle.stack.specs.Bytes.{stack_bytes, open_bytes, Set}
use Rattle.stack.specs.Promises.{NormalOf}
use Rattle.stack.specs.Kept.{keeps, unkept, keeps_along}
use Rattle.stack.specs.KeptWorked.{pair, shifted, stacked, raised}

-- source i of the record has the table's priority, bits 2:0 of its mode, its type, bits 6:5, and, but for source 0, its forcing (02, 4/12; 003, 27.8.3)
pub record Matches (t : Table) (s : Aic) (i : ℕ) : Type 0 where
  pub level : get_or s.mode i 0 % 8 ≡ get_or t.priority i 0
  pub type : get_or s.mode i 0 / 32 % 4 ≡ get_or t.kind i 0
  pub forcing : i ≢ 0 → bit s.forced i ≡ bit t.forced i

-- every open handler stands at the level of the table and is a normal source of it, and so is what is remembered, if that is a source (02, 9/12)
pub record Stands (t : Table) (s : Aic) : Type 0 where
  pub handlers : (d : ℕ) → d < s.depth → get_or s.source d 0 ≢ 0 → NormalOf t (get_or s.level d 0) (get_or s.source d 0)
  pub remembered : s.seen.what ≡ 1 → NormalOf t s.seen.level s.seen.source

-- no entry is open, and nothing is remembered
abbrev pub Bare : Aic → Type 0
Bare s = (s.depth ≡ 0) × (s.seen.what ≡ 0)

pub record Promises : Type 0 where
  -- ---- what it says

  -- a record keeps a table exactly if every source that is enabled matches it
  pub keeps_is : (t : Table) (s : Aic) → (keeps t s ≡ true) ↔ ((i : ℕ) → i < 32 → bit s.enabled i ≡ true → Matches t s i)
  -- where it does not, the source told is enabled and does not match, and every lower one that is enabled does
  pub unkept_is : (t : Table) (s : Aic) → keeps t s ≡ false
      → (unkept t s < 32) × (bit s.enabled (unkept t s) ≡ true) × (Matches t s (unkept t s) → ⊥)
      × ((i : ℕ) → i < unkept t s → bit s.enabled i ≡ true → Matches t s i)
  -- where it does, 32 is told
  pub unkept_none : (t : Table) (s : Aic) → (keeps t s ≡ true) ↔ (unkept t s ≡ 32)
  -- a run keeps it exactly if every record does that it meets, the first and the last among them
  pub along_is : (t : Table) (s : Aic) (xs : List Step)
      → (keeps_along t s xs ≡ true) ↔ ((ys zs : List Step) → xs ≡ ys ++ zs → keeps t (run s ys) ≡ true)
  -- after reset every table is kept, for no source is enabled
  pub reset_keeps : (t : Table) (external lines : ℕ) → keeps t (reset external lines) ≡ true
  -- a record that is set to a table keeps it, and so does a run from there that rewrites no mode and no forcing (02, 4/12)
  pub set_keeps : (t : Table) (s : Aic) (xs : List Step) → Set t s → always steady s xs ≡ true → keeps_along t s xs ≡ true
  -- ---- what it gives

  -- along a run that keeps a table, from a record with no entry open and nothing remembered, sound or not, in protect mode or not, every open handler
  -- stands at the table's level and is a normal source of the table, whatever is written of sources that are off
  pub levels_kept : (t : Table) (s : Aic) (xs : List Step) → Shaped s → Bare s → keeps_along t s xs ≡ true → Stands t (run s xs)
  -- so the open frames never add up to more than the figure
  pub never_more_kept : (t : Table) (s : Aic) (xs : List Step) → Shaped s → Bare s → keeps_along t s xs ≡ true → open_bytes t (run s xs) ≤ stack_bytes t
  -- nor with one step more, whose record need not keep it: what a step opens was selected before it
  pub never_more_next : (t : Table) (s : Aic) (xs : List Step) (x : Step) → Shaped s → Bare s → keeps_along t s xs ≡ true
      → open_bytes t (run s (xs ++ (x ∷ []))) ≤ stack_bytes t
  -- from reset on, at every moment of a run that keeps it
  pub never_more_reset : (t : Table) (external lines : ℕ) (xs ys : List Step) → keeps_along t (reset external lines) (xs ++ ys) ≡ true
      → open_bytes t (run (reset external lines) xs) ≤ stack_bytes t
  -- the bound of a run that writes no mode and no forcing is a case of it (02, 4/12)
  pub never_more_set : (t : Table) (s : Aic) (xs : List Step) → Shaped s → Set t s → always steady s xs ≡ true → open_bytes t (run s xs) ≤ stack_bytes t
  -- ---- worked out

  -- a run from reset that writes modes and forcings at its start-up, and once more of a source that is off while its handler is open, keeps its table and
  -- meets the figure
  pub shifted_keeps : (keeps_along pair (reset 0 0) shifted ≡ true) × (always steady (reset 0 0) shifted ≡ false)
      × (open_bytes pair (run (reset 0 0) shifted) ≡ 300) × (stack_bytes pair ≡ 300)
  -- every record counts: of a run that keeps its table up to one write and from another, by which the first is undone, the open frames pass the figure
  pub raised_passes : (keeps_along pair (reset 0 0) stacked ≡ true) × (keeps pair (run (reset 0 0) raised) ≡ true)
      × (keeps_along pair (reset 0 0) raised ≡ false) × (open_bytes pair (run (reset 0 0) raised) ≡ 400)
  -- and after that write source 1 is told
  pub raised_told : unkept pair (run (reset 0 0) (stacked ++ (Write 0x04 0x67 ∷ []))) ≡ 1
