-- What is promised of the levels: what they are, that the source found by them is the one to start, and that a record with its levels answers
-- every step as the record alone does.
use Rattle.std.specs.Prelude.{ℕ, ◌%◌, ◌^◌, ◌<◌, ◌≡◌, true, false, List, [], ◌∷◌, map, ◌↔◌, ◌≢◌, ◌⊎◌, length, get_or}
use Rattle.words.specs.Word.{bit}
use Rattle.steps.specs.declared.Step.{Step}
use Rattle.aic_record.specs.declared.Aic.{Aic}
use Rattle.aic_record.specs.Sound.{sound}
use Rattle.aic_record.specs.Promises.{Shaped, Fresh}
use Rattle.aic_sources.specs.Pending.{pending}
use Rattle.aic_sources.specs.Normal.{chosen}
use Rattle.aic_registers.specs.declared.Answer as alone
use Rattle.aic.specs.declared.Signals.{Signals}
use Rattle.aic.specs.Model as aic
use Rattle.aic_levels.specs.declared.Levels.{Levels}
use Rattle.aic_levels.specs.declared.Begun.{Begun}
use Rattle.aic_levels.specs.Levels.{level_word, any_of, levels_of, agrees, highest_of, chosen_by}
use Rattle.aic_levels.specs.Model.{start, step_with, outputs_with}
use Rattle.aic_levels.specs.Runs.{run_of, run_with, besides}

-- source k is pending, enabled and not fast: neither source 0 nor forced
abbrev pub Waits : Aic → ℕ → Type 0
Waits s k = (pending s k ≡ true) × (bit s.enabled k ≡ true) × (k ≢ 0) × (bit s.forced k ≡ false)

-- bits 2:0 of the mode of source k are p
abbrev pub HasPriority : Aic → ℕ → ℕ → Type 0
HasPriority s k p = get_or s.mode k 0 % 8 ≡ p

-- the levels l are those of the record s: each word and the byte
abbrev pub Own : Aic → Levels → Type 0
Own s l = ((p : ℕ) → p < 8 → get_or l.words p 0 ≡ level_word s p) × (l.any ≡ any_of s)

-- what stands after reset: the record of reset, which is sound, and eight words and a byte that are 0
pub record Beginning (external lines : ℕ) (b : Begun) : Type 0 where
  pub taken : b.refusal ≡ 0
  pub fresh : Fresh external lines b.aic
  pub whole : (sound b.aic ≡ true) × Shaped b.aic
  pub words : (length b.levels.words ≡ 8) × ((p : ℕ) → get_or b.levels.words p 0 ≡ 0)
  pub byte : b.levels.any ≡ 0
  pub agreeing : agrees b.aic b.levels ≡ true

pub record Promises : Type 0 where
  -- the table: of a byte b the highest level is 255 exactly if b is 0; else it is a bit of b, one of the eight, and no higher bit is set (02, 5/12);
  -- that the 256 entries of the code are `highest_of` stands in the contract of `highest`
  pub table_none : (b : ℕ) → b < 256 → (highest_of b ≡ 255) ↔ (b ≡ 0)
  pub table_bit : (b : ℕ) → b < 256 → b ≢ 0 → (highest_of b < 8) × (bit b (highest_of b) ≡ true)
  pub table_highest : (b p : ℕ) → b < 256 → b ≢ 0 → highest_of b < p → bit b p ≡ false
  -- the levels of a record are eight words, word p that of level p, and the byte (02, 5/12)
  pub levels_are : (s : Aic) → (length (levels_of s).words ≡ 8) × Own s (levels_of s)
  -- bit k of word p is set exactly if source k is pending, enabled, not fast and of priority p (02, 5/12; 003, 27.7.3.1); it has no bit past 31
  pub word_is : (s : Aic) (p k : ℕ) → k < 32 → (bit (level_word s p) k ≡ true) ↔ (Waits s k × HasPriority s k p)
  pub word_below : (s : Aic) (p : ℕ) → level_word s p < 2 ^ 32
  -- bit p of the byte is set exactly if there is such a source, so if word p is not 0; it has no bit past 7 (02, 5/12)
  pub byte_is : (s : Aic) (p : ℕ) → p < 8 → (bit (any_of s) p ≡ true) ↔ ((k : ℕ) × (k < 32) × (Waits s k × HasPriority s k p))
  pub byte_word : (s : Aic) (p : ℕ) → p < 8 → (bit (any_of s) p ≡ true) ↔ (level_word s p ≢ 0)
  pub byte_below : (s : Aic) → any_of s < 256
  -- levels agree with a record exactly if each of the eight words and the byte is what the record says; of eight words exactly one such levels
  -- there are (02, 5/12)
  pub agrees_is : (s : Aic) (l : Levels) → (agrees s l ≡ true) ↔ Own s l
  pub agrees_one : (s : Aic) (l : Levels) → length l.words ≡ 8 → (agrees s l ≡ true) ↔ (l ≡ levels_of s)
  -- the source found by levels that agree is the candidate that is ahead of all others, 32 where there is none (02, 5/12; 003, 27.7.3.1)
  pub chosen_same : (s : Aic) (l : Levels) → agrees s l ≡ true → chosen_by s l ≡ chosen s
  -- a start is that of the record, with words and a byte that are 0 for every configuration, and they agree (02, 5/12; 01, AIC, Configuration)
  pub start_is : (external lines : ℕ) → Beginning external lines (start external lines)
  -- of a sound record and levels that agree every step answers the refusal, the value and the next record of the record alone, and the levels
  -- after it are those of the next record (02, 5/12); `step_with` is defined by the step of the record alone: that the code by level answers the
  -- same stands in the contracts of `aic_pair::step` and of `aic_room`
  pub step_same : (s : Aic) (l : Levels) (x : Step) → sound s ≡ true → agrees s l ≡ true
      → step_with s l x ≡ record { refusal = (aic.step s x).refusal; value = (aic.step s x).value; aic = (aic.step s x).aic; levels = levels_of (aic.step s x).aic }
  -- so they agree after it too, and the record is sound (02, 5/12)
  pub step_keeps : (s : Aic) (l : Levels) (x : Step) → Shaped s → sound s ≡ true → agrees s l ≡ true
      → (sound (step_with s l x).aic ≡ true) × (agrees (step_with s l x).aic (step_with s l x).levels ≡ true) × Shaped (step_with s l x).aic
  -- and the outputs are those of the record alone (02, 5/12)
  pub outputs_same : (s : Aic) (l : Levels) → sound s ≡ true → agrees s l ≡ true → outputs_with s l ≡ aic.outputs s
  -- a step is refused by 12 exactly if the record is not sound or the levels do not agree; record and levels are then as they were, and the value
  -- is 0 (02, 5/12; 01, Numbers)
  pub twelve : (s : Aic) (l : Levels) (x : Step) → ((step_with s l x).refusal ≡ 12) ↔ ((sound s ≡ false) ⊎ (agrees s l ≡ false))
  pub unchanged : (s : Aic) (l : Levels) (x : Step) → (sound s ≡ false) ⊎ (agrees s l ≡ false) → step_with s l x ≡ record { refusal = 12; value = 0; aic = s; levels = l }
  -- so are the outputs, which are inactive then
  pub outputs_twelve : (s : Aic) (l : Levels) → ((outputs_with s l).refusal ≡ 12) ↔ ((sound s ≡ false) ⊎ (agrees s l ≡ false))
  pub outputs_none : (s : Aic) (l : Levels) → (sound s ≡ false) ⊎ (agrees s l ≡ false) → outputs_with s l ≡ record { refusal = 12; irq = false; fiq = false; entries = 0 }
  -- along every run, refused steps among them, a record with its levels answers what the record alone does, with the same outputs after each step,
  -- and the levels after each step are those of the record after it (02, 5/12)
  pub runs : (s : Aic) (l : Levels) (xs : List Step) → Shaped s → sound s ≡ true → agrees s l ≡ true → run_with s l xs ≡ map besides (run_of s xs)
  -- so from every start
  pub runs_from_start : (external lines : ℕ) (xs : List Step)
      → run_with (start external lines).aic (start external lines).levels xs ≡ map besides (run_of (aic.start external lines).aic xs)
  -- a run shows for each step its answer and the outputs after it, then goes on from what the step left
  pub run_is : (s : Aic) (x : Step) (xs : List Step) → run_of s (x ∷ xs) ≡ (aic.step s x, aic.outputs (aic.step s x).aic) ∷ run_of (aic.step s x).aic xs
  pub run_with_is : (s : Aic) (l : Levels) (x : Step) (xs : List Step) → run_with s l (x ∷ xs)
      ≡ (step_with s l x, outputs_with (step_with s l x).aic (step_with s l x).levels) ∷ run_with (step_with s l x).aic (step_with s l x).levels xs
  pub run_ends : (s : Aic) (l : Levels) → (run_of s [] ≡ []) × (run_with s l [] ≡ [])
  pub besides_is : (a : alone.Answer) (o : Signals)
      → besides (a, o) ≡ (record { refusal = a.refusal; value = a.value; aic = a.aic; levels = levels_of a.aic }, o)
