-- What is promised of a stack size: what is refused, what is summed, what it means for the runs of the controller, and its line (02, 4/12).
use Rattle.std.specs.Prelude.{ℕ, ◌+◌, ◌/◌, ◌%◌, ◌^◌, ◌≤◌, ◌<◌, ◌≡◌, true, false, List, [], ◌∷◌, ◌++◌, ◌↔◌, ◌≢◌, ◌⊎◌, eqb, get_or, length}
use Rattle.words.specs.Choice.{pick}
use Rattle.words.specs.Counting.{sum_below}
use Rattle.words.specs.Word.{bit}
use Rattle.steps.specs.declared.Step.{Step}
use Rattle.text.specs.Text.{decimal}
use Rattle.aic_record.specs.declared.Aic.{Aic}
use Rattle.aic_record.specs.Record.{reset}
use Rattle.aic_record.specs.Promises.{Shaped}
use Rattle.aic_runs.specs.Counted.{steady}
use Rattle.aic_runs.specs.Runs.{run, always}
use Rattle.stack.specs.declared.Table.{Table}
use Rattle.stack.specs.declared.Needed.{Needed}
use Rattle.stack.specs.Bytes.{level_bytes, stack_bytes, needed, open_bytes, Set}
use Rattle.stack.specs.Printed.{text_of}
use Rattle.stack.specs.Worked.{board, sparse}

-- a priority is over 7, a type over 3 or a frame over 65,535, be it that of source 0, of a forced source or of the mark
abbrev pub Beyond : Table → Type 0
Beyond t =
    (65535 < t.mark)
    ⊎ ((i : ℕ) × (i < 32) × ((7 < get_or t.priority i 0) ⊎ ((3 < get_or t.kind i 0) ⊎ (65535 < get_or t.frame i 0))))

-- source i is a normal source of level l: one of 1 to 31, not forced, and of that priority
abbrev pub NormalOf : Table → ℕ → ℕ → Type 0
NormalOf t l i = (1 ≤ i) × (i < 32) × (bit t.forced i ≡ false) × (get_or t.priority i 0 ≡ l)

-- two tables that differ in bit 0 of the forced word at most
pub record Alike (t u : Table) : Type 0 where
  pub priority : t.priority ≡ u.priority
  pub kind : t.kind ≡ u.kind
  pub frame : t.frame ≡ u.frame
  pub mark : t.mark ≡ u.mark
  pub forced : (i : ℕ) → 1 ≤ i → i < 32 → bit t.forced i ≡ bit u.forced i

-- a run from reset that sets the table up, and one from there that rewrites no mode and no forcing and at whose end the open frames are the figure
pub record Reached (t : Table) : Type 0 where
  pub setup : List Step
  pub steps : List Step
  pub begins : Set t (run (reset 0 0) setup)
  pub held : always steady (run (reset 0 0) setup) steps ≡ true
  pub full : open_bytes t (run (run (reset 0 0) setup) steps) ≡ stack_bytes t

-- a record as a run of the table begins with it, by its fields and their bits: no entry open, nothing remembered, in each mode the table's priority
-- (bits 2:0) and type (bits 6:5), and bits 1 to 31 of the forcing those of the table's word (02, 4/12 and 9/12; 003, 27.8.3)
pub record Outset (t : Table) (s : Aic) : Type 0 where
  pub empty : s.depth ≡ 0
  pub forgotten : s.seen.what ≡ 0
  pub modes : (i : ℕ) → i < 32 → (get_or s.mode i 0 % 8 ≡ get_or t.priority i 0) × (get_or s.mode i 0 / 32 % 4 ≡ get_or t.kind i 0)
  pub forced : (i : ℕ) → 1 ≤ i → i < 32 → s.forced / 2 ^ i % 2 ≡ t.forced / 2 ^ i % 2

pub record Promises : Type 0 where
  -- ---- the figure

  -- 14 is given exactly if some number is beyond its limit, and then nothing is computed (02, 4/12, Refusals)
  pub refused_is : (t : Table) → ((needed t).refusal ≡ 14) ↔ Beyond t
  pub refused_none : (t : Table) → (needed t).refusal ≢ 0 → needed t ≡ record { refusal = 14; bytes = 0 }
  -- else the figure is what the eight levels need together, 524,280 bytes at most (02, 4/12)
  pub answered_is : (t : Table) → (Beyond t → ⊥) → needed t ≡ record { refusal = 0; bytes = stack_bytes t }
  pub summed : (t : Table) → stack_bytes t
      ≡ level_bytes t 0 + level_bytes t 1 + level_bytes t 2 + level_bytes t 3 + level_bytes t 4 + level_bytes t 5 + level_bytes t 6 + level_bytes t 7
  pub most : (t : Table) → (Beyond t → ⊥) → stack_bytes t ≤ 524280
  -- a level needs the largest among the mark's frame and those of its normal sources: none of these is larger, and one is as large (02, 4/12)
  pub level_mark : (t : Table) (l : ℕ) → t.mark ≤ level_bytes t l
  pub level_frame : (t : Table) (l i : ℕ) → NormalOf t l i → get_or t.frame i 0 ≤ level_bytes t l
  pub level_met : (t : Table) (l : ℕ) → (level_bytes t l ≡ t.mark) ⊎ ((i : ℕ) × NormalOf t l i × (level_bytes t l ≡ get_or t.frame i 0))
  -- bit 0 of the forced word plays no part (02, 4/12)
  pub bit_nought : (t u : Table) → Alike t u → needed t ≡ needed u
  -- ---- what it means

  -- the open frames are added up over the entries: the mark's frame for one of source 0, else that of its source (02, 4/12)
  pub open_is : (t : Table) (s : Aic) → open_bytes t s
      ≡ sum_below s.depth (λ d. pick (eqb (get_or s.source d 0) 0) t.mark (get_or t.frame (get_or s.source d 0) 0))
  -- what a run starts with is this and nothing more: of lines, enables, memories, vectors, the mask and protect mode nothing is asked (02, 4/12, 9/12)
  pub set_is : (t : Table) (s : Aic) → Set t s ↔ Outset t s
  -- in any run that starts with no entry open, nothing remembered and those modes and forcings, and carries out no write of a mode or a forcing,
  -- the open frames never add up to more; from any record, sound or not, in protect mode or not, whatever its lines, enables and memories
  -- (02, 4/12 and 9/12)
  pub never_more : (t : Table) (s : Aic) (xs : List Step) → Shaped s → Set t s → always steady s xs ≡ true → open_bytes t (run s xs) ≤ stack_bytes t
  -- and some such run reaches the figure, for every table within its limits (02, 4/12)
  pub reached : (t : Table) → (Beyond t → ⊥) → Reached t
  -- ---- the line

  -- the figure's digits, a space, the word bytes and a line feed, whatever the table; of a refused one E, a space, 14 and a line feed (02, 4/12)
  pub printed : (t : Table) → (Beyond t → ⊥) → text_of (needed t) ≡ decimal (stack_bytes t) ++ (32 ∷ 98 ∷ 121 ∷ 116 ∷ 101 ∷ 115 ∷ 10 ∷ [])
  pub printed_refused : (t : Table) → Beyond t → text_of (needed t) ≡ 69 ∷ 32 ∷ 49 ∷ 52 ∷ 10 ∷ []
  -- the same of any answer
  pub figure_text : (n : Needed) → n.refusal ≡ 0 → text_of n ≡ decimal n.bytes ++ (32 ∷ 98 ∷ 121 ∷ 116 ∷ 101 ∷ 115 ∷ 10 ∷ [])
  pub number_text : (n : Needed) → n.refusal ≢ 0 → text_of n ≡ 69 ∷ 32 ∷ (decimal n.refusal ++ (10 ∷ []))
  -- no line of a table is longer than 13 bytes
  pub printed_most : (t : Table) → length (text_of (needed t)) ≤ 13
  -- ---- worked out

  -- the board with all eight levels in use needs eight frames, 100 to 170, and its line is `1080 bytes` (02, 4/12)
  pub worked_board : needed board ≡ record { refusal = 0; bytes = 1080 }
  pub worked_line : text_of (needed board) ≡ 49 ∷ 48 ∷ 56 ∷ 48 ∷ 32 ∷ 98 ∷ 121 ∷ 116 ∷ 101 ∷ 115 ∷ 10 ∷ []
  -- the sparse one 200 at level 3 and the mark's 64 at the seven others; with source 6 forced (0x41) 100 at level 3; and 14 where the frame of
  -- source 0, which never counts, is too large
  pub worked_sparse : needed (sparse 0 9999) ≡ record { refusal = 0; bytes = 648 }
  pub worked_forced : needed (sparse 0x41 9999) ≡ record { refusal = 0; bytes = 548 }
  pub worked_refused : needed (sparse 0 65536) ≡ record { refusal = 14; bytes = 0 }
