-- What is promised of a listing: its name, its lines byte by byte, how it ends, how long it is, what it leaves in the buffer, six listings worked out, and
-- that of a CIC with a choice beside that of one without (02, 6/12).
use Rattle.std.specs.Prelude.{ℕ, ◌+◌, ◌*◌, ◌^◌, ◌<◌, ◌≤◌, min, ◌≡◌, List, [], ◌∷◌, ◌++◌, ◌≢◌, eqb, length, get_or, take, drop}
use Rattle.words.specs.Choice.{pick}
use Rattle.words.specs.Counting.{one}
use Rattle.steps.specs.declared.Recorded.{Recorded}
use Rattle.steps.specs.declared.Step.{Step}
use Rattle.steps.specs.declared.Step.TheVariants.{Read, Write, Line}
use Rattle.text.specs.Text.{hex, decimal, laid}
use Rattle.kinds.specs.Kinds.{name}
use Rattle.kinds.specs.Promises.{endings}
use Rattle.machine.specs.declared.Answer.{Answer}
use Rattle.machine.specs.declared.record.Columns.{Columns}
use Rattle.machine.specs.Shown.{shown}
use Rattle.machine.specs.Steps.{step}
use Rattle.beginning.specs.Begin.{begin_of}
use Rattle.beginning.specs.Play.{records_of, run_of, play_of}
use Rattle.lines.specs.Listing.{step_line, lines_from, joined, end_of, listing_of, text_from}
use Rattle.trace.specs.Trace.{Trace}
use Rattle.machine.specs.declared.record.Machine.{Machine}
use Rattle.listing.specs.Indexed.{Off, Alike, SameBut, indexed_trace, indexed_text}

-- the lines of the steps of a trace, of which at most so many are played
abbrev pub lines_of : List ℕ → ℕ → List (List ℕ)
lines_of s limit = lines_from 0 (begin_of s).machine (records_of s limit).steps

-- a number, a letter, eight digits and three numbers with a space between, and the end of the line
abbrev pub line_bytes : ℕ → ℕ → ℕ → Columns → List ℕ
line_bytes n letter value c =
    decimal n
    ++ (32 ∷ letter ∷ 32 ∷ (hex value ++ (32 ∷ (decimal c.first ++ (32 ∷ (decimal c.second ++ (32 ∷ (decimal c.third ++ (10 ∷ [])))))))))

-- ---- traces and their listings, byte by byte

-- an AIC: a mode, a vector, an enable, a rising line, a vector read, a read at no multiple of 4, an end of interrupt (01, House trace)
abbrev pub aic_trace : List ℕ
aic_trace =
    0 ∷ 0 ∷ 0 ∷ 2 ∷ 20 ∷ 35 ∷ 2 ∷ 148 ∷ 1 ∷ 160 ∷ 1 ∷ 2 ∷ 160 ∷ 2 ∷ 32 ∷ 3 ∷ 5 ∷ 1 ∷ 1 ∷ 128 ∷ 2 ∷ 1 ∷ 2 ∷ 2 ∷ 176 ∷ 2 ∷ 0 ∷ []

-- AIC, and seven lines of steps (01, House trace)
abbrev pub aic_text : List ℕ
aic_text =
    65 ∷ 73 ∷ 67 ∷ 10
    ∷ 49 ∷ 32 ∷ 87 ∷ 32 ∷ 48 ∷ 48 ∷ 48 ∷ 48 ∷ 48 ∷ 48 ∷ 48 ∷ 48 ∷ 32 ∷ 48 ∷ 32 ∷ 48 ∷ 32 ∷ 48 ∷ 10
    ∷ 50 ∷ 32 ∷ 87 ∷ 32 ∷ 48 ∷ 48 ∷ 48 ∷ 48 ∷ 48 ∷ 48 ∷ 48 ∷ 48 ∷ 32 ∷ 48 ∷ 32 ∷ 48 ∷ 32 ∷ 48 ∷ 10
    ∷ 51 ∷ 32 ∷ 87 ∷ 32 ∷ 48 ∷ 48 ∷ 48 ∷ 48 ∷ 48 ∷ 48 ∷ 48 ∷ 48 ∷ 32 ∷ 48 ∷ 32 ∷ 48 ∷ 32 ∷ 48 ∷ 10
    ∷ 52 ∷ 32 ∷ 76 ∷ 32 ∷ 48 ∷ 48 ∷ 48 ∷ 48 ∷ 48 ∷ 48 ∷ 48 ∷ 48 ∷ 32 ∷ 49 ∷ 32 ∷ 48 ∷ 32 ∷ 48 ∷ 10
    ∷ 53 ∷ 32 ∷ 82 ∷ 32 ∷ 48 ∷ 48 ∷ 48 ∷ 48 ∷ 48 ∷ 48 ∷ 65 ∷ 48 ∷ 32 ∷ 48 ∷ 32 ∷ 48 ∷ 32 ∷ 49 ∷ 10
    ∷ 54 ∷ 32 ∷ 88 ∷ 32 ∷ 48 ∷ 48 ∷ 48 ∷ 48 ∷ 48 ∷ 48 ∷ 48 ∷ 49 ∷ 32 ∷ 48 ∷ 32 ∷ 48 ∷ 32 ∷ 49 ∷ 10
    ∷ 55 ∷ 32 ∷ 87 ∷ 32 ∷ 48 ∷ 48 ∷ 48 ∷ 48 ∷ 48 ∷ 48 ∷ 48 ∷ 48 ∷ 32 ∷ 48 ∷ 32 ∷ 48 ∷ 32 ∷ 48 ∷ 10 ∷ []

-- a CoreInterrupt with one FIQ and two IRQ sources: eleven steps, FF FF 03 (65,535) among their numbers and a read of a write-only register; then 4,
-- which is no kind of step (01, CoreInterrupt; House trace)
abbrev pub core_trace : List ℕ
core_trace =
    1 ∷ 1 ∷ 2 ∷ 1 ∷ 0 ∷ 2 ∷ 32 ∷ 3 ∷ 3 ∷ 0 ∷ 1 ∷ 1 ∷ 44 ∷ 2 ∷ 8 ∷ 1 ∷ 3 ∷ 32 ∷ 1 ∷ 1 ∷ 20 ∷ 2 ∷ 36 ∷ 255 ∷ 255 ∷ 3 ∷ 3 ∷ 0 ∷ 0 ∷ 1 ∷ 40 ∷ 2 ∷ 24 ∷ 2 ∷ 1 ∷ 4 ∷ 4 ∷ []

-- COREINTERRUPT, eleven lines of steps, and E 9 36
abbrev pub core_text : List ℕ
core_text =
    67 ∷ 79 ∷ 82 ∷ 69 ∷ 73 ∷ 78 ∷ 84 ∷ 69 ∷ 82 ∷ 82 ∷ 85 ∷ 80 ∷ 84 ∷ 10
    ∷ 49 ∷ 32 ∷ 87 ∷ 32 ∷ 48 ∷ 48 ∷ 48 ∷ 48 ∷ 48 ∷ 48 ∷ 48 ∷ 48 ∷ 32 ∷ 48 ∷ 32 ∷ 48 ∷ 32 ∷ 48 ∷ 10
    ∷ 50 ∷ 32 ∷ 76 ∷ 32 ∷ 48 ∷ 48 ∷ 48 ∷ 48 ∷ 48 ∷ 48 ∷ 48 ∷ 48 ∷ 32 ∷ 49 ∷ 32 ∷ 48 ∷ 32 ∷ 48 ∷ 10
    ∷ 51 ∷ 32 ∷ 82 ∷ 32 ∷ 48 ∷ 48 ∷ 48 ∷ 48 ∷ 48 ∷ 48 ∷ 48 ∷ 49 ∷ 32 ∷ 49 ∷ 32 ∷ 48 ∷ 32 ∷ 48 ∷ 10
    ∷ 52 ∷ 32 ∷ 87 ∷ 32 ∷ 48 ∷ 48 ∷ 48 ∷ 48 ∷ 48 ∷ 48 ∷ 48 ∷ 48 ∷ 32 ∷ 49 ∷ 32 ∷ 48 ∷ 32 ∷ 48 ∷ 10
    ∷ 53 ∷ 32 ∷ 76 ∷ 32 ∷ 48 ∷ 48 ∷ 48 ∷ 48 ∷ 48 ∷ 48 ∷ 48 ∷ 48 ∷ 32 ∷ 49 ∷ 32 ∷ 49 ∷ 32 ∷ 48 ∷ 10
    ∷ 54 ∷ 32 ∷ 82 ∷ 32 ∷ 48 ∷ 48 ∷ 48 ∷ 48 ∷ 48 ∷ 48 ∷ 48 ∷ 49 ∷ 32 ∷ 49 ∷ 32 ∷ 49 ∷ 32 ∷ 48 ∷ 10
    ∷ 55 ∷ 32 ∷ 87 ∷ 32 ∷ 48 ∷ 48 ∷ 48 ∷ 48 ∷ 48 ∷ 48 ∷ 48 ∷ 48 ∷ 32 ∷ 48 ∷ 32 ∷ 49 ∷ 32 ∷ 48 ∷ 10
    ∷ 56 ∷ 32 ∷ 76 ∷ 32 ∷ 48 ∷ 48 ∷ 48 ∷ 48 ∷ 48 ∷ 48 ∷ 48 ∷ 48 ∷ 32 ∷ 48 ∷ 32 ∷ 49 ∷ 32 ∷ 48 ∷ 10
    ∷ 57 ∷ 32 ∷ 82 ∷ 32 ∷ 48 ∷ 48 ∷ 48 ∷ 48 ∷ 48 ∷ 48 ∷ 48 ∷ 48 ∷ 32 ∷ 48 ∷ 32 ∷ 49 ∷ 32 ∷ 48 ∷ 10
    ∷ 49 ∷ 48 ∷ 32 ∷ 87 ∷ 32 ∷ 48 ∷ 48 ∷ 48 ∷ 48 ∷ 48 ∷ 48 ∷ 48 ∷ 48 ∷ 32 ∷ 48 ∷ 32 ∷ 49 ∷ 32 ∷ 48 ∷ 10
    ∷ 49 ∷ 49 ∷ 32 ∷ 88 ∷ 32 ∷ 48 ∷ 48 ∷ 48 ∷ 48 ∷ 48 ∷ 48 ∷ 48 ∷ 51 ∷ 32 ∷ 48 ∷ 32 ∷ 49 ∷ 32 ∷ 48 ∷ 10
    ∷ 69 ∷ 32 ∷ 57 ∷ 32 ∷ 51 ∷ 54 ∷ 10 ∷ []

-- a CIC with 40 systems, two channels, two hosts and the revision 0x12345 (C5 C6 04): twelve steps, both hosts asserted after the tenth; then a read
-- that is cut short (01, CIC; House trace)
abbrev pub cic_trace : List ℕ
cic_trace =
    2 ∷ 40 ∷ 2 ∷ 2 ∷ 197 ∷ 198 ∷ 4 ∷ 1 ∷ 0 ∷ 2 ∷ 16 ∷ 1 ∷ 2 ∷ 128 ∷ 42 ∷ 3 ∷ 2 ∷ 136 ∷ 8 ∷ 129 ∷ 128 ∷ 4 ∷ 2 ∷ 128 ∷ 16 ∷ 1 ∷ 2 ∷ 40 ∷ 33 ∷ 3 ∷ 33 ∷ 1 ∷ 1 ∷ 132 ∷ 4 ∷ 2 ∷ 128 ∷ 6 ∷ 128 ∷ 8 ∷ 3 ∷ 10 ∷ 1 ∷ 2 ∷ 44 ∷ 33 ∷ 1 ∷ 128 ∷ 5 ∷ 1 ∷ []

-- CIC, twelve lines of steps, and E 8 50
abbrev pub cic_text : List ℕ
cic_text =
    67 ∷ 73 ∷ 67 ∷ 10
    ∷ 49 ∷ 32 ∷ 82 ∷ 32 ∷ 48 ∷ 48 ∷ 48 ∷ 49 ∷ 50 ∷ 51 ∷ 52 ∷ 53 ∷ 32 ∷ 48 ∷ 32 ∷ 50 ∷ 53 ∷ 54 ∷ 32 ∷ 48 ∷ 10
    ∷ 50 ∷ 32 ∷ 87 ∷ 32 ∷ 48 ∷ 48 ∷ 48 ∷ 48 ∷ 48 ∷ 48 ∷ 48 ∷ 48 ∷ 32 ∷ 48 ∷ 32 ∷ 50 ∷ 53 ∷ 54 ∷ 32 ∷ 48 ∷ 10
    ∷ 51 ∷ 32 ∷ 87 ∷ 32 ∷ 48 ∷ 48 ∷ 48 ∷ 48 ∷ 48 ∷ 48 ∷ 48 ∷ 48 ∷ 32 ∷ 48 ∷ 32 ∷ 50 ∷ 53 ∷ 54 ∷ 32 ∷ 48 ∷ 10
    ∷ 52 ∷ 32 ∷ 87 ∷ 32 ∷ 48 ∷ 48 ∷ 48 ∷ 48 ∷ 48 ∷ 48 ∷ 48 ∷ 48 ∷ 32 ∷ 48 ∷ 32 ∷ 50 ∷ 53 ∷ 54 ∷ 32 ∷ 48 ∷ 10
    ∷ 53 ∷ 32 ∷ 87 ∷ 32 ∷ 48 ∷ 48 ∷ 48 ∷ 48 ∷ 48 ∷ 48 ∷ 48 ∷ 48 ∷ 32 ∷ 48 ∷ 32 ∷ 50 ∷ 53 ∷ 54 ∷ 32 ∷ 48 ∷ 10
    ∷ 54 ∷ 32 ∷ 87 ∷ 32 ∷ 48 ∷ 48 ∷ 48 ∷ 48 ∷ 48 ∷ 48 ∷ 48 ∷ 48 ∷ 32 ∷ 48 ∷ 32 ∷ 50 ∷ 53 ∷ 54 ∷ 32 ∷ 48 ∷ 10
    ∷ 55 ∷ 32 ∷ 76 ∷ 32 ∷ 48 ∷ 48 ∷ 48 ∷ 48 ∷ 48 ∷ 48 ∷ 48 ∷ 48 ∷ 32 ∷ 49 ∷ 32 ∷ 49 ∷ 32 ∷ 48 ∷ 10
    ∷ 56 ∷ 32 ∷ 82 ∷ 32 ∷ 48 ∷ 48 ∷ 48 ∷ 48 ∷ 48 ∷ 48 ∷ 48 ∷ 50 ∷ 32 ∷ 49 ∷ 32 ∷ 49 ∷ 32 ∷ 48 ∷ 10
    ∷ 57 ∷ 32 ∷ 87 ∷ 32 ∷ 48 ∷ 48 ∷ 48 ∷ 48 ∷ 48 ∷ 48 ∷ 48 ∷ 48 ∷ 32 ∷ 49 ∷ 32 ∷ 49 ∷ 32 ∷ 48 ∷ 10
    ∷ 49 ∷ 48 ∷ 32 ∷ 76 ∷ 32 ∷ 48 ∷ 48 ∷ 48 ∷ 48 ∷ 48 ∷ 48 ∷ 48 ∷ 48 ∷ 32 ∷ 50 ∷ 32 ∷ 48 ∷ 32 ∷ 48 ∷ 10
    ∷ 49 ∷ 49 ∷ 32 ∷ 87 ∷ 32 ∷ 48 ∷ 48 ∷ 48 ∷ 48 ∷ 48 ∷ 48 ∷ 48 ∷ 48 ∷ 32 ∷ 49 ∷ 32 ∷ 48 ∷ 32 ∷ 48 ∷ 10
    ∷ 49 ∷ 50 ∷ 32 ∷ 82 ∷ 32 ∷ 48 ∷ 48 ∷ 48 ∷ 48 ∷ 48 ∷ 52 ∷ 48 ∷ 48 ∷ 32 ∷ 49 ∷ 32 ∷ 48 ∷ 32 ∷ 48 ∷ 10
    ∷ 69 ∷ 32 ∷ 56 ∷ 32 ∷ 53 ∷ 48 ∷ 10 ∷ []

-- an AINTC: an input is unmasked, its line rises, its number is read without privilege, so is the protection register, the line falls and the input is
-- held, it is released, a read by privilege 2, a read with none active; then a read whose privilege is missing (000, 4.3 to 4.5; 02, 2/12)
abbrev pub aintc_trace : List ℕ
aintc_trace = 3 ∷ 2 ∷ 136 ∷ 1 ∷ 1 ∷ 32 ∷ 3 ∷ 5 ∷ 1 ∷ 1 ∷ 64 ∷ 0 ∷ 1 ∷ 76 ∷ 0 ∷ 3 ∷ 5 ∷ 0 ∷ 2 ∷ 72 ∷ 1 ∷ 1 ∷ 1 ∷ 64 ∷ 2 ∷ 1 ∷ 64 ∷ 1 ∷ 1 ∷ 64 ∷ []

-- AINTC, eight lines of steps, and E 8 30
abbrev pub aintc_text : List ℕ
aintc_text =
    65 ∷ 73 ∷ 78 ∷ 84 ∷ 67 ∷ 10
    ∷ 49 ∷ 32 ∷ 87 ∷ 32 ∷ 48 ∷ 48 ∷ 48 ∷ 48 ∷ 48 ∷ 48 ∷ 48 ∷ 48 ∷ 32 ∷ 48 ∷ 32 ∷ 48 ∷ 32 ∷ 48 ∷ 10
    ∷ 50 ∷ 32 ∷ 76 ∷ 32 ∷ 48 ∷ 48 ∷ 48 ∷ 48 ∷ 48 ∷ 48 ∷ 48 ∷ 48 ∷ 32 ∷ 49 ∷ 32 ∷ 48 ∷ 32 ∷ 53 ∷ 10
    ∷ 51 ∷ 32 ∷ 82 ∷ 32 ∷ 48 ∷ 48 ∷ 48 ∷ 48 ∷ 48 ∷ 48 ∷ 48 ∷ 53 ∷ 32 ∷ 49 ∷ 32 ∷ 48 ∷ 32 ∷ 53 ∷ 10
    ∷ 52 ∷ 32 ∷ 88 ∷ 32 ∷ 48 ∷ 48 ∷ 48 ∷ 48 ∷ 48 ∷ 48 ∷ 48 ∷ 68 ∷ 32 ∷ 49 ∷ 32 ∷ 48 ∷ 32 ∷ 53 ∷ 10
    ∷ 53 ∷ 32 ∷ 76 ∷ 32 ∷ 48 ∷ 48 ∷ 48 ∷ 48 ∷ 48 ∷ 48 ∷ 48 ∷ 48 ∷ 32 ∷ 49 ∷ 32 ∷ 48 ∷ 32 ∷ 53 ∷ 10
    ∷ 54 ∷ 32 ∷ 87 ∷ 32 ∷ 48 ∷ 48 ∷ 48 ∷ 48 ∷ 48 ∷ 48 ∷ 48 ∷ 48 ∷ 32 ∷ 48 ∷ 32 ∷ 48 ∷ 32 ∷ 48 ∷ 10
    ∷ 55 ∷ 32 ∷ 88 ∷ 32 ∷ 48 ∷ 48 ∷ 48 ∷ 48 ∷ 48 ∷ 48 ∷ 48 ∷ 54 ∷ 32 ∷ 48 ∷ 32 ∷ 48 ∷ 32 ∷ 48 ∷ 10
    ∷ 56 ∷ 32 ∷ 82 ∷ 32 ∷ 70 ∷ 70 ∷ 70 ∷ 70 ∷ 70 ∷ 70 ∷ 56 ∷ 48 ∷ 32 ∷ 48 ∷ 32 ∷ 48 ∷ 32 ∷ 48 ∷ 10
    ∷ 69 ∷ 32 ∷ 56 ∷ 32 ∷ 51 ∷ 48 ∷ 10 ∷ []

pub record Promises : Type 0 where
  -- ---- the whole

  -- once a configuration is accepted a listing is the name, a line for each step and how the play ended (01, House trace)
  pub begun : (s : List ℕ) (limit : ℕ) → (begin_of s).refusal ≡ 0
      → listing_of s limit ≡ name (begin_of s).machine.kind ++ (joined (lines_of s limit) ++ end_of (play_of s limit).refusal (play_of s limit).offset)
  -- before that it is only how the play ended (01, House trace)
  pub not_begun : (s : List ℕ) (limit : ℕ) → (begin_of s).refusal ≢ 0 → listing_of s limit ≡ end_of (play_of s limit).refusal (play_of s limit).offset
  -- one line follows the other
  pub joined_none : joined [] ≡ []
  pub joined_more : (l : List ℕ) (ls : List (List ℕ)) → joined (l ∷ ls) ≡ l ++ joined ls
  -- ---- the lines

  -- there are as many lines of steps as the player plays (01, House trace)
  pub lines : (s : List ℕ) (limit : ℕ) → length (lines_of s limit) ≡ (play_of s limit).steps
  -- the line of a step record that comes after some others bears the number after theirs, from 1 on, and tells what the machine answers that
  -- these have made of the first one (01, House trace)
  pub line_of_step : (s : List ℕ) (limit : ℕ) (before : List Recorded) (x : Recorded) (after : List Recorded) → (records_of s limit).steps ≡ before ++ (x ∷ after)
      → get_or (lines_of s limit) (length before) [] ≡ step_line (length before + 1) x.step (step (run_of (begin_of s).machine before) x)
  -- a step that is carried out shows R, W or L and the value answered, a refused one X and its refusal; the three numbers are those of the machine
  -- after it (01, House trace)
  pub read_line : (n offset : ℕ) (a : Answer) → a.refusal ≡ 0 → step_line n (Read offset) a ≡ line_bytes n 82 a.value (shown a.machine)
  pub write_line : (n offset value : ℕ) (a : Answer) → a.refusal ≡ 0 → step_line n (Write offset value) a ≡ line_bytes n 87 a.value (shown a.machine)
  pub line_line : (n line level : ℕ) (a : Answer) → a.refusal ≡ 0 → step_line n (Line line level) a ≡ line_bytes n 76 a.value (shown a.machine)
  pub refused_line : (n : ℕ) (x : Step) (a : Answer) → a.refusal ≢ 0 → step_line n x a ≡ line_bytes n 88 a.refusal (shown a.machine)
  -- ---- the end

  -- E, the refusal and its offset, or nothing where no refusal ends the play (01, House trace)
  pub end_none : (offset : ℕ) → end_of 0 offset ≡ []
  pub end_line : (refusal offset : ℕ) → refusal ≢ 0 → end_of refusal offset ≡ 69 ∷ 32 ∷ (decimal refusal ++ (32 ∷ (decimal offset ++ (10 ∷ []))))
  -- so many lines end in the listing: the name's if there is one, one for each step, and the last if a refusal ends the play (01, House trace)
  pub ended : (s : List ℕ) (limit : ℕ)
      → endings (listing_of s limit) ≡ one (eqb (begin_of s).refusal 0) + (play_of s limit).steps + pick (eqb (play_of s limit).refusal 0) 0 1
  -- ---- the buffer

  -- a listing of steps whose numbers have at most d digits is at most so long
  pub bounded : (s : List ℕ) (limit d : ℕ) → 0 < d → limit < 10 ^ d → length (listing_of s limit) ≤ (d + 24) * limit + 58
  -- in a buffer that is long enough stands the whole of it, and the rest is as it was
  pub fits : (s l : List ℕ) (limit : ℕ) → length (listing_of s limit) ≤ length l
      → laid l (listing_of s limit) ≡ (listing_of s limit ++ drop (length (listing_of s limit)) l, length (listing_of s limit))
  -- in any other as much of it as finds room
  pub partly : (l bs : List ℕ) → laid l bs ≡ (take (length l) bs ++ drop (length bs) l, min (length bs) (length l))
  -- ---- worked out

  -- the example of 01, byte for byte, and nothing at all: E 8 0 (01, House trace)
  pub worked : listing_of aic_trace 20000 ≡ aic_text
  pub nothing : listing_of [] 20000 ≡ 69 ∷ 32 ∷ 56 ∷ 32 ∷ 48 ∷ 10 ∷ []
  -- a CoreInterrupt and a CIC, with step numbers of two digits, a number of three bytes and a last line
  pub core_listed : listing_of core_trace 20000 ≡ core_text
  pub cic_listed : listing_of cic_trace 20000 ≡ cic_text
  -- an AINTC, with refusals 13 and 6; and its kind alone, which needs no configuration (02, 2/12)
  pub aintc_listed : listing_of aintc_trace 20000 ≡ aintc_text
  pub aintc_alone : listing_of (3 ∷ []) 20000 ≡ 65 ∷ 73 ∷ 78 ∷ 84 ∷ 67 ∷ 10 ∷ []
  -- ---- a CIC with a choice, beside one without

  -- with the choice off a CIC of kind 4 lists any steps byte for byte as the same CIC of kind 2 does, whatever their first number and however they end
  -- (02, 6/12)
  pub off_text : (n : ℕ) (m c : Machine) (t : Trace) → Off m c → text_from n m t ≡ text_from n c t
  -- so do whole traces, but for a last line E; there too the refusal is the same, and the offset, which is counted from the first byte of the trace, is as much
  -- further as the configuration is longer (02, 6/12; 01, House trace)
  pub off_listed : (a b r : List ℕ) (limit : ℕ) → Alike a b r → SameBut (a ++ r) (b ++ r) limit
  pub off_ends : (a b r : List ℕ) (limit : ℕ) → Alike a b r → ((play_of (a ++ r) limit).refusal ≡ (play_of (b ++ r) limit).refusal)
      × ((play_of (a ++ r) limit).offset + length b ≡ (play_of (b ++ r) limit).offset + length a)
  -- so they are the same byte for byte where no refusal ends the play, or where both configurations are of one length
  pub off_same : (a b r : List ℕ) (limit : ℕ) → Alike a b r → (play_of (b ++ r) limit).refusal ≡ 0 → listing_of (a ++ r) limit ≡ listing_of (b ++ r) limit
  pub off_as_long : (a b r : List ℕ) (limit : ℕ) → Alike a b r → length a ≡ length b → listing_of (a ++ r) limit ≡ listing_of (b ++ r) limit
  -- ---- worked out

  -- these bytes are alike: a read of the revision follows, and 9, which is no kind of step (01, House trace)
  pub met : Alike (4 ∷ 4 ∷ 2 ∷ 1 ∷ 7 ∷ 0 ∷ []) (2 ∷ 4 ∷ 2 ∷ 1 ∷ 7 ∷ []) (1 ∷ 0 ∷ 9 ∷ [])
  -- with the choice on an index read answers the first in the order of the channels, and holds it (001, 1.3.5)
  pub indexed_listed : listing_of indexed_trace 20000 ≡ indexed_text
