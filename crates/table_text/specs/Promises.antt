-- What is promised of the table of an AIC as it is typed: what is printed is read back as the numbers of the record (02, 4/12; docs/STACK.md).
use Rattle.std.specs.Prelude.{ℕ, suc, ◌+◌, ◌/◌, ◌%◌, ◌^◌, ◌≤◌, ◌<◌, ◌≡◌, true, List, [], ◌∷◌, ◌++◌, ◌↔◌, ◌≢◌, length, get_or}
use Rattle.text.specs.Text.{hex, decimal, field}
use Rattle.text.specs.Phrases.{bytes}
use Rattle.aic_record.specs.declared.Aic.{Aic}
use Rattle.tables.specs.Reading.{read_table}
use Rattle.beginning.specs.Begin.{begin_of}
use Rattle.beginning.specs.Play.{play_of}
use Rattle.table_text.specs.Text.{table_in, source_line, source_lines, table_text, is_tabled, text_of}

pub record Promises : Type 0 where
  -- ---- read back

  -- what is printed of a record is a table that is not refused, of these numbers (docs/STACK.md)
  pub read_back : (a : Aic) → read_table (table_text a) ≡ record { refusal = 0; offset = 0; table = table_in a }
  -- for each source bits 2:0 of its mode, its priority, and bits 6:5, its type (01, AIC, Mode; 003, 27.8.3); no frame is known
  pub priorities : (a : Aic) (i : ℕ) → i < 32 → get_or (table_in a).priority i 0 ≡ get_or a.mode i 0 % 8
  pub types : (a : Aic) (i : ℕ) → i < 32 → get_or (table_in a).kind i 0 ≡ get_or a.mode i 0 / 32 % 4
  pub frames : (a : Aic) (i : ℕ) → i < 32 → get_or (table_in a).frame i 0 ≡ 0
  pub lengths : (a : Aic) → (length (table_in a).priority ≡ 32) × (length (table_in a).kind ≡ 32) × (length (table_in a).frame ≡ 32)
  -- the word of forced sources as it is, and 0 for the frame of a mark
  pub forced_is : (a : Aic) → a.forced < 2 ^ 32 → (table_in a).forced ≡ a.forced
  pub mark_is : (a : Aic) → (table_in a).mark ≡ 0
  -- ---- byte for byte

  -- a comment, a line for each of 32 sources, a line for the forced ones in hexadecimal, and one for the frame of a mark
  pub text_is : (a : Aic) → table_text a
      ≡ bytes "# priority, type and frame in bytes of each source, 0 first; the frames and that of a mark are 0 and to be filled in\n"
      ++ source_lines a.mode 32 0 ++ (bytes "0x" ++ hex a.forced ++ bytes " # forced sources\n0 # frame of a mark in bytes\n")
  pub lines_none : (modes : List ℕ) (i : ℕ) → source_lines modes 0 i ≡ []
  pub lines_more : (modes : List ℕ) (k i : ℕ) → source_lines modes (suc k) i ≡ source_line (get_or modes i 0) i ++ source_lines modes k (i + 1)
  pub line_is : (mode i : ℕ) → source_line mode i ≡ decimal (mode % 8) ++ (32 ∷ decimal (mode / 32 % 4)) ++ (bytes " 0 # source " ++ decimal i) ++ (10 ∷ [])
  -- ---- of a trace

  -- there is one exactly of a trace that starts an AIC; it is that of the record after the last step played, of 20,000 at most
  pub tabled : (s : List ℕ) → (is_tabled s ≡ true) ↔ (((begin_of s).refusal ≡ 0) × ((begin_of s).machine.kind ≡ 0))
  pub text_after : (s : List ℕ) → is_tabled s ≡ true → text_of s ≡ table_text (play_of s 20000).machine.aic
  -- else a line says why
  pub not_begun : (s : List ℕ) → (begin_of s).refusal ≢ 0
      → text_of s ≡ bytes "no table: the trace has no beginning, E" ++ field (begin_of s).refusal ++ field (begin_of s).place ++ (10 ∷ [])
  pub not_aic : (s : List ℕ) → (begin_of s).refusal ≡ 0 → (begin_of s).machine.kind ≢ 0 → text_of s ≡ bytes "no table: the trace is not of an AIC\n"
  -- no text is longer than 750 bytes
  pub most : (s : List ℕ) → length (text_of s) ≤ 750
