-- What is promised of the report: the totals after traces, its words, how long its lines are at most, and where a line of names ends.
use Rattle.std.specs.Prelude.{ℕ, ◌<◌, suc, ◌+◌, ◌-◌, ◌≤◌, ◌^◌, ◌≡◌, true, List, [], ◌∷◌, map, ◌++◌, ◌≢◌, length, get_or, drop}
use Rattle.totals.specs.declared.Totals.{Totals}
use Rattle.totals.specs.Totals.{zeros, added, all_in, Reordered}
use Rattle.totals.specs.Promises.{Alike}
use Rattle.tally.specs.Tally.{tally_of}
use Rattle.report.specs.Put.{figures_of, put_all}
use Rattle.text.specs.Text.{decimal, field, laid}
use Rattle.text.specs.Phrases.{bytes}
use Rattle.report.specs.Lines.{line_end, name_end, feeds_before}
use Rattle.report.specs.Printed.{trace_line, left_out_line, source_line, source_lines}

-- the first n sources' figures are words of 32 bits, as those of every such record in the code are
pub record Words (n : ℕ) (t : Totals) : Type 0 where
  pub started : (i : ℕ) → i < n → get_or t.started i 0 < 2 ^ 32
  pub waited : (i : ℕ) → i < n → get_or t.waited i 0 < 2 ^ 32
  pub entries : (i : ℕ) → i < n → get_or t.entries i 0 < 2 ^ 32

-- a text stands whole at the start of a buffer, and the count is its length
abbrev pub Whole : List ℕ → List ℕ → Type 0
Whole l text = laid l text ≡ (text ++ drop (length text) l, length text)

pub record Promises : Type 0 where
  -- ---- the totals after traces

  -- each trace is put to the totals after those before it, and once (02, 11/12)
  pub put_none : (t : Totals) → put_all t [] ≡ t
  pub put_more : (t : Totals) (s : List ℕ) (traces : List (List ℕ)) → put_all t (s ∷ traces) ≡ put_all (added t (tally_of s 20000).figures).totals traces
  -- where none of the traces is left out, their order changes no figure of a source (02, 11/12)
  pub any_order : (xs ys : List (List ℕ)) → Reordered (map figures_of xs) (map figures_of ys) → all_in zeros (map figures_of xs) ≡ true
      → (all_in zeros (map figures_of ys) ≡ true) × ((i : ℕ) → i < 32 → Alike (put_all zeros xs) (put_all zeros ys) i)
  -- ---- the lines

  -- a trace that was played: how many steps, and how many of them refused, each with what it counts (02, 11/12)
  pub played : (played refused offset : ℕ) (name : List ℕ)
      → trace_line played refused 0 offset name ≡ bytes "steps played " ++ decimal played ++ bytes ", steps refused " ++ decimal refused ++ bytes ": " ++ name ++ bytes "\n"
  -- one that ends in E counts up to there, and its line tells where as a listing does (02, 11/12; 01, House trace)
  pub cut : (played refused refusal offset : ℕ) (name : List ℕ) → refusal ≢ 0
      → trace_line played refused refusal offset name
      ≡ bytes "steps played " ++ decimal played ++ bytes ", steps refused " ++ decimal refused ++ bytes ", E" ++ field refusal ++ field offset ++ bytes ": " ++ name ++ bytes "\n"
  -- one that is left out: the number, 16 or 17, and the name (02, 11/12)
  pub left_out : (refusal : ℕ) (name : List ℕ) → left_out_line refusal name ≡ bytes "refusal " ++ decimal refusal ++ bytes ": " ++ name ++ bytes "\n"
  -- a source's three figures, each with what it counts (02, 11/12)
  pub figures : (i started waited entries : ℕ)
      → source_line i started waited entries
      ≡ bytes "source " ++ decimal i ++ bytes ": handlers started " ++ decimal started ++ bytes ", most handlers started while it waited " ++ decimal waited
      ++ bytes ", most entries open while it was open " ++ decimal entries ++ bytes "\n"
  -- the sources stand one after the other, 0 first
  pub no_source : (t : Totals) → source_lines 0 t ≡ []
  pub next_source : (n : ℕ) (t : Totals)
      → source_lines (suc n) t ≡ source_lines n t ++ source_line n (get_or t.started n 0) (get_or t.waited n 0) (get_or t.entries n 0)
  -- ---- worked lines, whole

  pub worked_trace : trace_line 7 1 0 27 (bytes "examples/first.trace") ≡ bytes "steps played 7, steps refused 1: examples/first.trace\n"
  pub worked_cut : trace_line 1 0 8 7 (bytes "examples/cut-short.trace") ≡ bytes "steps played 1, steps refused 0, E 8 7: examples/cut-short.trace\n"
  pub worked_missing : left_out_line 17 (bytes "missing.trace") ≡ bytes "refusal 17: missing.trace\n"
  pub worked_left_out : left_out_line 16 (bytes "left-out.trace") ≡ bytes "refusal 16: left-out.trace\n"
  pub worked_source : source_line 31 4294967295 12 8
      ≡ bytes "source 31: handlers started 4294967295, most handlers started while it waited 12, most entries open while it was open 8\n"
  -- ---- how long they are

  -- a trace's line is its name and at most 87 bytes, one left out its name and at most 21 (numbers of 32 bits, an offset of 64)
  pub trace_most : (played refused refusal offset : ℕ) (name : List ℕ) → played < 2 ^ 32 → refused < 2 ^ 32 → refusal < 2 ^ 32
      → length (trace_line played refused refusal offset name) ≤ length name + 87
  pub left_out_most : (refusal : ℕ) (name : List ℕ) → refusal < 2 ^ 32 → length (left_out_line refusal name) ≤ length name + 21
  -- a source's line has at most 137 bytes, so the 32 have at most 4,384
  pub sources_most : (t : Totals) → Words 32 t → length (source_lines 32 t) ≤ 4384
  -- a text no longer than its buffer stands there whole: with such room nothing of a report is dropped
  pub nothing_dropped : (l text : List ℕ) → length text ≤ length l → Whole l text
  -- ---- lines of names

  -- a line ends within the text, at its first line feed or, where there is none, with the text (02, 11/12: "one to a line")
  pub end_within : (s : List ℕ) (at : ℕ) → at ≤ length s → (at ≤ line_end s at) × (line_end s at ≤ length s)
  pub end_before : (s : List ℕ) (at k : ℕ) → at ≤ k → k < line_end s at → get_or s k 0 ≢ 10
  pub end_at : (s : List ℕ) (at : ℕ) → at ≤ length s → line_end s at < length s → get_or s (line_end s at) 0 ≡ 10
  -- a place beyond the end is its own answer
  pub end_beyond : (s : List ℕ) (at : ℕ) → length s ≤ at → line_end s at ≡ at
  -- one carriage return before the line feed at e is no part of the name that begins at `at`; all else is, a carriage return before that one too
  pub name_short : (s : List ℕ) (at e : ℕ) → at < e → get_or s (e - 1) 0 ≡ 13 → name_end s at e ≡ e - 1
  pub name_whole : (s : List ℕ) (at e : ℕ) → at < e → get_or s (e - 1) 0 ≢ 13 → name_end s at e ≡ e
  -- an empty line is an empty name
  pub name_empty : (s : List ℕ) (at : ℕ) → name_end s at at ≡ at
  -- line feeds before a place, byte by byte
  pub feeds_none : (s : List ℕ) → feeds_before s 0 ≡ 0
  pub feeds_feed : (s : List ℕ) (k : ℕ) → get_or s k 0 ≡ 10 → feeds_before s (suc k) ≡ feeds_before s k + 1
  pub feeds_else : (s : List ℕ) (k : ℕ) → get_or s k 0 ≢ 10 → feeds_before s (suc k) ≡ feeds_before s k
