-- What is promised of the waits of a source over a trace: which they are, when there are lines of them and what is written where there are none, how long
-- the text is at most, and what the figures count.
use Rattle.std.specs.Prelude.{ℕ, ◌+◌, ◌≤◌, ◌≡◌, true, false, List, [], ◌∷◌, ◌++◌, ◌↔◌, ◌≢◌, length, drop}
use Rattle.steps.specs.declared.Step.{Step}
use Rattle.text.specs.Text.{field, laid}
use Rattle.text.specs.Phrases.{bytes}
use Rattle.aic_record.specs.declared.Aic.{Aic}
use Rattle.aic_bounds.specs.Bounds.{bound_at}
use Rattle.aic_bounds.specs.Over.{bounded_of, waits_begun, waits_unended, waits_unbounded}
use Rattle.aic_bounds.specs.Promises.{Whole}
use Rattle.aic_bounds.specs.Figures.{no_figures}
use Rattle.aic_bounds.specs.FiguresPromises.{Tells}
use Rattle.beginning.specs.Begin.{begin_of}
use Rattle.beginning.specs.Play.{records_of}
use Rattle.lines.specs.Listing.{end_of}
use Rattle.tally.specs.Promises.{aic_of, played_of}
use Rattle.trace_bounds.specs.Waits.{Wait, waits_of}
use Rattle.trace_bounds.specs.Lines.{wait_lines, last_line}
use Rattle.trace_bounds.specs.Listing.{is_listed, bound_text}
use Rattle.trace_bounds.specs.Figures.{figures_in}

-- it ends by the first of these steps, whose number is m; 0 is told where there is none
abbrev pub EndedAt : List Step → ℕ → ℕ → Type 0
EndedAt [] n m = n ≡ 0
EndedAt (y ∷ ys) n m = n ≡ m

-- what is told is a wait of source k over the run xs from s, whole: its steps' numbers, counted from 1, and what is observed of it where it ends
pub record Told (k : ℕ) (s : Aic) (xs : List Step) (w : Wait) : Type 0 where
  pub before : List Step
  pub by : Step
  pub during : List Step
  pub after : List Step
  pub whole : Whole k s xs before by during after
  pub began : w.began ≡ length before + 1
  pub ended : EndedAt after w.ended (length before + length during + 2)
  pub bound : w.bound ≡ bound_at k s (before ++ (by ∷ during))

-- each of some waits is one
abbrev pub Each : (Wait → Type 0) → List Wait → Type 0
Each P [] = Unit {0}
Each P (w ∷ ws) = P w × Each P ws

-- the trace begins, is of an AIC, and the number is that of a source that may wait
abbrev pub Asked : List ℕ → ℕ → Type 0
Asked s k = ((begin_of s).refusal ≡ 0) × ((begin_of s).machine.kind ≡ 0) × ((1 ≤ k) × (k ≤ 31))

pub record Promises : Type 0 where
  -- ---- the waits

  -- each wait that is told is one of the run, and as many are told as begin (02, 11/12)
  pub each : (s : Aic) (k : ℕ) (xs : List Step) → Each (Told k s xs) (waits_of k s xs)
  pub many : (s : Aic) (k : ℕ) (xs : List Step) → length (waits_of k s xs) ≡ waits_begun k s xs
  -- ---- the text

  -- there are lines exactly if the trace begins, is of an AIC, and the source is one of 1 to 31
  pub listed_if : (s : List ℕ) (k : ℕ) → (is_listed s k ≡ true) ↔ Asked s k
  -- then they are those of the waits over the steps played, at most 20,000, a last line for all of them, and E where the trace ends in one
  pub lines : (s : List ℕ) (k : ℕ) → is_listed s k ≡ true
      → bound_text s k
      ≡ wait_lines (waits_of k (aic_of s) (played_of s 20000))
      ++ last_line k (waits_begun k (aic_of s) (played_of s 20000)) (waits_unended k (aic_of s) (played_of s 20000)) (waits_unbounded k (aic_of s) (played_of s 20000))
      (bounded_of k (aic_of s) (played_of s 20000))
      ++ end_of (records_of s 20000).refusal (records_of s 20000).offset
  -- else a line says why there are none
  pub not_begun : (s : List ℕ) (k : ℕ) → (begin_of s).refusal ≢ 0
      → bound_text s k ≡ bytes "no bound: the trace has no beginning, E" ++ field (begin_of s).refusal ++ field (begin_of s).place ++ bytes "\n"
  pub not_aic : (s : List ℕ) (k : ℕ) → (begin_of s).refusal ≡ 0 → (begin_of s).machine.kind ≢ 0
      → bound_text s k ≡ bytes "no bound: the trace is not of an AIC, and no source of another controller waits\n"
  pub not_source : (s : List ℕ) (k : ℕ) → (begin_of s).refusal ≡ 0 → (begin_of s).machine.kind ≡ 0 → ((1 ≤ k) × (k ≤ 31) → ⊥)
      → bound_text s k ≡ bytes "no bound: a source that waits is a number from 1 to 31\n"
  -- a text has at most so many bytes, so a buffer of that many takes it whole
  pub most : (s : List ℕ) (k : ℕ) → length (bound_text s k) ≤ 1940334
  pub takes : (l s : List ℕ) (k : ℕ) → 1940334 ≤ length l → laid l (bound_text s k) ≡ (bound_text s k ++ drop (length (bound_text s k)) l, length (bound_text s k))
  -- ---- the figures

  -- they tell the waits over the steps played, whatever their limit; where no lines are written there are none
  pub figures : (s : List ℕ) (limit k : ℕ) → is_listed s k ≡ true → Tells k (aic_of s) (played_of s limit) (figures_in s limit k)
  pub none_else : (s : List ℕ) (limit k : ℕ) → is_listed s k ≡ false → figures_in s limit k ≡ no_figures
