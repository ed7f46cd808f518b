-- What is promised of the waves of a trace: read back they give every value after every step, they tell what the listing tells, and they are at most so long.
use Rattle.std.specs.Prelude.{ℕ, suc, ◌+◌, ◌*◌, ◌^◌, ◌<◌, ◌≤◌, ◌≡◌, true, List, [], ◌∷◌, ◌++◌, map, ◌≢◌, length, get_or, drop}
use Rattle.steps.specs.declared.Recorded.{Recorded}
use Rattle.text.specs.Text.{field, laid}
use Rattle.text.specs.Phrases.{bytes}
use Rattle.vcd.specs.Dump.{heading, ticks}
use Rattle.vcd.specs.Promises.{held}
use Rattle.vcd.specs.Replay.{replay}
use Rattle.kinds.specs.Kinds.{name}
use Rattle.machine.specs.declared.record.Machine.{Machine}
use Rattle.machine.specs.Machine.{sound}
use Rattle.machine.specs.declared.Answer.{Answer}
use Rattle.machine.specs.Steps.{step}
use Rattle.beginning.specs.Begin.{begin_of}
use Rattle.beginning.specs.Play.{records_of, run_of, play_of}
use Rattle.lines.specs.Listing.{letter, shown_value, line_of, step_line}
use Rattle.waves.specs.SignalsPromises.{value_at, Fits}
use Rattle.waves.specs.Signals.{Moment, signals, widths, values}
use Rattle.waves.specs.Moments.{at_start, after, moments_from}
use Rattle.waves.specs.Waves.{waves_of}

-- the machine that a trace begins with, and the widths of its signals
abbrev pub first : List ℕ → Machine
first s = (begin_of s).machine

abbrev pub widths_of : List ℕ → List ℕ
widths_of s = widths (first s).kind

-- the moments of a trace of which at most so many steps are played: that after the start, and that after each step
abbrev pub moments : List ℕ → ℕ → List Moment
moments s limit = at_start (first s) ∷ moments_from (first s) (records_of s limit).steps

-- its waves, read back as any reader of a value change dump does: the values of every tick
abbrev pub read_back : List ℕ → ℕ → List (List ℕ)
read_back s limit = replay (length (widths_of s)) (waves_of s limit)

-- the line of step n by the values of its tick: signal 2 is its letter, 0 or 1 its eight digits, 3 and 4 the first two numbers
abbrev pub tick_line : ℕ → Moment → ℕ → List ℕ
tick_line n x third =
    line_of n (value_at x 2) (shown_value (value_at x 0) (value_at x 1)) (record { first = value_at x 3; second = value_at x 4; third = third })

-- ---- a trace and its waves, byte by byte

-- an AIC: a mode, a vector, an enable, a rising line, a vector read, a read at no multiple of 4, and a read that is cut short (01, House trace)
abbrev pub aic_trace : List ℕ
aic_trace = 0 ∷ 0 ∷ 0 ∷ 2 ∷ 20 ∷ 35 ∷ 2 ∷ 148 ∷ 1 ∷ 160 ∷ 1 ∷ 2 ∷ 160 ∷ 2 ∷ 32 ∷ 3 ∷ 5 ∷ 1 ∷ 1 ∷ 128 ∷ 2 ∷ 1 ∷ 2 ∷ 1 ∷ []

-- six ticks after tick 0, of which the second changes nothing, and E 8 24
abbrev pub aic_waves : List ℕ
aic_waves =
    bytes "$comment one tick is one step of the trace, refused steps counted; tick 0 is the start $end\n$timescale 1 ns $end\n$scope module AIC\n$end\n"
    ++ bytes "$var wire 8 ! refusal $end\n$var wire 32 \" value $end\n$var wire 8 # step $end\n$var wire 1 $ irq $end\n$var wire 1 % fiq $end\n"
    ++ bytes "$var wire 4 & entries $end\n$var wire 5 ' source $end\n$var wire 8 ( level $end\n"
    ++ bytes "$var wire 32 ) lines $end\n$var wire 32 * pending $end\n$var wire 32 + enabled $end\n$upscope $end\n$enddefinitions $end\n"
    ++ bytes "#0\n$dumpvars\nb0 !\nb0 \"\nb0 #\n0$\n0%\nb0 &\nb0 '\nb11111111 (\nb0 )\nb0 *\nb0 +\n$end\n"
    ++ bytes "#1\nb1010111 #\n#2\n#3\nb100000 +\n#4\nb1001100 #\n1$\nb100000 )\nb100000 *\n"
    ++ bytes "#5\nb10100000 \"\nb1010010 #\n0$\nb1 &\nb101 '\nb11 (\nb0 *\n#6\nb1 !\nb0 \"\nb1011000 #\n$comment E 8 24 $end\n"

pub record Promises : Type 0 where
  -- ---- the whole

  -- once a configuration is accepted waves are the heading of the kind, a tick for the start and each step, and how the play ended
  pub begun : (s : List ℕ) (limit : ℕ) → (begin_of s).refusal ≡ 0
      → waves_of s limit
      ≡ heading (name (first s).kind) (signals (first s).kind)
      ++ ticks (widths_of s) (values (at_start (first s))) (map values (moments_from (first s) (records_of s limit).steps)) (play_of s limit).refusal (play_of s limit).offset
  -- before that nothing is declared, and the refusal is told with its offset
  pub not_begun : (s : List ℕ) (limit : ℕ) → (begin_of s).refusal ≢ 0
      → waves_of s limit
      ≡ bytes "$comment one tick is one step of the trace, refused steps counted; tick 0 is the start $end\n$timescale 1 ns $end\n$enddefinitions $end\n$comment E"
      ++ field (begin_of s).refusal ++ field (begin_of s).place ++ bytes " $end\n"
  -- ---- read back

  -- nothing is lost: at each tick the waves give every value of its moment, as far as the bits of the signal hold it
  pub reads : (s : List ℕ) (limit : ℕ) → (begin_of s).refusal ≡ 0 → read_back s limit ≡ map (λ (x : Moment). held (widths_of s) (values x)) (moments s limit)
  -- a tick for the start and one for each step that the player plays, refused steps counted
  pub ticks_many : (s : List ℕ) (limit : ℕ) → (begin_of s).refusal ≡ 0 → length (read_back s limit) ≡ suc (play_of s limit).steps
  -- tick 0 is the start
  pub tick_of_start : (s : List ℕ) (limit : ℕ) → (begin_of s).refusal ≡ 0 → get_or (read_back s limit) 0 [] ≡ held (widths_of s) (values (at_start (first s)))
  -- the tick of a step record that comes after some others bears the number after theirs, from 1 on, and gives the values after what the machine
  -- answers that these have made of the first one
  pub tick_of_step : (s : List ℕ) (limit : ℕ) (before : List Recorded) (x : Recorded) (rest : List Recorded) → (begin_of s).refusal ≡ 0
      → (records_of s limit).steps ≡ before ++ (x ∷ rest)
      → get_or (read_back s limit) (length before + 1) [] ≡ held (widths_of s) (values (after x (step (run_of (first s) before) x)))
  -- the machine stays of its kind, so these are the widths of its signals
  pub kind_stays : (m : Machine) (before : List Recorded) (x : Recorded) → (after x (step (run_of m before) x)).machine.kind ≡ m.kind
  -- a value that the bits of its signal hold is given as it is; the letter of a step is one
  pub exact : (ws now : List ℕ) (k : ℕ) → k < length ws → get_or now k 0 < 2 ^ get_or ws k 0 → get_or (held ws now) k 0 ≡ get_or now k 0
  pub letter_fits : (x : Recorded) (a : Answer) → Fits (after x a) 2
  -- so is the number by which a step is refused (01, Numbers)
  pub refusal_fits : (m : Machine) (x : Recorded) → (step m x).refusal < 2 ^ 8
  -- the moment of the start has no refusal, value or letter; that after a step has those that the machine answered and the letter of the listing's line,
  -- and each has the machine as it is then (01, House trace)
  pub moment_of_start : (m : Machine) → at_start m ≡ record { refusal = 0; value = 0; letter = 0; machine = m }
  pub moment_of_step : (x : Recorded) (a : Answer) → after x a ≡ record { refusal = a.refusal; value = a.value; letter = letter x.step a.refusal; machine = a.machine }
  -- ---- beside the listing

  -- what the listing's line of a step tells is in its tick: of an AIC and of a sound AINTC the third of its last numbers is signal 5, of the others 0
  -- (01, House trace; 02, 2/12)
  pub aic_line : (n : ℕ) (x : Recorded) (a : Answer) → a.machine.kind ≡ 0 → step_line n x.step a ≡ tick_line n (after x a) (value_at (after x a) 5)
  pub core_line : (n : ℕ) (x : Recorded) (a : Answer) → a.machine.kind ≡ 1 → step_line n x.step a ≡ tick_line n (after x a) 0
  pub cic_line : (n : ℕ) (x : Recorded) (a : Answer) → a.machine.kind ≡ 2 → step_line n x.step a ≡ tick_line n (after x a) 0
  pub aintc_line : (n : ℕ) (x : Recorded) (a : Answer) → a.machine.kind ≡ 3 → sound a.machine ≡ true
      → step_line n x.step a ≡ tick_line n (after x a) (value_at (after x a) 5)
  pub indexed_line : (n : ℕ) (x : Recorded) (a : Answer) → a.machine.kind ≡ 4 → step_line n x.step a ≡ tick_line n (after x a) 0
  -- ---- the buffer

  -- waves of steps whose numbers have at most d digits are at most so long
  pub bounded : (s : List ℕ) (limit d : ℕ) → 0 < d → limit < 10 ^ d → length (waves_of s limit) ≤ (d + 209) * limit + 737
  -- in a buffer that is long enough stands the whole of them, and the rest is as it was
  pub fits : (s l : List ℕ) (limit : ℕ) → length (waves_of s limit) ≤ length l
      → laid l (waves_of s limit) ≡ (waves_of s limit ++ drop (length (waves_of s limit)) l, length (waves_of s limit))
  -- ---- worked out

  pub worked : waves_of aic_trace 20000 ≡ aic_waves
