-- What is promised of the signals: each has its name, width and value, the first ones tell what a listing's line does, and their bits hold the values.
use Rattle.std.specs.Prelude.{ℕ, ◌+◌, ◌<◌, ◌≤◌, ◌^◌, ◌≡◌, true, false, [], length, get_or}
use Prim.Native.String.{String}
use Rattle.words.specs.Counting.{one}
use Rattle.words.specs.Word.{bit}
use Rattle.text.specs.Phrases.{bytes}
use Rattle.vcd.specs.Dump.{heading}
use Rattle.vcd.specs.Promises.{Quiet}
use Rattle.vcd.specs.Replay.{lines_of, identifiers}
use Rattle.kinds.specs.Kinds.{is_kind, name}
use Rattle.aic_record.specs.declared.Aic.{Aic}
use Rattle.aic_record.specs.Last.{last_source, last_level}
use Rattle.aic_sources.specs.Pending.{pending, pending_word}
use Rattle.aic.specs.Model.{outputs as aic_outputs}
use Rattle.coreinterrupt.specs.Side.{raw, status}
use Rattle.coreinterrupt.specs.Model.{outputs as core_outputs}
use Rattle.cic_registers.specs.Hosts.{outputs as cic_outputs}
use Rattle.cic_indexed.specs.Model.{outputs as indexed_outputs}
use Rattle.aintc_registers.specs.Model.{outputs as aintc_outputs}
use Rattle.machine.specs.Machine.{sound}
use Rattle.machine.specs.Shown.{shown}
use Rattle.waves.specs.Signals.{Moment, signals, widths, values}

-- the kth signal of a machine has this name and width, and at this moment this value
abbrev pub Shows : Moment → ℕ → String → ℕ → ℕ → Type 0
Shows x k name width value =
    (get_or (signals x.machine.kind) k (record { name = []; width = 0 }) ≡ record { name = bytes name; width = width })
    × (get_or (widths x.machine.kind) k 0 ≡ width) × (get_or (values x) k 0 ≡ value)

-- the value of the kth signal
abbrev pub value_at : Moment → ℕ → ℕ
value_at x k = get_or (values x) k 0

-- the bits of the kth signal hold its value
abbrev pub Fits : Moment → ℕ → Type 0
Fits x k = value_at x k < 2 ^ get_or (widths x.machine.kind) k 0

pub record Promises : Type 0 where
  -- ---- what each signal is

  -- of every kind: the refusal of the step, the value read and the letter (01, House trace)
  pub every : (x : Moment) → Shows x 0 "refusal" 8 x.refusal × Shows x 1 "value" 32 x.value × Shows x 2 "step" 8 x.letter
  -- an AIC: its outputs, the entries open, the source and the level of the last, and three words with a bit for each source (01, AIC; 02, 3/12)
  pub aic : (x : Moment) → x.machine.kind ≡ 0
      → Shows x 3 "irq" 1 (one (aic_outputs x.machine.aic).irq) × Shows x 4 "fiq" 1 (one (aic_outputs x.machine.aic).fiq)
      × Shows x 5 "entries" 4 (aic_outputs x.machine.aic).entries × Shows x 6 "source" 5 (last_source x.machine.aic)
      × Shows x 7 "level" 8 (last_level x.machine.aic) × Shows x 8 "lines" 32 x.machine.aic.lines
      × Shows x 9 "pending" 32 (pending_word x.machine.aic) × Shows x 10 "enabled" 32 x.machine.aic.enabled
  -- a bit of the pending word tells whether its source is pending (01, AIC, Pending)
  pub pending_bit : (s : Aic) (k : ℕ) → k < 32 → bit (pending_word s) k ≡ pending s k
  -- a CoreInterrupt: its outputs, and raw and status of both sides (01, CoreInterrupt)
  pub core : (x : Moment) → x.machine.kind ≡ 1
      → Shows x 3 "irq" 1 (one (core_outputs x.machine.core).irq) × Shows x 4 "fiq" 1 (one (core_outputs x.machine.core).fiq)
      × Shows x 5 "irq_raw" 32 (raw x.machine.core.irq) × Shows x 6 "irq_status" 32 (status x.machine.core.irq)
      × Shows x 7 "fiq_raw" 8 (raw x.machine.core.fiq) × Shows x 8 "fiq_status" 8 (status x.machine.core.fiq)
  -- a CIC: how many hosts are asserted, and the lowest of them, 256 where none is (01, CIC)
  pub cic : (x : Moment) → x.machine.kind ≡ 2
      → Shows x 3 "hosts" 9 (cic_outputs x.machine.cic).hosts × Shows x 4 "lowest" 9 (cic_outputs x.machine.cic).lowest
  -- an AINTC: its outputs, and for each the input that is chosen with its priority (02, 2/12)
  pub aintc : (x : Moment) → x.machine.kind ≡ 3
      → Shows x 3 "irq" 1 (one (aintc_outputs x.machine.aintc).irq) × Shows x 4 "fiq" 1 (one (aintc_outputs x.machine.aintc).fiq)
      × Shows x 5 "irq_number" 7 x.machine.aintc.irq.number × Shows x 6 "irq_priority" 7 x.machine.aintc.irq.priority
      × Shows x 7 "fiq_number" 7 x.machine.aintc.fiq.number × Shows x 8 "fiq_priority" 7 x.machine.aintc.fiq.priority
  -- a CIC with prioritised indices: those of a CIC (02, 6/12)
  pub indexed : (x : Moment) → x.machine.kind ≡ 4
      → Shows x 3 "hosts" 9 (indexed_outputs (record { cic = x.machine.cic; held = x.machine.held })).hosts
      × Shows x 4 "lowest" 9 (indexed_outputs (record { cic = x.machine.cic; held = x.machine.held })).lowest
  -- there is no other: so many has each kind, and a number that is no kind those of every kind
  pub many : (length (signals 0) ≡ 11) × (length (signals 1) ≡ 9) × (length (signals 2) ≡ 5) × (length (signals 3) ≡ 9) × (length (signals 4) ≡ 5)
  pub many_none : (kind : ℕ) → is_kind kind ≡ false → length (signals kind) ≡ 3
  pub few : (kind : ℕ) → length (signals kind) ≤ 11
  -- and as many widths and values
  pub widths_many : (kind : ℕ) → length (widths kind) ≡ length (signals kind)
  pub values_many : (x : Moment) → length (values x) ≡ length (signals x.machine.kind)
  -- ---- the heading of each kind

  -- it says nothing of values, and declares each identifier once, from ! on (IEEE 1364-2005, 18.2)
  pub quiet : (kind : ℕ) → is_kind kind ≡ true → Quiet (heading (name kind) (signals kind))
  pub declares : (kind : ℕ) → is_kind kind ≡ true
      → (length (identifiers (lines_of (heading (name kind) (signals kind)))) ≡ length (signals kind))
      × ((k : ℕ) → k < length (signals kind) → get_or (identifiers (lines_of (heading (name kind) (signals kind)))) k 0 ≡ 33 + k)
  -- it is at most so long
  pub heading_most : (kind : ℕ) → is_kind kind ≡ true → length (heading (name kind) (signals kind)) ≤ 454
  -- ---- the numbers of a listing's line

  -- its last three are signals 3, 4 and 5 of an AIC and of a sound AINTC, and 3 and 4 of the others (01, House trace; 02, 2/12)
  pub aic_line : (x : Moment) → x.machine.kind ≡ 0
      → (value_at x 3 ≡ (shown x.machine).first) × (value_at x 4 ≡ (shown x.machine).second) × (value_at x 5 ≡ (shown x.machine).third)
  pub core_line : (x : Moment) → x.machine.kind ≡ 1 → (value_at x 3 ≡ (shown x.machine).first) × (value_at x 4 ≡ (shown x.machine).second)
  pub cic_line : (x : Moment) → x.machine.kind ≡ 2 → (value_at x 3 ≡ (shown x.machine).first) × (value_at x 4 ≡ (shown x.machine).second)
  pub aintc_line : (x : Moment) → x.machine.kind ≡ 3 → sound x.machine ≡ true
      → (value_at x 3 ≡ (shown x.machine).first) × (value_at x 4 ≡ (shown x.machine).second) × (value_at x 5 ≡ (shown x.machine).third)
  pub indexed_line : (x : Moment) → x.machine.kind ≡ 4 → (value_at x 3 ≡ (shown x.machine).first) × (value_at x 4 ≡ (shown x.machine).second)
  -- ---- values that their bits hold, of a sound machine

  -- of an AIC all but the two words that the record holds as they are, which are words of 32 bits in the code
  pub aic_fits : (x : Moment) → x.machine.kind ≡ 0 → sound x.machine ≡ true → Fits x 3 × Fits x 4 × Fits x 5 × Fits x 6 × Fits x 7 × Fits x 9
  pub core_fits : (x : Moment) → x.machine.kind ≡ 1 → sound x.machine ≡ true → Fits x 3 × Fits x 4 × Fits x 5 × Fits x 6 × Fits x 7 × Fits x 8
  pub cic_fits : (x : Moment) → x.machine.kind ≡ 2 → sound x.machine ≡ true → Fits x 3 × Fits x 4
  pub aintc_fits : (x : Moment) → x.machine.kind ≡ 3 → sound x.machine ≡ true → Fits x 3 × Fits x 4 × Fits x 5 × Fits x 6 × Fits x 7 × Fits x 8
  pub indexed_fits : (x : Moment) → x.machine.kind ≡ 4 → sound x.machine ≡ true → Fits x 3 × Fits x 4
