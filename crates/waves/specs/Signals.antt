-- What a wave shows after each step: for each kind of controller one table of name, width in bits and value.
use Rattle.std.specs.Prelude.{ℕ, ◌-◌, List, [], ◌∷◌, ◌++◌, map, length, replicate}
use Prim.Native.String.{String}
use Rattle.words.specs.Counting.{one}
use Rattle.text.specs.Phrases.{bytes}
use Rattle.vcd.specs.Dump.{Signal}
use Rattle.kinds.specs.Kinds.{by_kind}
use Rattle.aic_record.specs.Last.{last_source, last_level}
use Rattle.aic_sources.specs.Pending.{pending_word}
use Rattle.aic.specs.Model.{outputs as aic_outputs}
use Rattle.coreinterrupt.specs.Side.{raw, status}
use Rattle.coreinterrupt.specs.Model.{outputs as core_outputs}
use Rattle.cic_registers.specs.Hosts.{outputs as cic_outputs}
use Rattle.cic_indexed.specs.Model.{outputs as indexed_outputs}
use Rattle.aintc_registers.specs.Model.{outputs as aintc_outputs}
use Rattle.machine.specs.declared.record.Machine.{Machine}
use Rattle.machine.specs.Machine.{indexed}

-- what is known after a step: its refusal (0 for none), the value read, its letter in a listing, and the machine
pub record Moment : Type 0 where
  pub refusal : ℕ
  pub value : ℕ
  pub letter : ℕ
  pub machine : Machine

abbrev pub moment : ℕ → ℕ → ℕ → Machine → Moment
moment refusal value letter m = record { refusal = refusal; value = value; letter = letter; machine = m }

-- a row of a table
pub record Row : Type 0 where
  pub name : List ℕ
  pub width : ℕ
  pub value : Moment → ℕ

abbrev pub row : String → ℕ → (Moment → ℕ) → Row
row name width value = record { name = bytes name; width = width; value = value }

-- ---- the tables

-- of every kind: the number by which the step is refused, the value read, and R, W, L or X in ASCII, 0 before the first step (01, House trace)
abbrev pub of_every : List Row
of_every = row "refusal" 8 (λ x. x.refusal) ∷ row "value" 32 (λ x. x.value) ∷ row "step" 8 (λ x. x.letter) ∷ []

-- an AIC: its outputs, how many entries are open, the source and the level of the last one, and three words with a bit for each source (01, AIC)
abbrev pub of_aic : List Row
of_aic =
    row "irq" 1 (λ x. one (aic_outputs x.machine.aic).irq) ∷ row "fiq" 1 (λ x. one (aic_outputs x.machine.aic).fiq)
    ∷ row "entries" 4 (λ x. (aic_outputs x.machine.aic).entries)
    ∷ row "source" 5 (λ x. last_source x.machine.aic) ∷ row "level" 8 (λ x. last_level x.machine.aic)
    ∷ row "lines" 32 (λ x. x.machine.aic.lines) ∷ row "pending" 32 (λ x. pending_word x.machine.aic) ∷ row "enabled" 32 (λ x. x.machine.aic.enabled)
    ∷ []

-- a CoreInterrupt: its outputs, and raw and status of both sides, with a bit for each source (01, CoreInterrupt; 004)
abbrev pub of_core : List Row
of_core =
    row "irq" 1 (λ x. one (core_outputs x.machine.core).irq) ∷ row "fiq" 1 (λ x. one (core_outputs x.machine.core).fiq)
    ∷ row "irq_raw" 32 (λ x. raw x.machine.core.irq) ∷ row "irq_status" 32 (λ x. status x.machine.core.irq)
    ∷ row "fiq_raw" 8 (λ x. raw x.machine.core.fiq) ∷ row "fiq_status" 8 (λ x. status x.machine.core.fiq)
    ∷ []

-- a CIC: how many hosts are asserted, and the number of the lowest, 256 where none is (01, CIC)
abbrev pub of_cic : List Row
of_cic = row "hosts" 9 (λ x. (cic_outputs x.machine.cic).hosts) ∷ row "lowest" 9 (λ x. (cic_outputs x.machine.cic).lowest) ∷ []

-- the same with prioritised indices (02, 6/12)
abbrev pub of_indexed : List Row
of_indexed =
    row "hosts" 9 (λ x. (indexed_outputs (indexed x.machine)).hosts) ∷ row "lowest" 9 (λ x. (indexed_outputs (indexed x.machine)).lowest) ∷ []

-- an AINTC: its outputs, and for each the input that is chosen with its priority, 0 and 0 where none is (02, 2/12; 000, 4.3)
abbrev pub of_aintc : List Row
of_aintc =
    row "irq" 1 (λ x. one (aintc_outputs x.machine.aintc).irq) ∷ row "fiq" 1 (λ x. one (aintc_outputs x.machine.aintc).fiq)
    ∷ row "irq_number" 7 (λ x. x.machine.aintc.irq.number) ∷ row "irq_priority" 7 (λ x. x.machine.aintc.irq.priority)
    ∷ row "fiq_number" 7 (λ x. x.machine.aintc.fiq.number) ∷ row "fiq_priority" 7 (λ x. x.machine.aintc.fiq.priority)
    ∷ []

-- what a kind has beside those of every kind
unfoldable pub own_rows : ℕ → List Row
own_rows kind = by_kind kind (record { aic = of_aic; core = of_core; cic = of_cic; aintc = of_aintc; indexed = of_indexed; none = [] })

-- all of it
unfoldable pub rows : ℕ → List Row
rows kind = of_every ++ own_rows kind

-- ---- its columns

-- what is declared of each signal
abbrev pub declared_of : List Row → List Signal
declared_of rs = map (λ (r : Row). record { name = r.name; width = r.width }) rs

unfoldable pub signals : ℕ → List Signal
signals kind = declared_of (rows kind)

-- how many bits each has
unfoldable pub widths : ℕ → List ℕ
widths kind = map (λ (r : Row). r.width) (rows kind)

-- the values of a moment
unfoldable pub values : Moment → List ℕ
values x = map (λ (r : Row). r.value x) (rows x.machine.kind)

-- a list in a table of eleven places, the most that a kind has
abbrev pub eleven : List ℕ → List ℕ
eleven l = l ++ replicate (11 - length l) 0
