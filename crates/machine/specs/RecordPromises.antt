-- What is promised of a machine before its steps: it starts, is sound and shows as the model of its kind does.
use Rattle.std.specs.Prelude.{ℕ, ◌≤◌, ◌≡◌, Bool, true, false, List, [], ◌∷◌, ◌↔◌, length, get_or, replicate}
use Rattle.aic_record.specs.Promises.{Shaped as AicShaped}
use Rattle.aic_record.specs.Sound.{sound as aic_sound}
use Rattle.aic.specs.Model.{start as aic_start, outputs as aic_outputs}
use Rattle.coreinterrupt.specs.Model.{start as core_start, sound as core_sound, outputs as core_outputs}
use Rattle.cic_record.specs.Sound.{sound as cic_sound}
use Rattle.cic_record.specs.Start.{start as cic_start}
use Rattle.cic_registers.specs.Hosts.{outputs as cic_outputs}
use Rattle.cic_held.specs.Held.{start as indexed_start, sound as indexed_sound}
use Rattle.cic_indexed.specs.Model.{outputs as indexed_outputs}
use Rattle.aintc_registers.specs.Settle.{sound as aintc_sound}
use Rattle.aintc_registers.specs.Model.{start as aintc_start, outputs as aintc_outputs}
use Rattle.kinds.specs.declared.Configuration.{Configuration}
use Rattle.kinds.specs.Configuration.{no_numbers, filled}
use Rattle.kinds.specs.Kinds.{is_kind, wanted}
use Rattle.kinds.specs.Promises.{Within}
use Rattle.machine.specs.declared.record.Columns.{Columns}
use Rattle.machine.specs.declared.record.Machine.{Machine}
use Rattle.machine.specs.Machine.{blank, start, sound}
use Rattle.machine.specs.Shown.{shown}

-- the machine that starts from these numbers
abbrev pub start_with : ℕ → List ℕ → Machine
start_with kind ns = start kind (filled no_numbers 0 ns)

-- the arrays of a machine have their lengths, as those of every machine in the code do
abbrev pub Shaped : Machine → Type 0
Shaped m = AicShaped m.aic

-- a machine whose steps are all carried out or refused as its model says, never by 12
abbrev pub Ready : Machine → Type 0
Ready m = (sound m ≡ true) × Shaped m

-- a number is 1 exactly if an output is active, and 0 exactly if it is not
abbrev pub Tells : ℕ → Bool → Type 0
Tells n active = ((n ≡ 1) ↔ (active ≡ true)) × ((n ≡ 0) ↔ (active ≡ false))

-- none of the three numbers is over 256
abbrev pub Small : Columns → Type 0
Small c = (c.first ≤ 256) × (c.second ≤ 256) × (c.third ≤ 256)

pub record Promises : Type 0 where
  -- ---- before a start

  -- every number of the machine is 0 (01, House trace; Numbers)
  pub blank_kind : blank.kind ≡ 0
  pub blank_aic : blank.aic
      ≡ record { external = 0; lines = 0; enabled = 0; memory = 0; forced = 0; spurious = 0; debug = 0; mode = replicate 32 0; vector = replicate 32 0; source = replicate 8 0; level = replicate 8 0; depth = 0; seen = record { what = 0; source = 0; level = 0; vector = 0 } }
  pub blank_fiq : blank.core.fiq ≡ record { count = 0; level = 0; inputs = 0; soft = 0; enable = 0 }
  pub blank_irq : blank.core.irq ≡ record { count = 0; level = 0; inputs = 0; soft = 0; enable = 0 }
  pub blank_cic : blank.cic
      ≡ record { systems = 0; channels = 0; hosts = 0; revision = 0; global = 0; lines = replicate 32 0; status = replicate 32 0; enable = replicate 32 0; channel = replicate 1024 0; host = replicate 256 0; allow = replicate 8 0 }
  pub blank_aintc : blank.aintc
      ≡ record { lines = replicate 4 0; soft = replicate 4 0; masks = replicate 4 0; routes = replicate 128 0; threshold = 0; revision = 0; guarded = false; autoidle = false; turbo = false; funcidle = false; irq = record { active = false; number = 0; priority = 0 }; fiq = record { active = false; number = 0; priority = 0 } }
  pub blank_held : blank.held ≡ record { choice = 0; hold = 0; global = 0; host = replicate 256 0 }
  -- ---- start

  -- a start is that of the model, with the numbers in their order; the records of the other kinds are all 0 (01, House trace)
  pub aic_starts : (c : Configuration)
      → start 0 c ≡ record { kind = 0; aic = (aic_start (get_or c.numbers 0 0) (get_or c.numbers 1 0)).aic; core = blank.core; cic = blank.cic; aintc = blank.aintc; held = blank.held }
  pub core_starts : (c : Configuration)
      → start 1 c
      ≡ record { kind = 1; aic = blank.aic; core = (core_start (get_or c.numbers 0 0) (get_or c.numbers 1 0) (get_or c.numbers 2 0) (get_or c.numbers 3 0)).core; cic = blank.cic; aintc = blank.aintc; held = blank.held }
  pub cic_starts : (c : Configuration)
      → start 2 c
      ≡ record { kind = 2; aic = blank.aic; core = blank.core; cic = (cic_start (get_or c.numbers 0 0) (get_or c.numbers 1 0) (get_or c.numbers 2 0) (get_or c.numbers 3 0)).cic; aintc = blank.aintc; held = blank.held }
  -- that of an AINTC asks for no number (02, 2/12)
  pub aintc_starts : (c : Configuration) → start 3 c ≡ record { kind = 3; aic = blank.aic; core = blank.core; cic = blank.cic; aintc = aintc_start.aintc; held = blank.held }
  -- that of a CIC with prioritised indices asks for a fifth number, the choice, and gives both its parts (02, 6/12)
  pub indexed_starts : (c : Configuration)
      → start 4 c
      ≡ record { kind = 4; aic = blank.aic; core = blank.core; cic = (indexed_start (get_or c.numbers 0 0) (get_or c.numbers 1 0) (get_or c.numbers 2 0) (get_or c.numbers 3 0) (get_or c.numbers 4 0)).prioritised.cic; aintc = blank.aintc; held = (indexed_start (get_or c.numbers 0 0) (get_or c.numbers 1 0) (get_or c.numbers 2 0) (get_or c.numbers 3 0) (get_or c.numbers 4 0)).prioritised.held }
  pub no_starts : (kind : ℕ) (c : Configuration) → is_kind kind ≡ false → start kind c ≡ blank
  -- the same of a list of numbers (01, House trace)
  pub aic_from : (a b : ℕ) → start_with 0 (a ∷ b ∷ []) ≡ record { kind = 0; aic = (aic_start a b).aic; core = blank.core; cic = blank.cic; aintc = blank.aintc; held = blank.held }
  pub core_from : (a b c d : ℕ)
      → start_with 1 (a ∷ b ∷ c ∷ d ∷ []) ≡ record { kind = 1; aic = blank.aic; core = (core_start a b c d).core; cic = blank.cic; aintc = blank.aintc; held = blank.held }
  pub cic_from : (a b c d : ℕ)
      → start_with 2 (a ∷ b ∷ c ∷ d ∷ []) ≡ record { kind = 2; aic = blank.aic; core = blank.core; cic = (cic_start a b c d).cic; aintc = blank.aintc; held = blank.held }
  pub aintc_from : start_with 3 [] ≡ record { kind = 3; aic = blank.aic; core = blank.core; cic = blank.cic; aintc = aintc_start.aintc; held = blank.held }
  pub indexed_from : (a b c d e : ℕ)
      → start_with 4 (a ∷ b ∷ c ∷ d ∷ e ∷ [])
      ≡ record { kind = 4; aic = blank.aic; core = blank.core; cic = (indexed_start a b c d e).prioritised.cic; aintc = blank.aintc; held = (indexed_start a b c d e).prioritised.held }
  -- the start of numbers within their limits is sound (01, Numbers, 12)
  pub start_ready : (kind : ℕ) (ns : List ℕ) → is_kind kind ≡ true → length ns ≡ wanted kind → Within kind 0 ns → Ready (start_with kind ns)
  -- ---- soundness

  -- a machine is sound exactly if the record of its kind is; one of no kind is not (01, Numbers, 12)
  pub aic_sound_is : (m : Machine) → m.kind ≡ 0 → sound m ≡ aic_sound m.aic
  pub core_sound_is : (m : Machine) → m.kind ≡ 1 → sound m ≡ core_sound m.core
  pub cic_sound_is : (m : Machine) → m.kind ≡ 2 → sound m ≡ cic_sound m.cic
  pub aintc_sound_is : (m : Machine) → m.kind ≡ 3 → sound m ≡ aintc_sound m.aintc
  pub indexed_sound_is : (m : Machine) → m.kind ≡ 4 → sound m ≡ indexed_sound (record { cic = m.cic; held = m.held })
  pub none_sound : (m : Machine) → is_kind m.kind ≡ false → sound m ≡ false
  -- ---- what is shown

  -- an AIC: IRQ active, FIQ active, entries open (01, House trace; 02, 3/12)
  pub aic_shows : (m : Machine) → m.kind ≡ 0
      → Tells (shown m).first (aic_outputs m.aic).irq × Tells (shown m).second (aic_outputs m.aic).fiq × ((shown m).third ≡ (aic_outputs m.aic).entries)
  -- a CoreInterrupt: IRQ active, FIQ active, 0 (01, House trace)
  pub core_shows : (m : Machine) → m.kind ≡ 1
      → Tells (shown m).first (core_outputs m.core).irq × Tells (shown m).second (core_outputs m.core).fiq × ((shown m).third ≡ 0)
  -- a CIC: asserted hosts, the lowest of them or 256, 0 (01, House trace)
  pub cic_shows : (m : Machine) → m.kind ≡ 2
      → ((shown m).first ≡ (cic_outputs m.cic).hosts) × ((shown m).second ≡ (cic_outputs m.cic).lowest) × ((shown m).third ≡ 0)
  -- an AINTC: IRQ active, FIQ active, the number of the input that is active for IRQ, 0 with none (02, 2/12)
  pub aintc_shows : (m : Machine) → m.kind ≡ 3
      → Tells (shown m).first (aintc_outputs m.aintc).irq × Tells (shown m).second (aintc_outputs m.aintc).fiq × ((shown m).third ≡ (aintc_outputs m.aintc).number)
  -- a CIC with prioritised indices: what a CIC shows (02, 6/12)
  pub indexed_shows : (m : Machine) → m.kind ≡ 4
      → ((shown m).first ≡ (indexed_outputs (record { cic = m.cic; held = m.held })).hosts)
      × ((shown m).second ≡ (indexed_outputs (record { cic = m.cic; held = m.held })).lowest) × ((shown m).third ≡ 0)
  -- whatever is held (02, 6/12)
  pub indexed_shows_cic : (m : Machine) → m.kind ≡ 4 → sound m ≡ true
      → ((shown m).first ≡ (cic_outputs m.cic).hosts) × ((shown m).second ≡ (cic_outputs m.cic).lowest) × ((shown m).third ≡ 0)
  -- a machine that is not sound, so one of no kind too: three zeros (01, Numbers, 12)
  pub shown_unsound : (m : Machine) → sound m ≡ false → shown m ≡ record { first = 0; second = 0; third = 0 }
  -- of a sound machine none of them is over 256, the number that stands for no asserted host (01, House trace)
  pub shown_small : (m : Machine) → sound m ≡ true → Small (shown m)
