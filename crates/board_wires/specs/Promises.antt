-- What is promised of the wires of a board: what each input carries, and which outputs are active (02, 8/12).
use Rattle.std.specs.Prelude.{ℕ, ◌+◌, ◌*◌, ◌^◌, ◌<◌, ◌≤◌, ◌≡◌, Bool, true, false, ◌&&◌, ◌↔◌, ◌⊎◌, ◌≢◌, ltb, get_or}
use Rattle.words.specs.Choice.{pick}
use Rattle.words.specs.Word.{bit}
use Rattle.coreinterrupt.specs.declared.sides.Side.{Side}
use Rattle.coreinterrupt.specs.Side.{with_inputs, active}
use Rattle.coreinterrupt.specs.Model.{sound}
use Rattle.board_wires.specs.declared.Board.{Board}
use Rattle.board_wires.specs.declared.Wire.TheVariants.{Nothing, Pin, Irq, Fiq}
use Rattle.board_wires.specs.Wires.{wire_of, wire_number, wire_at, pin_of, core_at, activity, input_value, wired_core}
use Rattle.board_wires.specs.Pair.{values, activities}
use Rattle.board_wires.specs.Chain.{chain}

-- of a side whose input k has value `high k`, there is a source within the count, its input high or its soft bit set, that is enabled
abbrev pub Raised : Side → (ℕ → Bool) → Type 0
Raised s high = (k : ℕ) × (k < s.count) × ((high k ≡ true) ⊎ (bit s.soft k ≡ true)) × (bit s.enable k ≡ true)

-- the boards are alike but for the wires of unused inputs: those from the count of their side on
pub record Alike (x y : Board) : Type 0 where
  pub pins : x.pin ≡ y.pin
  pub cores : x.core ≡ y.core
  pub irqs : (c k : ℕ) → k < (core_at x c).irq.count → wire_at x c k ≡ wire_at y c k
  pub fiqs : (c k : ℕ) → k < (core_at x c).fiq.count → wire_at x c (32 + k) ≡ wire_at y c (32 + k)

-- some input of controller c, used or not, is wired to an output of controller d
abbrev pub Wired : Board → ℕ → ℕ → Type 0
Wired b c d = (i : ℕ) × (i < 40) × ((wire_at b c i ≡ Irq d) ⊎ (wire_at b c i ≡ Fiq d))

pub record Promises : Type 0 where
  -- ---- the record
  -- the number of each wire: 0 nothing, 1 + p pin p, 321 + d the IRQ of controller d, 329 + d its FIQ (02, 8/12)
  pub number_nothing : (wire_of 0 ≡ Nothing) × (wire_number Nothing ≡ 0)
  pub number_pin : (p : ℕ) → p < 320 → (wire_of (1 + p) ≡ Pin p) × (wire_number (Pin p) ≡ 1 + p)
  pub number_irq : (d : ℕ) → d < 8 → (wire_of (321 + d) ≡ Irq d) × (wire_number (Irq d) ≡ 321 + d)
  pub number_fiq : (d : ℕ) → d < 8 → (wire_of (329 + d) ≡ Fiq d) × (wire_number (Fiq d) ≡ 329 + d)
  -- any other number is nothing, and so is the number of a pin or a controller that no board has (02, 8/12)
  pub number_else : (w : ℕ) → 337 ≤ w → wire_of w ≡ Nothing
  pub pin_else : (p : ℕ) → 320 ≤ p → wire_number (Pin p) ≡ 0
  pub output_else : (d : ℕ) → 8 ≤ d → (wire_number (Irq d) ≡ 0) × (wire_number (Fiq d) ≡ 0)
  -- each number below 337 is that of its wire
  pub number_back : (w : ℕ) → w < 337 → wire_number (wire_of w) ≡ w
  -- input i of controller c is at 40 * c + i; beyond the 8 controllers or the 40 inputs there is nothing (02, 8/12)
  pub wire_is : (b : Board) (c i : ℕ) → c < 8 → i < 40 → wire_at b c i ≡ wire_of (get_or b.wire (40 * c + i) 0)
  pub wire_else : (b : Board) (c i : ℕ) → (8 ≤ c) ⊎ (40 ≤ i) → wire_at b c i ≡ Nothing
  -- a pin is high exactly if it is one of the 320 and its byte is 1 (02, 8/12)
  pub pin_is : (b : Board) (p : ℕ) → (pin_of b p ≡ true) ↔ ((p < 320) × (get_or b.pin p 0 ≡ 1))
  -- a controller of the 8 is the one in the record, any other has no sources and zeros (02, 8/12)
  pub core_is : (b : Board) (c : ℕ) → c < 8 → core_at b c ≡ get_or b.core c (core_at b 8)
  pub core_else : (b : Board) (c : ℕ) → 8 ≤ c
      → core_at b c
      ≡ record {
        fiq = record { count = 0; level = 0; inputs = 0; soft = 0; enable = 0 };
        irq = record { count = 0; level = 0; inputs = 0; soft = 0; enable = 0 };
      }
  -- ---- the value of an input, by its wire
  -- wired to nothing it is low (02, 8/12)
  pub value_nothing : (b : Board) (c i : ℕ) → wire_at b c i ≡ Nothing → input_value b c i ≡ false
  -- wired to a pin it has the pin's level (02, 8/12)
  pub value_pin : (b : Board) (c i p : ℕ) → wire_at b c i ≡ Pin p → input_value b c i ≡ pin_of b p
  -- wired to an output it is high exactly if that is of a lower number and active (02, 8/12)
  pub value_irq : (b : Board) (c i d : ℕ) → wire_at b c i ≡ Irq d → (input_value b c i ≡ true) ↔ ((d < c) × (activity b d false ≡ true))
  pub value_fiq : (b : Board) (c i d : ℕ) → wire_at b c i ≡ Fiq d → (input_value b c i ≡ true) ↔ ((d < c) × (activity b d true ≡ true))
  -- ---- a controller with the wired values as its lines
  -- only its lines differ from the record's: line k of a side, if within the count, is the value of its input, any other as it was (02, 8/12, demand 2)
  pub irq_lines : (b : Board) (c : ℕ) → (wired_core b c).irq ≡ with_inputs (core_at b c).irq (wired_core b c).irq.inputs
  pub irq_line : (b : Board) (c k : ℕ) → k < 32
      → bit (wired_core b c).irq.inputs k ≡ pick (ltb k (core_at b c).irq.count) (input_value b c k) (bit (core_at b c).irq.inputs k)
  pub fiq_lines : (b : Board) (c : ℕ) → (wired_core b c).fiq ≡ with_inputs (core_at b c).fiq (wired_core b c).fiq.inputs
  pub fiq_line : (b : Board) (c k : ℕ) → k < 32
      → bit (wired_core b c).fiq.inputs k ≡ pick (ltb k 8 && ltb k (core_at b c).fiq.count) (input_value b c (32 + k)) (bit (core_at b c).fiq.inputs k)
  -- and they are words of 32 bits if they were
  pub lines_word : (b : Board) (c : ℕ)
      → ((core_at b c).irq.inputs < 2 ^ 32 → (wired_core b c).irq.inputs < 2 ^ 32) × ((core_at b c).fiq.inputs < 2 ^ 32 → (wired_core b c).fiq.inputs < 2 ^ 32)
  -- a sound controller stays sound (01, CoreInterrupt)
  pub wired_sound : (b : Board) (c : ℕ) → sound (core_at b c) ≡ true → sound (wired_core b c) ≡ true
  -- ---- the activities
  -- they are those of CoreInterrupt with the wired values as its lines (02, 8/12, demand 2)
  pub irq_is : (b : Board) (c : ℕ) → activity b c false ≡ active (wired_core b c).irq
  pub fiq_is : (b : Board) (c : ℕ) → activity b c true ≡ active (wired_core b c).fiq
  -- of a sound controller: exactly if a source, its input high or soft, is enabled; IRQ input k is input k, FIQ input k input 32 + k (02, 8/12; 01, CoreInterrupt)
  pub irq_active : (b : Board) (c : ℕ) → sound (core_at b c) ≡ true → (activity b c false ≡ true) ↔ Raised (core_at b c).irq (λ k. input_value b c k)
  pub fiq_active : (b : Board) (c : ℕ) → sound (core_at b c) ≡ true → (activity b c true ≡ true) ↔ Raised (core_at b c).fiq (λ k. input_value b c (32 + k))
  -- an unused input changes nothing that a controller shows (01, CoreInterrupt; 02, 8/12)
  pub unused_same : (x y : Board) → Alike x y → (c : ℕ) → wired_core x c ≡ wired_core y c
  -- ---- the values of all inputs of a controller, and its activities

  -- bit k of the IRQ word is the value of input k, bit k of the FIQ word that of input 32 + k (01, CoreInterrupt; 02, 8/12)
  pub irq_values : (b : Board) (c k : ℕ) → k < 32 → bit (values b c).irq k ≡ input_value b c k
  pub fiq_values : (b : Board) (c k : ℕ) → k < 8 → bit (values b c).fiq k ≡ input_value b c (32 + k)
  -- and there is no further bit
  pub values_word : (b : Board) (c : ℕ) → ((values b c).irq < 2 ^ 32) × ((values b c).fiq < 2 ^ 8)
  -- both activities are those of the two outputs
  pub activities_are : (b : Board) (c : ℕ) → ((activities b c).irq ≡ activity b c false) × ((activities b c).fiq ≡ activity b c true)
  -- ---- the longest chain below a controller, counted in controllers
  -- it has none exactly if no input, used or not, is wired to an output of a lower number (02, 8/12)
  pub chain_none : (b : Board) (c : ℕ) → (chain b c ≡ 0) ↔ ((d : ℕ) → d < c → Wired b c d → ⊥)
  -- it is longer by one than that below any controller it is wired to, at least (02, 8/12)
  pub chain_over : (b : Board) (c d : ℕ) → d < c → Wired b c d → chain b d + 1 ≤ chain b c
  -- and by just one than that below some (02, 8/12)
  pub chain_met : (b : Board) (c : ℕ) → chain b c ≢ 0 → (d : ℕ) × (d < c) × Wired b c d × (chain b c ≡ chain b d + 1)
  -- so it has no more controllers than there are lower numbers
  pub chain_most : (b : Board) (c : ℕ) → chain b c ≤ c
