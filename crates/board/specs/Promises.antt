-- What is promised of a board (02, 8/12). Sound boards and the empty one are promised in RecordPromises, the wires and the chains by board_wires.
use Rattle.std.specs.Prelude.{ℕ, ◌+◌, ◌<◌, ◌≡◌, true, false, ◌↔◌, ◌≢◌, get_or}
use Rattle.words.specs.Counting.{one}
use Rattle.coreinterrupt.specs.Model as CoreInterrupt
use Rattle.board_wires.specs.declared.Board.{Board}
use Rattle.board_wires.specs.declared.Wire.{Wire}
use Rattle.board_wires.specs.declared.Wire.TheVariants.{Nothing, Pin, Irq, Fiq}
use Rattle.board_wires.specs.Chain.{chain as chain_below}
use Rattle.board_wires.specs.Promises.{Raised, Alike}
use Rattle.board_wires.specs.Wires.{wire_at, core_at, input_value, wired_core}
use Rattle.board.specs.RecordPromises.{Shaped}
use Rattle.board.specs.Sound.{sound}
use Rattle.board.specs.declared.record.Answer.{Answer}
use Rattle.board.specs.Model.{add, connect, put_pin, read, write, outputs, input, chain}
use Rattle.board.specs.Tables.{AddTable, WireTable, PinTable, OwnTable, InputTable, Adds, Wires, Pins}

-- the change is carried out, or answers its number, the value 0 and the same board (02, 8/12; 01, Numbers)
abbrev pub Same : Board → Answer → Type 0
Same b a = a.refusal ≢ 0 → a ≡ record { refusal = a.refusal; value = 0; board = b }

pub record Promises : Type 0 where
  -- ---- each number is given exactly when the points say, in their order (02, 8/12; 01, Numbers)
  pub add_numbers : (b : Board) (f i fl il : ℕ) → AddTable b f i fl il (add b f i fl il).refusal
  pub connect_numbers : (b : Board) (c i : ℕ) (w : Wire) → WireTable b c i w (connect b c i w).refusal
  pub pin_numbers : (b : Board) (p l : ℕ) → PinTable b p l (put_pin b p l).refusal
  pub read_numbers : (b : Board) (c offset : ℕ) → OwnTable b c (CoreInterrupt.read (wired_core b c) offset).refusal (read b c offset).refusal
  pub write_numbers : (b : Board) (c offset v : ℕ)
      → OwnTable b c (CoreInterrupt.write (wired_core b c) offset v).refusal (write b c offset v).refusal
  pub outputs_numbers : (b : Board) (c : ℕ) → OwnTable b c 0 (outputs b c).refusal
  pub input_numbers : (b : Board) (c i : ℕ) → InputTable b c i (input b c i).refusal
  pub chain_numbers : (b : Board) (c : ℕ) → OwnTable b c 0 (chain b c).refusal
  -- ---- what is refused changes nothing (02, 8/12)
  pub add_refused : (b : Board) (f i fl il : ℕ) → Same b (add b f i fl il)
  pub connect_refused : (b : Board) (c i : ℕ) (w : Wire) → Same b (connect b c i w)
  pub pin_refused : (b : Board) (p l : ℕ) → Same b (put_pin b p l)
  pub read_refused : (b : Board) (c offset : ℕ) → Same b (read b c offset)
  pub write_refused : (b : Board) (c offset v : ℕ) → Same b (write b c offset v)
  -- a question that is refused answers its number and zeros
  pub outputs_refused : (b : Board) (c : ℕ) → (outputs b c).refusal ≢ 0
      → outputs b c ≡ record { refusal = (outputs b c).refusal; irq = false; fiq = false; irqlevel = 0; fiqlevel = 0 }
  pub input_refused : (b : Board) (c i : ℕ) → (input b c i).refusal ≢ 0 → (input b c i).value ≡ 0
  pub chain_refused : (b : Board) (c : ℕ) → (chain b c).refusal ≢ 0 → (chain b c).value ≡ 0
  -- ---- every change keeps a sound board sound, and its arrays at their lengths (02, 8/12)
  pub add_sound : (b : Board) (f i fl il : ℕ) → sound b ≡ true → sound (add b f i fl il).board ≡ true
  pub connect_sound : (b : Board) (c i : ℕ) (w : Wire) → sound b ≡ true → sound (connect b c i w).board ≡ true
  pub pin_sound : (b : Board) (p l : ℕ) → sound b ≡ true → sound (put_pin b p l).board ≡ true
  pub write_sound : (b : Board) (c offset v : ℕ) → sound b ≡ true → sound (write b c offset v).board ≡ true
  pub add_shaped : (b : Board) (f i fl il : ℕ) → Shaped b → Shaped (add b f i fl il).board
  pub connect_shaped : (b : Board) (c i : ℕ) (w : Wire) → Shaped b → Shaped (connect b c i w).board
  pub pin_shaped : (b : Board) (p l : ℕ) → Shaped b → Shaped (put_pin b p l).board
  pub write_shaped : (b : Board) (c offset v : ℕ) → Shaped b → Shaped (write b c offset v).board
  -- ---- how a board is made
  -- a controller that is added is the configured CoreInterrupt under the next number, none of its inputs wired (02, 8/12; 01, CoreInterrupt)
  pub adds : (b : Board) (f i fl il : ℕ) → Shaped b → (add b f i fl il).refusal ≡ 0
      → Adds b
      (record {
        fiq = record { count = f; level = fl; inputs = 0; soft = 0; enable = 0 };
        irq = record { count = i; level = il; inputs = 0; soft = 0; enable = 0 };
      })
      (add b f i fl il)
  -- an input is wired to what is named; a later wire replaces it, and all else stays (02, 8/12)
  pub connects : (b : Board) (c i : ℕ) (w : Wire) → Shaped b → (connect b c i w).refusal ≡ 0 → Wires b c i w (connect b c i w)
  -- a pin moves alone (02, 8/12)
  pub pins : (b : Board) (p l : ℕ) → Shaped b → (put_pin b p l).refusal ≡ 0 → Pins b p l (put_pin b p l)
  -- ---- each controller is a CoreInterrupt with the wired values as its lines (02, 8/12, demand 2)
  -- which is sound, so that every promise of CoreInterrupt holds of it
  pub wired_sound : (b : Board) (c : ℕ) → sound b ≡ true → c < b.controllers → CoreInterrupt.sound (wired_core b c) ≡ true
  -- a read answers what CoreInterrupt answers, and changes nothing
  pub reads : (b : Board) (c offset : ℕ) → sound b ≡ true → c < b.controllers
      → read b c offset
      ≡ record {
        refusal = (CoreInterrupt.read (wired_core b c) offset).refusal;
        value = (CoreInterrupt.read (wired_core b c) offset).value;
        board = b;
      }
  -- a write answers what CoreInterrupt answers, and leaves what CoreInterrupt leaves, the wires and the pins as they were and all other controllers in the record
  pub writes : (b : Board) (c offset v : ℕ) → Shaped b → sound b ≡ true → c < b.controllers
      → ((write b c offset v).refusal ≡ (CoreInterrupt.write (wired_core b c) offset v).refusal)
      × ((write b c offset v).value ≡ (CoreInterrupt.write (wired_core b c) offset v).value)
      × (wired_core (write b c offset v).board c ≡ (CoreInterrupt.write (wired_core b c) offset v).core)
  pub writes_else : (b : Board) (c offset v : ℕ)
      → ((d : ℕ) → d ≢ c → core_at (write b c offset v).board d ≡ core_at b d) × ((write b c offset v).board.controllers ≡ b.controllers)
      × ((write b c offset v).board.wire ≡ b.wire) × ((write b c offset v).board.pin ≡ b.pin)
  -- the outputs are those of CoreInterrupt
  pub outputs_is : (b : Board) (c : ℕ) → sound b ≡ true → c < b.controllers → outputs b c ≡ CoreInterrupt.outputs (wired_core b c)
  -- so each is active exactly if a source, its input wired high or its soft bit set, is enabled; IRQ input k is input k, FIQ input k input 32 + k
  pub irq_active : (b : Board) (c : ℕ) → sound b ≡ true → c < b.controllers
      → ((outputs b c).irq ≡ true) ↔ Raised (core_at b c).irq (λ k. input_value b c k)
  pub fiq_active : (b : Board) (c : ℕ) → sound b ≡ true → c < b.controllers
      → ((outputs b c).fiq ≡ true) ↔ Raised (core_at b c).fiq (λ k. input_value b c (32 + k))
  -- ---- the value of an input, 1 for high, used or not (02, 8/12)
  pub input_is : (b : Board) (c i : ℕ) → sound b ≡ true → c < b.controllers → i < 40 → input b c i ≡ record { refusal = 0; value = one (input_value b c i) }
  -- wired to nothing it is low; wired to a pin it has the pin's level; wired to an output it is high exactly if that is active
  pub value_nothing : (b : Board) (c i : ℕ) → sound b ≡ true → c < b.controllers → i < 40 → wire_at b c i ≡ Nothing → (input b c i).value ≡ 0
  pub value_pin : (b : Board) (c i p : ℕ) → sound b ≡ true → c < b.controllers → i < 40 → wire_at b c i ≡ Pin p → (input b c i).value ≡ get_or b.pin p 0
  pub value_irq : (b : Board) (c i d : ℕ) → sound b ≡ true → c < b.controllers → i < 40 → wire_at b c i ≡ Irq d
      → (input b c i).value ≡ one (outputs b d).irq
  pub value_fiq : (b : Board) (c i d : ℕ) → sound b ≡ true → c < b.controllers → i < 40 → wire_at b c i ≡ Fiq d
      → (input b c i).value ≡ one (outputs b d).fiq
  -- ---- the chain that is answered counts the controllers of the longest below this one, by all its wires (02, 8/12)
  pub chain_is : (b : Board) (c : ℕ) → sound b ≡ true → c < b.controllers → chain b c ≡ record { refusal = 0; value = chain_below b c }
  -- ---- of boards that differ in the wires of unused inputs, the reads and the outputs are the same (01, CoreInterrupt; 02, 8/12)
  pub unused : (x y : Board) → Alike x y → sound x ≡ true → sound y ≡ true → (c : ℕ) → c < x.controllers → c < y.controllers
      → (outputs x c ≡ outputs y c) × ((offset : ℕ) → ((read x c offset).refusal ≡ (read y c offset).refusal) × ((read x c offset).value ≡ (read y c offset).value))
