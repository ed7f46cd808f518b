-- What is promised of the record of a board, one field for each sentence (02, 8/12).
use Rattle.std.specs.Prelude.{ℕ, ◌+◌, ◌*◌, ◌<◌, ◌≤◌, ◌≡◌, true, ◌↔◌, List, get_or, set, length, replicate}
use Rattle.coreinterrupt.specs.declared.Core.{Core}
use Rattle.coreinterrupt.specs.Model.{sound as sound_core}
use Rattle.board_wires.specs.declared.Board.{Board}
use Rattle.board_wires.specs.declared.Wire.{Wire}
use Rattle.board_wires.specs.declared.Wire.TheVariants.{Irq, Fiq}
use Rattle.board_wires.specs.Wires.{wire_number, wire_at, core_at}
use Rattle.board.specs.Record.{empty, with_controller, with_core, with_wire, with_pin, answered, refused}
use Rattle.board.specs.Sound.{sound}

-- the arrays of a board have the lengths that the language gives them; a list in a definition has any length
abbrev pub Shaped : Board → Type 0
Shaped b = (length b.wire ≡ 320) × (length b.pin ≡ 320) × (length b.core ≡ 8)

-- the parts of a board, one by one
abbrev pub Holds : Board → ℕ → List ℕ → List ℕ → List Core → Type 0
Holds b n ws ps ks = (b.controllers ≡ n) × (b.wire ≡ ws) × (b.pin ≡ ps) × (b.core ≡ ks)

-- a record of zeros
abbrev pub zeros : Core
zeros =
    record {
      fiq = record { count = 0; level = 0; inputs = 0; soft = 0; enable = 0 };
      irq = record { count = 0; level = 0; inputs = 0; soft = 0; enable = 0 };
    }

-- the rules of a sound board, one by one (02, 8/12)
pub record Rules (b : Board) : Type 0 where
  -- at most eight controllers
  pub counted : b.controllers ≤ 8
  -- each of them a sound CoreInterrupt, its lines low in the record
  pub controllers : (c : ℕ) → c < b.controllers → sound_core (core_at b c) ≡ true
  pub lines : (c : ℕ) → c < b.controllers → ((core_at b c).fiq.inputs ≡ 0) × ((core_at b c).irq.inputs ≡ 0)
  -- zeros where there is none
  pub spare : (c : ℕ) → b.controllers ≤ c → c < 8 → core_at b c ≡ zeros
  -- of every controller the wires have numbers that stand for one, and lead to no controller but those of lower numbers
  pub numbers : (c i : ℕ) → c < b.controllers → i < 40 → get_or b.wire (40 * c + i) 0 < 337
  pub lower : (c i d : ℕ) → c < b.controllers → i < 40 → (wire_at b c i ≡ Irq d → d < c) × (wire_at b c i ≡ Fiq d → d < c)
  -- where there is no controller there is no wire
  pub unwired : (c i : ℕ) → b.controllers ≤ c → c < 8 → i < 40 → get_or b.wire (40 * c + i) 0 ≡ 0
  -- each pin is at 0 or 1
  pub pins : (p : ℕ) → p < 320 → get_or b.pin p 0 ≤ 1

pub record Promises : Type 0 where
  -- a board is sound exactly if it keeps each rule (02, 8/12)
  pub sound_is : (b : Board) → (sound b ≡ true) ↔ Rules b
  -- the empty board has no controller, 320 inputs wired to nothing and 320 pins at 0; it is sound, and its arrays have their lengths (02, 8/12)
  pub empty_is : Holds empty 0 (replicate 320 0) (replicate 320 0) (replicate 8 zeros)
  pub empty_sound : sound empty ≡ true
  pub empty_shaped : Shaped empty
  -- a board with one part put anew has every other part as it was
  pub controller_put : (b : Board) (k : Core) → Holds (with_controller b k) (b.controllers + 1) b.wire b.pin (set b.core b.controllers k)
  pub core_put : (b : Board) (c : ℕ) (k : Core) → Holds (with_core b c k) b.controllers b.wire b.pin (set b.core c k)
  pub wire_put : (b : Board) (c i : ℕ) (w : Wire)
      → Holds (with_wire b c i w) b.controllers (set b.wire (40 * c + i) (wire_number w)) b.pin b.core
  pub pin_put : (b : Board) (p l : ℕ) → Holds (with_pin b p l) b.controllers b.wire (set b.pin p l) b.core
  -- what is carried out answers 0, a value and a board; what is refused its number, the value 0 and the same board (02, 8/12; 01, Numbers)
  pub answered_is : (b : Board) (v : ℕ) → answered b v ≡ record { refusal = 0; value = v; board = b }
  pub refused_is : (b : Board) (n : ℕ) → refused b n ≡ record { refusal = n; value = 0; board = b }
