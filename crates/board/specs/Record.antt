-- The record of a board, written out once for each part that moves (02, 8/12).
use Rattle.std.specs.Prelude.{ℕ, ◌+◌, ◌*◌, set, replicate}
use Rattle.steps.specs.Refusals.{carried_out}
use Rattle.coreinterrupt.specs.Side.{idle}
use Rattle.coreinterrupt.specs.declared.Core.{Core}
use Rattle.coreinterrupt.specs.Model.{core_of}
use Rattle.board_wires.specs.declared.Board.{Board}
use Rattle.board_wires.specs.declared.Wire.{Wire}
use Rattle.board_wires.specs.Wires.{wire_number}
use Rattle.board.specs.declared.record.Answer.{Answer}

-- controllers at most (02, 8/12)
abbrev pub controller_limit : ℕ
controller_limit = 8

-- inputs of each controller: 0 to 31 of IRQ, 32 to 39 of FIQ (02, 8/12; 01, CoreInterrupt)
abbrev pub input_limit : ℕ
input_limit = 40

-- pins of the board (02, 8/12)
abbrev pub pin_limit : ℕ
pin_limit = 320

-- a board with no controller: every input wired to nothing, every pin low (02, 8/12)
unfoldable pub empty : Board
empty = record { controllers = 0; wire = replicate 320 0; pin = replicate 320 0; core = replicate 8 (core_of (idle 0 0) (idle 0 0)) }

-- the board with one controller more, which takes the next number
unfoldable pub with_controller : Board → Core → Board
with_controller b k = record { controllers = b.controllers + 1; wire = b.wire; pin = b.pin; core = set b.core b.controllers k }

-- the board with controller c put anew
unfoldable pub with_core : Board → ℕ → Core → Board
with_core b c k = record { controllers = b.controllers; wire = b.wire; pin = b.pin; core = set b.core c k }

-- the board with input i of controller c wired anew
unfoldable pub with_wire : Board → ℕ → ℕ → Wire → Board
with_wire b c i w =
    record { controllers = b.controllers; wire = set b.wire (40 * c + i) (wire_number w); pin = b.pin; core = b.core }

-- the board with pin p at a level
unfoldable pub with_pin : Board → ℕ → ℕ → Board
with_pin b p l = record { controllers = b.controllers; wire = b.wire; pin = set b.pin p l; core = b.core }

-- ---- answers

-- what is carried out
abbrev pub answered : Board → ℕ → Answer
answered b v = record { refusal = carried_out; value = v; board = b }

-- what is refused: its number, the value 0 and the same board (02, 8/12; 01, Numbers)
abbrev pub refused : Board → ℕ → Answer
refused b n = record { refusal = n; value = 0; board = b }
