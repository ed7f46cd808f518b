-- What the wires of a board carry. A wire is followed only to a lower number, so the activities are defined from the lowest upwards (02, 8/12).
use Rattle.std.specs.Prelude.{ℕ, zero, suc, ◌+◌, ◌-◌, ◌*◌, Bool, true, false, ◌&&◌, List, eqb, ltb, get_or}
use Rattle.words.specs.Choice.{pick}
use Rattle.words.specs.Counting.{upto}
use Rattle.coreinterrupt.specs.declared.sides.Side.{Side}
use Rattle.coreinterrupt.specs.Side.{idle, active, moved}
use Rattle.coreinterrupt.specs.declared.Core.{Core}
use Rattle.coreinterrupt.specs.Model.{core_of, side, fiq_limit, irq_limit}
use Rattle.board_wires.specs.declared.Board.{Board}
use Rattle.board_wires.specs.declared.Wire.{Wire}
use Rattle.board_wires.specs.declared.Wire.TheVariants.{Nothing, Pin, Irq, Fiq}

-- ---- the record

-- the wire that a number stands for: 0 nothing, 1 + p pin p, 321 + d the IRQ of controller d, 329 + d its FIQ, any other nothing (02, 8/12)
unfoldable pub wire_of : ℕ → Wire
wire_of w =
    pick (eqb w 0) Nothing
    (pick (ltb w 321) (Pin (w - 1))
    (pick (ltb w 329) (Irq (w - 321))
    (pick (ltb w 337) (Fiq (w - 329))
    Nothing)))

-- the number that stands for a wire; that of nothing for a pin beyond the 320 or a controller beyond the 8 (02, 8/12)
unfoldable pub wire_number : Wire → ℕ
wire_number Nothing = 0
wire_number (Pin p) = pick (ltb p 320) (1 + p) 0
wire_number (Irq d) = pick (ltb d 8) (321 + d) 0
wire_number (Fiq d) = pick (ltb d 8) (329 + d) 0

-- the wire of input i of controller c, where 40 numbers a controller stand in a row; beyond the 8 or the 40 nothing
unfoldable pub wire_in : List ℕ → ℕ → ℕ → Wire
wire_in ws c i = pick (ltb c 8 && ltb i 40) (wire_of (get_or ws (40 * c + i) 0)) Nothing

abbrev pub wire_at : Board → ℕ → ℕ → Wire
wire_at b c i = wire_in b.wire c i

-- pin p is high; there is none beyond the 320
unfoldable pub pin_in : List ℕ → ℕ → Bool
pin_in ps p = ltb p 320 && eqb (get_or ps p 0) 1

abbrev pub pin_of : Board → ℕ → Bool
pin_of b p = pin_in b.pin p

-- controller c as the record holds it; one with no sources beyond the 8
unfoldable pub core_at : Board → ℕ → Core
core_at b c = pick (ltb c 8) (get_or b.core c (core_of (idle 0 0) (idle 0 0))) (core_of (idle 0 0) (idle 0 0))

-- how many inputs a side has, and where input i of it stands among the 40 (01, CoreInterrupt)
abbrev pub inputs_of : Bool → ℕ
inputs_of fast = pick fast fiq_limit irq_limit

abbrev pub place_of : Bool → ℕ → ℕ
place_of fast i = pick fast (irq_limit + i) i

-- ---- the values, where g tells the activities of the lower numbers

-- what a wire of controller c carries: a pin its level, an output of a lower number its activity, all else low (02, 8/12)
unfoldable pub wired : List ℕ → (ℕ → Bool → Bool) → ℕ → Wire → Bool
wired ps g c Nothing = false
wired ps g c (Pin p) = pin_in ps p
wired ps g c (Irq d) = ltb d c && g d false
wired ps g c (Fiq d) = ltb d c && g d true

-- a side of controller c after a line step for each of its first n inputs, to what its wire carries (01, CoreInterrupt)
unfoldable pub side_in : List ℕ → List ℕ → (ℕ → Bool → Bool) → ℕ → Bool → Side → ℕ → Side
side_in ws ps g c fast s n = upto (λ x i. moved x i (wired ps g c (wire_in ws c (place_of fast i)))) s n

-- that of the controller in the record
abbrev pub side_by : Board → (ℕ → Bool → Bool) → ℕ → Bool → ℕ → Side
side_by b g c fast n = side_in b.wire b.pin g c fast (side (core_at b c) fast) n

-- its output is active
unfoldable pub active_by : Board → (ℕ → Bool → Bool) → ℕ → Bool → Bool
active_by b g c fast = active (side_by b g c fast (inputs_of fast))

-- the activities of the controllers below n: that of the next asks only those below it
unfoldable pub below : Board → ℕ → ℕ → Bool → Bool
below b zero d fast = false
below b (suc n) d fast = pick (eqb d n) (active_by b (below b n) n fast) (below b n d fast)

-- the FIQ or the IRQ of controller c is active (02, 8/12)
unfoldable pub activity : Board → ℕ → Bool → Bool
activity b c fast = active_by b (below b c) c fast

-- the value of input i of controller c (02, 8/12)
unfoldable pub input_value : Board → ℕ → ℕ → Bool
input_value b c i = wired b.pin (below b c) c (wire_at b c i)

-- controller c with the wired values as its lines (02, 8/12, demand 2)
unfoldable pub wired_core : Board → ℕ → Core
wired_core b c = core_of (side_by b (below b c) c true fiq_limit) (side_by b (below b c) c false irq_limit)
