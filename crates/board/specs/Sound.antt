-- Which boards are sound (02, 8/12).
use Rattle.std.specs.Prelude.{ℕ, ◌/◌, Bool, true, ◌&&◌, eqb, ltb, leb, get_or}
use Rattle.words.specs.Choice.{pick}
use Rattle.words.specs.Counting.{all_below}
use Rattle.coreinterrupt.specs.declared.sides.Side.{Side}
use Rattle.coreinterrupt.specs.declared.Core.{Core}
use Rattle.coreinterrupt.specs.Model.{sound as sound_core}
use Rattle.board_wires.specs.declared.Board.{Board}
use Rattle.board_wires.specs.declared.Wire.{Wire}
use Rattle.board_wires.specs.declared.Wire.TheVariants.{Nothing, Pin, Irq, Fiq}
use Rattle.board_wires.specs.Wires.{wire_of, core_at}
use Rattle.board.specs.Record.{controller_limit, pin_limit}

-- the lines of a controller are low in the record: its inputs are told by their wires (02, 8/12)
unfoldable pub low : Core → Bool
low k = eqb k.fiq.inputs 0 && eqb k.irq.inputs 0

-- a side of zeros
unfoldable pub zero_side : Side → Bool
zero_side s = eqb s.count 0 && (eqb s.level 0 && (eqb s.inputs 0 && (eqb s.soft 0 && eqb s.enable 0)))

-- a record of zeros
unfoldable pub zero_core : Core → Bool
zero_core k = zero_side k.fiq && zero_side k.irq

-- what may stand at number c of a board of n controllers: a sound one with its lines low, and zeros where there is none (02, 8/12)
unfoldable pub core_rule : ℕ → ℕ → Core → Bool
core_rule n c k = pick (ltb c n) (sound_core k && low k) (zero_core k)

-- a wire of controller c leads to no controller but those of lower numbers (02, 8/12)
unfoldable pub lower : ℕ → Wire → Bool
lower c Nothing = true
lower c (Pin p) = true
lower c (Irq d) = ltb d c
lower c (Fiq d) = ltb d c

-- what may stand for a wire of controller c of a board of n: a number below 337 of one that leads lower, and 0 where there is no controller (02, 8/12)
unfoldable pub wire_rule : ℕ → ℕ → ℕ → Bool
wire_rule n c w = pick (ltb c n) (ltb w 337 && lower c (wire_of w)) (eqb w 0)

-- every controller, every wire and every pin keeps its rule; wire k is that of an input of controller k / 40 (02, 8/12)
unfoldable pub cores_sound : Board → Bool
cores_sound b = all_below controller_limit (λ c. core_rule b.controllers c (core_at b c))

unfoldable pub wires_sound : Board → Bool
wires_sound b = all_below 320 (λ k. wire_rule b.controllers (k / 40) (get_or b.wire k 0))

unfoldable pub pins_sound : Board → Bool
pins_sound b = all_below pin_limit (λ p. leb (get_or b.pin p 0) 1)

-- a sound board (02, 8/12; 01, Numbers)
unfoldable pub sound : Board → Bool
sound b = leb b.controllers controller_limit && (cores_sound b && (wires_sound b && pins_sound b))
