-- A board of up to eight CoreInterrupts: how it is made and wired, and what it answers (02, 8/12).
use Rattle.std.specs.Prelude.{ℕ, Bool, true, false, ◌&&◌, eqb, ltb, leb}
use Rattle.words.specs.Choice.{pick}
use Rattle.words.specs.Counting.{one}
use Rattle.steps.specs.Refusals.{carried_out, beyond, unsound, upward}
use Rattle.coreinterrupt.specs.declared.Signals.{Signals}
use Rattle.coreinterrupt.specs.Model as CoreInterrupt
use Rattle.board_wires.specs.declared.Board.{Board}
use Rattle.board_wires.specs.declared.Wire.{Wire}
use Rattle.board_wires.specs.declared.Wire.TheVariants.{Nothing, Pin, Irq, Fiq}
use Rattle.board_wires.specs.Chain.{chain as chain_below}
use Rattle.board_wires.specs.Wires.{core_at, input_value, wired_core}
use Rattle.board.specs.Record.{controller_limit, input_limit, pin_limit, with_controller, with_core, with_wire, with_pin, answered, refused}
use Rattle.board.specs.Sound.{sound, lower}
use Rattle.board.specs.declared.record.Answer.{Answer}
use Rattle.board.specs.declared.Reply.{Reply}

-- ---- answers

-- the refusal n, or the answer a where nothing is refused
unfoldable pub unless_refused : Board → ℕ → Answer → Answer
unless_refused b n a = pick (eqb n carried_out) a (refused b n)

-- a question that changes nothing: the refusal n and the value 0, or the value v
unfoldable pub replied : ℕ → ℕ → Reply
replied n v = pick (eqb n carried_out) (record { refusal = carried_out; value = v }) (record { refusal = n; value = 0 })

-- ---- the checks

-- in their order: 12, then 6 for a number or a level beyond its limit, then n, which is what comes after these (02, 8/12; 01, Numbers)
unfoldable pub checked : Board → Bool → ℕ → ℕ
checked b within n = pick (sound b) (pick within n beyond) unsound

-- controller c is one of this board (02, 8/12)
unfoldable pub is_there : Board → ℕ → Bool
is_there b c = ltb c b.controllers

-- the pin or the controller that a wire names is one of this board (02, 8/12)
unfoldable pub is_named : Board → Wire → Bool
is_named b Nothing = true
is_named b (Pin p) = ltb p pin_limit
is_named b (Irq d) = is_there b d
is_named b (Fiq d) = is_there b d

-- 15 for a wire to the same or a higher number, else 0 (02, 8/12)
unfoldable pub upward_refusal : ℕ → Wire → ℕ
upward_refusal c w = pick (lower c w) carried_out upward

-- ---- how a board is made

-- a CoreInterrupt with this configuration takes the next number, which is answered: 6 for a ninth, then its own 10 (02, 8/12; 01, CoreInterrupt)
unfoldable pub add : Board → ℕ → ℕ → ℕ → ℕ → Answer
add b fiqs irqs fiq_level irq_level =
    let s = CoreInterrupt.start fiqs irqs fiq_level irq_level in
    unless_refused b (checked b (ltb b.controllers controller_limit) s.refusal) (answered (with_controller b s.core) b.controllers)

-- input i of controller c is wired to w: 6 for a controller, an input or a pin that there is not, then 15 (02, 8/12)
unfoldable pub connect : Board → ℕ → ℕ → Wire → Answer
connect b c i w =
    unless_refused b (checked b (is_there b c && ltb i input_limit && is_named b w) (upward_refusal c w)) (answered (with_wire b c i w) 0)

-- pin p is put to a level (02, 8/12)
unfoldable pub put_pin : Board → ℕ → ℕ → Answer
put_pin b p l = unless_refused b (checked b (ltb p pin_limit && leb l 1) carried_out) (answered (with_pin b p l) 0)

-- ---- the registers of a controller

-- a read is CoreInterrupt's, of the controller with the wired values as its lines (02, 8/12, demand 2)
unfoldable pub read : Board → ℕ → ℕ → Answer
read b c offset =
    let a = CoreInterrupt.read (wired_core b c) offset in
    unless_refused b (checked b (is_there b c) a.refusal) (answered b a.value)

-- a write is CoreInterrupt's, of the controller in the record, whose lines are low (02, 8/12, demand 2)
unfoldable pub write : Board → ℕ → ℕ → ℕ → Answer
write b c offset v =
    let a = CoreInterrupt.write (core_at b c) offset v in
    unless_refused b (checked b (is_there b c) a.refusal) (answered (with_core b c a.core) a.value)

-- ---- what a board answers

-- no output is active where the question is refused
abbrev pub silent : ℕ → Signals
silent n = record { refusal = n; irq = false; fiq = false; irqlevel = 0; fiqlevel = 0 }

-- the outputs of CoreInterrupt, of the controller with the wired values as its lines (02, 8/12, demand 2)
unfoldable pub outputs : Board → ℕ → Signals
outputs b c = let n = checked b (is_there b c) carried_out in pick (eqb n carried_out) (CoreInterrupt.outputs (wired_core b c)) (silent n)

-- the value of input i of controller c, 1 for high, whether a source uses it or not (02, 8/12)
unfoldable pub input : Board → ℕ → ℕ → Reply
input b c i = replied (checked b (is_there b c && ltb i input_limit) carried_out) (one (input_value b c i))

-- how many controllers the longest chain below controller c has (02, 8/12)
unfoldable pub chain : Board → ℕ → Reply
chain b c = replied (checked b (is_there b c) carried_out) (chain_below b c)
