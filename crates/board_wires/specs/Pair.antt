-- The values of all inputs of a controller, a word for each side, and both its activities: what the pair that asks each other answers (02, 8/12).
use Rattle.std.specs.Prelude.{ℕ, ◌+◌, Bool, true, false, List}
use Rattle.words.specs.Choice.{pick}
use Rattle.words.specs.Counting.{upto}
use Rattle.words.specs.Word.{bit, word_of, with_bit}
use Rattle.coreinterrupt.specs.declared.sides.Side.{Side}
use Rattle.coreinterrupt.specs.Side.{moved}
use Rattle.coreinterrupt.specs.declared.Core.{Core}
use Rattle.coreinterrupt.specs.Model.{core_of, fiq_limit, irq_limit}
use Rattle.board_wires.specs.declared.Board.{Board}
use Rattle.board_wires.specs.Wires.{wire_in, inputs_of, place_of, wired, activity, input_value}
use Rattle.board_wires.specs.declared.pair.Activities.{Activities}
use Rattle.board_wires.specs.declared.pair.Told.{Told}
use Rattle.board_wires.specs.declared.pair.Inputs.{Inputs}

-- ---- what the pair answers

-- the values of the 40 inputs of controller c: bit k of the one word is input k, bit k of the other input 32 + k (02, 8/12)
unfoldable pub values : Board → ℕ → Inputs
values b c = record { irq = word_of 32 (λ k. input_value b c k); fiq = word_of 8 (λ k. input_value b c (32 + k)) }

-- whether the IRQ and the FIQ of controller c are active (02, 8/12)
abbrev pub activities : Board → ℕ → Activities
activities b c = record { irq = activity b c false; fiq = activity b c true }

-- ---- how they are worked out: no document says this, it is proved to be what Wires.antt says

-- what was told of an output of controller d
unfoldable pub tells : Told → ℕ → Bool → Bool
tells t d fast = bit (pick fast t.fiq t.irq) d

abbrev pub with_told : Told → ℕ → Activities → Told
with_told t d a = record { irq = with_bit t.irq d a.irq; fiq = with_bit t.fiq d a.fiq }

-- the values of the inputs of a side of controller c, where g tells the activities of the lower numbers
unfoldable pub values_in : List ℕ → List ℕ → (ℕ → Bool → Bool) → ℕ → Bool → ℕ
values_in ws ps g c fast = word_of (inputs_of fast) (λ k. wired ps g c (wire_in ws c (place_of fast k)))

-- a side after a line step for each of its first n inputs, to their bits of w
unfoldable pub lined : Side → ℕ → ℕ → Side
lined s w n = upto (λ x i. moved x i (bit w i)) s n

abbrev pub lined_core : Core → Inputs → Core
lined_core k v = core_of (lined k.fiq v.fiq fiq_limit) (lined k.irq v.irq irq_limit)
