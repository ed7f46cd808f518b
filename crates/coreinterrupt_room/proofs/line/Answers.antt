-- That `line` of src/lib.rt keeps its contract.
use mathlib.Core.Path.{ap}
use Prim.Native.Nat.{ℕ}
use lib.Dec.{eqb}
use Rattle.coreinterrupt.specs.Side.{moved}
use Rattle.coreinterrupt.specs.Model.{side, with_side, fiq_line}
use Rattle.coreinterrupt_room.proofs.RoomLaws.{laid_as}
use Rattle.coreinterrupt_room.proofs.StepLaws.{done_as, line_stopped, line-carried}
use Rattle.coreinterrupt_room.proofs.line.Goals as goal

pub returns-then-n-ne-CARRIED_OUT : goal.returns-then-n-ne-CARRIED_OUT
returns-then-n-ne-CARRIED_OUT c = λ k ok h. done_as (line_stopped k _ _ ok c.line_refusal-n.ensures c.if-n-ne-CARRIED_OUT.true) (h, c.refuse.ensures)

pub returns : goal.returns
unfolding fiq_line
returns c =
    let a = c.args in
    λ k ok h. done_as (line-carried k a.k a.level ok c.line_refusal-n.ensures c.if-n-ne-CARRIED_OUT.false)
    (laid_as (ap (λ (i : ℕ). with_side k (fiq_line a.k) (moved (side k (fiq_line a.k)) i (eqb a.level 1))) c.input-i.ensures) (c.move_input.ensures k h), c.answer.ensures)
