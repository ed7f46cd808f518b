-- That `write` of src/lib.rt keeps its contract.
use mathlib.Core.Path.{ap, ◌∙◌}
use Prim.Native.Nat.{ℕ}
use Rattle.coreinterrupt.specs.Model.{fiq_offset}
use Rattle.coreinterrupt_room.specs.Room.{write_to}
use Rattle.coreinterrupt_room.proofs.StepLaws.{done_as, write-misaligned, write_at}
use Rattle.coreinterrupt_room.proofs.write.Goals as goal

pub returns-then-offset-ne0 : goal.returns-then-offset-ne0
returns-then-offset-ne0 c = λ k ok h. done_as (write-misaligned k _ _ ok c.if-offset-ne0.true) (h, c.refuse.ensures)

pub returns : goal.returns
unfolding fiq_offset
returns c =
    let a = c.args in
    λ k ok h. done_as (ap (λ (i : ℕ). write_to k (fiq_offset a.offset) i a.value) c.register-i.ensures ∙ write_at k a.offset a.value ok c.if-offset-ne0.false) (c.write_to.ensures k h)
