-- That `write_to` of src/lib.rt keeps its contract.
use native.Mathlib.Omega.{arith}
use borrow.Author.Rules.{rules}
use Rattle.coreinterrupt_room.proofs.StepLaws.{done_as, write-past, write-read-only, write-carried}
use Rattle.coreinterrupt_room.proofs.write_to.Goals as goal

pub returns-in-Some-Raw : goal.returns-in-Some-Raw
returns-in-Some-Raw c =
    let i = rw c.in-Some-Raw.field-0-is at c.in-Some-Raw.ensures in
    λ k h. done_as (write-read-only k _ _ _ (omega (arith, i)) (omega (arith, i))) (h, c.refuse.ensures)

pub returns-in-Some-Status : goal.returns-in-Some-Status
returns-in-Some-Status c =
    let i = rw c.in-Some-Status.field-0-is at c.in-Some-Status.ensures in
    λ k h. done_as (write-read-only k _ _ _ (omega (arith, i)) (omega (arith, i))) (h, c.refuse-in-Some-Status.ensures)

pub returns-in-Some : goal.returns-in-Some
returns-in-Some c = λ k h. done_as (write-carried k _ _ _ (search rules)) (c.turn_bits.ensures k h, c.answer.ensures)

pub returns-in-None : goal.returns-in-None
returns-in-None c = λ k h. done_as (write-past k _ _ _ (omega (arith, c.in-None.ensures))) (h, c.refuse-in-None.ensures)
