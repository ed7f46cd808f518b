-- That `refuse_all` of src/controller.rt keeps its contract.
use mathlib.Core.Path.{refl}
use native.Mathlib.Omega.{arith}
use lib.ListN.{length-set}
use Rattle.words.proofs.CountingLaws.{at_end}
use Rattle.steps.specs.Refusals.{unsound}
use Rattle.rooms.specs.Reply.{reply}
use Rattle.machine_room.specs.Batch.{answers_in}
use Rattle.machine_room.proofs.BatchLaws.{refused_none, refused-more}
use Rattle.machine_room.proofs.controller.refuse_all.Goals as goal

pub loop-k-init : goal.loop-k-init
loop-k-init c = (omega arith, refl, refused_none _)

pub bounds-answers-k-in-loop-k : goal.bounds-answers-k-in-loop-k
bounds-answers-k-in-loop-k c = simp length-set (omega (arith, c.loop-k-test.true, c.loop-k.invariant.1, c.requires))

pub loop-k-preserved : goal.loop-k-preserved
loop-k-preserved c =
    let l = c.loop-k in
    (omega (arith, c.loop-k-test.true), simp length-set l.invariant.1, refused-more _ l.k l.invariant.2 refl refl)

pub returns : goal.returns
returns c =
    let l = c.loop-k in
    at_end (λ n. answers_in (λ _. reply unsound 0) c.args.answers.now n) _ _ l.invariant.0 c.loop-k-test.false l.invariant.2
