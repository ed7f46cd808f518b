-- That `is_same` of src/controller.rt keeps its contract.
use mathlib.Core.Path.{refl}
use native.Mathlib.Omega.{arith}
use lib.Dec.{eqb}
use lib.ListN.{get_or}
use Rattle.words.specs.Counting.{all_below}
use Rattle.words.proofs.CountingLaws.{at_end, all-none_yet, all_more}
use Rattle.machine_room.specs.Controller.{same}
use Rattle.machine_room.proofs.controller.is_same.Goals as goal

pub loop-k-init : goal.loop-k-init
loop-k-init c = (omega arith, all-none_yet _)

pub loop-k-preserved : goal.loop-k-preserved
loop-k-preserved c =
    let a = c.args in
    let l = c.loop-k in
    let t = c.loop-k-test.true in
    (omega (arith, t), all_more (λ j. eqb (get_or a.a.now j 0) (get_or a.b.now j 0)) l.k l.invariant.1 refl)

pub returns : goal.returns
unfolding same
returns c =
    let a = c.args in
    at_end (λ n. all_below n (λ j. eqb (get_or a.a.now j 0) (get_or a.b.now j 0))) _ 2048 c.loop-k.invariant.0 c.loop-k-test.false c.loop-k.invariant.1
