-- That `is_accepted` of src/controller.rt keeps its contract.
use mathlib.Core.Path.{ap, ◌∙◌}
use Prim.Native.Nat.{ℕ}
use native.Mathlib.Omega.{arith}
use lib.ListN.{get_or}
use Rattle.words.specs.Counting.{all_below}
use Rattle.words.proofs.CountingLaws.{at_end, all-none_yet, all_more}
use Rattle.kinds.specs.Kinds.{within}
use Rattle.machine_room.specs.Controller.{accepted}
use Rattle.machine_room.proofs.ControllerLaws.{wanted-most}
use Rattle.machine_room.proofs.controller.is_accepted.Goals as goal

pub loop-n-init : goal.loop-n-init
loop-n-init c = (omega arith, all-none_yet _)

pub bounds-numbers-n : goal.bounds-numbers-n
bounds-numbers-n c = omega (arith, c.loop-n-test.true, c.wanted-wanted.ensures, wanted-most c.args.kind)

pub loop-n-preserved : goal.loop-n-preserved
loop-n-preserved c = (omega (arith, c.loop-n-test.true), all_more _ c.loop-n.n c.loop-n.invariant.1 c.within-ok.ensures)

pub returns : goal.returns
unfolding accepted
returns c =
    let a = c.args in
    at_end (λ n. all_below n (λ j. within a.kind j (get_or a.c.numbers j 0))) _ _ c.loop-n.invariant.0 c.loop-n-test.false c.loop-n.invariant.1
    ∙ ap (λ (w : ℕ). all_below w (λ j. within a.kind j (get_or a.c.numbers j 0))) c.wanted-wanted.ensures
