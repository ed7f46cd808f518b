-- That `lay_routes` of src/layout.rt keeps its contract.
use mathlib.Core.Path.{ap}
use Prim.Native.Nat.{◌+◌}
use native.Mathlib.Omega.{arith}
use lib.ListN.{get_or, set}
use Rattle.words.proofs.CountingLaws.{upto-none, upto-more, upto_done}
use borrow.Author.Count.{below_none}
use Rattle.aintc_room.proofs.RouteLaws.{below_more}
use Rattle.aintc_room.proofs.layout.lay_routes.Goals as goal

pub loop-k-init : goal.loop-k-init
loop-k-init c = (omega arith, upto-none _ _, below_none _)

pub loop-k-preserved : goal.loop-k-preserved
loop-k-preserved c =
    let l = c.loop-k in
    (omega arith, upto-more _ _ _ l.invariant.1 (ap (set l.room (128 + l.k)) c.wide-w.ensures.0), below_more (λ j. get_or c.args.routes.now j 0) l.k l.invariant.2 c.wide-w.ensures.1)

pub returns : goal.returns
returns c =
    let l = c.loop-k in
    (upto_done _ _ _ 128 l.invariant.0 c.loop-k-test.false l.invariant.1, λ j m. l.invariant.2 j (omega (arith, m, c.loop-k-test.false)))
