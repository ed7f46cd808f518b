-- That `bytes_in` of src/layout.rt keeps its contract.
use Prim.Native.Nat.{◌+◌, ◌%◌}
use native.Mathlib.Omega.{arith}
use borrow.Author.Count.{below_none}
use lib.ListN.{get_or, length-set, length-replicate}
use Rattle.words.proofs.ArrayLaws.{filled}
use Rattle.aic_room.proofs.layout.bytes_in.Goals as goal

pub loop-k-init : goal.loop-k-init
loop-k-init g c = (omega arith, simp length-replicate, below_none _)

pub loop-k-preserved : goal.loop-k-preserved
loop-k-preserved g c =
    let l = c.loop-k in
    let a = c.args in
    (omega arith, simp length-set l.invariant.1, filled l.out (λ j. get_or a.room.now (a.at + j) 0 % 256) l.k (omega (arith, l.invariant.1)) l.invariant.2 _ c.byte.ensures)

pub returns : goal.returns
returns g c = let l = c.loop-k in (l.invariant.1, λ j m. l.invariant.2 j (omega (arith, m, c.loop-k-test.false)))
