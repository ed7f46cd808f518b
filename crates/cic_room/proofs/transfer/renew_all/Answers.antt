-- That `renew_all` of src/transfer.rt keeps its contract.
use native.Mathlib.Omega.{arith}
use Rattle.cic_room.proofs.LayLaws.{upto-first, upto_next, upto_all}
use Rattle.cic_room.proofs.transfer.renew_all.Goals as goal

pub loop-k-init : goal.loop-k-init
loop-k-init c = (omega arith, λ f d ws on u. upto-first u)

pub loop-k-preserved : goal.loop-k-preserved
loop-k-preserved c =
    let l = c.loop-k in
    let t = c.loop-k-test.true in
    (omega (arith, t), λ f d ws on u. let v = l.invariant.1 f d ws on u in upto_next l.k _ l.room _ t c.meet-new.ensures v (c.renew.ensures f d v.active on v.counted))

pub returns : goal.returns
returns c = λ f d ws on u. upto_all c.loop-k-test.false (c.loop-k.invariant.1 f d ws on u)
