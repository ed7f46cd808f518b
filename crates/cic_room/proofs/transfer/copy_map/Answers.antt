-- That `copy_map` of src/transfer.rt keeps its contract.
use native.Mathlib.Omega.{arith}
use Rattle.cic_room.proofs.CopyLaws.{copied_none, copied_more, copied_all}
use Rattle.cic_room.proofs.transfer.copy_map.Goals as goal

pub loop-k-init : goal.loop-k-init
loop-k-init c = (omega arith, λ _. copied_none c.args.at _ c.args.room.now)

pub loop-k-preserved : goal.loop-k-preserved
loop-k-preserved c = let l = c.loop-k in (omega arith, λ e. copied_more l.k _ (omega (arith, e, c.loop-k-test.true, c.requires)) c.map_word.ensures (l.invariant.1 e))

pub returns : goal.returns
returns c = let l = c.loop-k in λ e. copied_all l.invariant.0 c.loop-k-test.false (l.invariant.1 e)
