-- That `put_bits` of src/layout.rt keeps its contract.
use mathlib.Core.Path.{ap, ◌∙◌}
use Prim.Native.Nat.{◌+◌, ◌*◌}
use native.Mathlib.Omega.{arith}
use lib.ListN.{get_or, set}
use Rattle.words.proofs.CountingLaws.{upto-none, upto-more, upto_done}
use Rattle.words.specs.Word.{with_bit}
use Rattle.aintc_room.specs.Room.{bit_put}
use Rattle.aintc_room.proofs.layout.put_bits.Goals as goal

pub loop-b-init : goal.loop-b-init
loop-b-init c = (omega arith, upto-none _ _)

pub loop-b-preserved : goal.loop-b-preserved
loop-b-preserved c =
    let l = c.loop-b in
    let a = c.args in
    (omega arith, upto-more (bit_put a.n a.i a.p) _ _ l.invariant.1 (ap (set l.room (32 + (4 * l.b + a.n))) (c.with_bit-w.ensures ∙ ap (with_bit (get_or l.room (32 + (4 * l.b + a.n)) 0) a.i) c.has.ensures)))

pub returns : goal.returns
returns c = upto_done _ _ _ 7 c.loop-b.invariant.0 c.loop-b-test.false c.loop-b.invariant.1
