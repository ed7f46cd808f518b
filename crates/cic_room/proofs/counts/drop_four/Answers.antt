-- That `drop_four` of src/counts.rt keeps its contract.
use Rattle.cic_room.proofs.FourLaws.{four_dropped}
use Rattle.cic_room.proofs.counts.drop_four.Goals as goal

pub returns : goal.returns
returns c =
    let a = c.args in
    four_dropped a.w a.q c.with_bit-first.result c.with_bit-second.result c.with_bit-third.result c.with_bit.result
    c.with_bit-first.ensures c.with_bit-second.ensures c.with_bit-third.ensures c.with_bit.ensures
