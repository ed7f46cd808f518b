-- That `take_four` of src/counts.rt keeps its contract.
use Rattle.cic_room.proofs.WriteLaws.{taken_out}
use Rattle.cic_room.proofs.counts.take_four.Goals as goal

pub returns : goal.returns
returns c = λ f d ws on u. taken_out c.args.room.now _ c.args.k _ c.requires on u c.drop_four-new.ensures (c.renew.ensures f d ws on u)
