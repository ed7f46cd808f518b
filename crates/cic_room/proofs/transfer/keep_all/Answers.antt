-- That `keep_all` of src/transfer.rt keeps its contract.
use Rattle.cic_room.proofs.LayLaws.{counted-first}
use Rattle.cic_room.proofs.transfer.keep_all.Goals as goal

pub returns : goal.returns
returns c = λ f d on h b. c.renew_all.ensures f d _ on (counted-first c.args.room.now on h b)
