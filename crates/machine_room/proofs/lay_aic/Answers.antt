-- That `lay_aic` of src/lib.rt keeps its contract.
use Rattle.aic_record.specs.Promises.{Shaped}
use borrow.Author.Rules.{rules}
use Rattle.machine_room.proofs.lay_aic.Goals as goal

pub returns : goal.returns
returns c =
    let shaped : Shaped c.args.a = (search rules, search rules, search rules, search rules) in c.lay.ensures shaped
