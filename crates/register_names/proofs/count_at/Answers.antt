-- That `count_at` of src/lib.rt keeps its contract.
use Rattle.register_names.proofs.TableLaws.{count_of}
use Rattle.register_names.proofs.count_at.Goals as goal

pub returns : goal.returns
returns c =
    let a = c.args in
    count_of a.row.now a.n _ _ c.four_at-most.ensures.0 c.count_by.ensures
