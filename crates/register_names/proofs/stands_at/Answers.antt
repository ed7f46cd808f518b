-- That `stands_at` of src/lib.rt keeps its contract.
use Rattle.register_names.proofs.TableLaws.{stands_of}
use Rattle.register_names.proofs.stands_at.Goals as goal

pub returns : goal.returns
returns c =
    let a = c.args in
    stands_of a.row.now a.n _ _ _ _ _ c.four_at-first.ensures.0 c.count_at-count.ensures c.two_at-step.ensures.0 c.stands_by.ensures
