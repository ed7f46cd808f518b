-- That `put_between` of src/slips.rt keeps its contract.
use Rattle.text.proofs.WriteLaws.{and_then}
use Rattle.tables.specs.Slips.{between}
use Rattle.tables.proofs.slips.put_between.Goals as goal

pub returns : goal.returns
unfolding between
returns c =
    and_then _ _ _ (and_then _ _ _ c.put_all-a.ensures c.put_shortened-b.ensures) c.put_all.ensures
