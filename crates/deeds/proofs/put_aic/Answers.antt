-- That `put_aic` of src/lib.rt keeps its contract.
use Rattle.text.proofs.WriteLaws.{and_then}
use Rattle.deeds.specs.Deeds.{aic_deeds}
use Rattle.deeds.proofs.put_aic.Goals as goal

pub returns : goal.returns
unfolding aic_deeds
returns c =
    and_then _ _ _ c.put_entry-a.ensures c.put_seen.ensures
