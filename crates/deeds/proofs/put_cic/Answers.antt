-- That `put_cic` of src/lib.rt keeps its contract.
use Rattle.text.proofs.WriteLaws.{and_then}
use Rattle.deeds.specs.Deeds.{cic_deeds}
use Rattle.text.specs.Phrases.{bytes}
use Rattle.deeds.proofs.put_cic.Goals as goal

pub returns : goal.returns
unfolding cic_deeds bytes
returns c =
    and_then _ _ _ c.put_gains-a.ensures c.put_gains.ensures
