-- That `put_aintc` of src/lib.rt keeps its contract.
use Rattle.text.proofs.WriteLaws.{and_then}
use Rattle.deeds.specs.Deeds.{aintc_deeds}
use Rattle.text.specs.Phrases.{bytes}
use Rattle.deeds.proofs.put_aintc.Goals as goal

pub returns : goal.returns
unfolding aintc_deeds bytes
returns c =
    and_then _ _ _ c.put_choice-a.ensures c.put_choice.ensures
