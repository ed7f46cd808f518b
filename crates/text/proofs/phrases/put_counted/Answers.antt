-- That `put_counted` of src/phrases.rt keeps its contract.
use Rattle.text.proofs.WriteLaws.{and_then}
use Rattle.text.specs.Phrases.{counted}
use Rattle.text.proofs.phrases.put_counted.Goals as goal

pub returns : goal.returns
unfolding counted
returns c =
    and_then _ _ _ c.put_all-a.ensures c.put_decimal.ensures
