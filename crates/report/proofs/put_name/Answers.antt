-- That `put_name` of src/lib.rt keeps its contract.
use Rattle.text.proofs.WriteLaws.{and_then}
use Rattle.text.specs.Phrases.{bytes}
use Rattle.report.specs.Printed.{named}
use Rattle.report.proofs.put_name.Goals as goal

pub returns : goal.returns
unfolding named bytes
returns c =
    and_then _ _ _ (and_then _ _ _ c.put_all-a.ensures c.put_all-b.ensures) c.put.ensures
