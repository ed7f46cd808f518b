-- That `put_declaration` of src/lib.rt keeps its contract.
use Rattle.text.proofs.WriteLaws.{and_then}
use Rattle.text.specs.Phrases.{bytes, counted}
use Rattle.vcd.specs.Dump.{declaration}
use Rattle.vcd.proofs.put_declaration.Goals as goal

pub returns : goal.returns
unfolding declaration counted bytes
returns c =
    and_then _ _ _ (and_then _ _ _ (and_then _ _ _ c.put_counted-a.ensures c.put_identifier-b.ensures) c.put_all-c.ensures) c.put_all.ensures
