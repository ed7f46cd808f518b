-- That `put_source` of src/lib.rt keeps its contract.
use Rattle.text.proofs.WriteLaws.{and_then}
use Rattle.text.specs.Phrases.{bytes}
use Rattle.table_text.specs.Text.{source_line}
use Rattle.table_text.proofs.put_source.Goals as goal

pub returns : goal.returns
unfolding source_line bytes
returns c =
    and_then _ _ _ (and_then _ _ _ (and_then _ _ _ c.put_decimal-a.ensures c.put_field-b.ensures) c.put_counted-c.ensures) c.put.ensures
