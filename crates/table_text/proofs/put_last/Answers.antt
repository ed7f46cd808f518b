-- That `put_last` of src/lib.rt keeps its contract.
use Rattle.text.proofs.WriteLaws.{and_then}
use Rattle.text.specs.Phrases.{bytes}
use Rattle.table_text.specs.Text.{last_lines}
use Rattle.table_text.proofs.put_last.Goals as goal

pub returns : goal.returns
unfolding last_lines bytes
returns c =
    and_then _ _ _ (and_then _ _ _ c.put_all-a.ensures c.put_hex-b.ensures) c.put_all.ensures
