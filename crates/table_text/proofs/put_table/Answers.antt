-- That `put_table` of src/lib.rt keeps its contract.
use mathlib.Core.Path.{◌∙◌}
use Rattle.text.proofs.WriteLaws.{and_then, write-laid}
use Rattle.table_text.specs.Text.{table_text}
use Rattle.table_text.proofs.put_table.Goals as goal

pub returns : goal.returns
unfolding table_text
returns c =
    and_then _ _ _ (and_then _ _ _ c.put_heading-first.ensures c.put_sources-next.ensures) c.put_last.ensures ∙ write-laid _ _
