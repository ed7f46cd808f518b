-- That `put_no_table` of src/lib.rt keeps its contract.
use mathlib.Core.Path.{◌∙◌}
use Rattle.text.proofs.WriteLaws.{write-laid}
use Rattle.text.specs.Phrases.{bytes}
use Rattle.table_text.specs.Text.{no_table}
use Rattle.table_text.proofs.put_no_table.Goals as goal

pub returns : goal.returns
unfolding no_table bytes
returns c = c.put_all.ensures ∙ write-laid _ _
