-- That `put_no_beginning` of src/lib.rt keeps its contract.
use mathlib.Core.Path.{◌∙◌}
use Rattle.text.proofs.WriteLaws.{and_then, write-laid}
use Rattle.text.specs.Phrases.{bytes}
use Rattle.table_text.specs.Text.{no_beginning}
use Rattle.table_text.proofs.put_no_beginning.Goals as goal

pub returns : goal.returns
unfolding no_beginning bytes
returns c =
    and_then _ _ _ (and_then _ _ _ (and_then _ _ _ c.put_all-a.ensures c.put_field-b.ensures) c.put_field-c.ensures) c.put.ensures
    ∙ write-laid _ _
