-- That `put_refused` of src/lib.rt keeps its contract.
use mathlib.Core.Path.{◌∙◌}
use Rattle.text.proofs.WriteLaws.{and_then, write-laid}
use Rattle.tables.specs.Reading.{refused_line}
use Rattle.tables.proofs.put_refused.Goals as goal

pub returns : goal.returns
unfolding refused_line
returns c =
    and_then _ _ _ (and_then _ _ _ (and_then _ _ _ c.put-first.ensures c.put_field-second.ensures) c.put_field-third.ensures) c.put.ensures ∙ write-laid _ _
