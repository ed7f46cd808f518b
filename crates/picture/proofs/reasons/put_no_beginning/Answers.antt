-- That `put_no_beginning` of src/progress.rt keeps its contract.
use mathlib.Core.Path.{◌∙◌}
use Rattle.text.proofs.WriteLaws.{and_then, write-laid}
use Rattle.text.specs.Phrases.{bytes}
use Rattle.picture.specs.Lines.{no_beginning}
use Rattle.picture.proofs.reasons.put_no_beginning.Goals as goal

pub returns : goal.returns
unfolding no_beginning bytes
returns c =
    and_then _ _ _ (and_then _ _ _ (and_then _ _ _ c.put_all-a.ensures c.put_field-b.ensures) c.put_field-c.ensures) c.put.ensures
    ∙ write-laid _ _
