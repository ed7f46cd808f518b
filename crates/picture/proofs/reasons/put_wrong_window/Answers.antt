-- That `put_wrong_window` of src/progress.rt keeps its contract.
use mathlib.Core.Path.{◌∙◌}
use Rattle.text.proofs.WriteLaws.{and_then, write-laid}
use Rattle.text.specs.Phrases.{bytes}
use Rattle.picture.specs.Lines.{wrong_window}
use Rattle.picture.proofs.reasons.put_wrong_window.Goals as goal

pub returns : goal.returns
unfolding wrong_window bytes
returns c =
    and_then _ _ _ c.put_counted-a.ensures c.put.ensures ∙ write-laid _ _
