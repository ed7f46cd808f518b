-- That `put_no_entries` of src/progress.rt keeps its contract.
use mathlib.Core.Path.{◌∙◌}
use Rattle.text.proofs.WriteLaws.{write-laid}
use Rattle.text.specs.Phrases.{bytes}
use Rattle.picture.specs.Lines.{no_entries}
use Rattle.picture.proofs.reasons.put_no_entries.Goals as goal

pub returns : goal.returns
unfolding no_entries bytes
returns c = c.put_all.ensures ∙ write-laid _ _
