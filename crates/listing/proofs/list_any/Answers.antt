-- That `list_any` of src/lib.rt keeps its contract.
use mathlib.Core.Path.{refl, ap, ◌∙◌}
use Rattle.text.specs.Text.{write}
use Rattle.beginning.proofs.BeginningLaws.{begin-ready}
use Rattle.lines.proofs.LineLaws.{text_as}
use Rattle.listing.proofs.list_any.Goals as goal

pub list_steps-requires : goal.list_steps-requires
list_steps-requires c = let p = c.requires in begin-ready _ _ p.0 p.1

pub returns : goal.returns
returns c = c.list_steps.ensures ∙ ap (write _) (text_as _ _ _ _ _ _ _ _ refl c.tells_privilege-told.ensures)
