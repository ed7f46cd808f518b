-- That `any_of` of src/search.rt keeps its contract.
use mathlib.Core.Path.{ap₂, ◌∙◌}
use Rattle.words.specs.Word.{either}
use Rattle.aintc_room.proofs.search.any_of.Goals as goal

pub returns : goal.returns
returns c = c.join-3.ensures ∙ ap₂ either c.join.ensures c.join-2.ensures
