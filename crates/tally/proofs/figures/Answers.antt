-- That `figures` of src/lib.rt keeps its contract.
use mathlib.Core.Path.{◌∙◌}
use Rattle.tally.proofs.TallyLaws.{tally-refused}
use Rattle.tally.proofs.figures.Goals as goal

pub returns-then-b-ne-CARRIED_OUT : goal.returns-then-b-ne-CARRIED_OUT
returns-then-b-ne-CARRIED_OUT c = c.not_tallied.ensures ∙ tally-refused _ _ _ c.begin-b.ensures c.if-b-ne-CARRIED_OUT.true

pub tally_begun-requires : goal.tally_begun-requires
tally_begun-requires c = (c.begin-b.ensures, c.if-b-ne-CARRIED_OUT.false)
