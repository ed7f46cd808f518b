-- That `slow` of src/turns.rt keeps its contract.
use mathlib.Core.Path.{◌∙◌}
use Rattle.trace.proofs.TurnLaws.{exact_as}
use Rattle.trace.proofs.turns.slow.Goals as goal

pub returns : goal.returns
returns c =
    let t = c.told_of.ensures in
    let e = t.0 ∙ c.turn_at.ensures in
    (e, t.1, exact_as _ _ t.1 t.2 e)
