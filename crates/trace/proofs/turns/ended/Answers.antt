-- That `ended` of src/turns.rt keeps its contract.
use mathlib.Core.Path.{refl}
use Rattle.trace.proofs.TurnLaws.{of-ended}
use Rattle.trace.proofs.turns.ended.Goals as goal

pub returns : goal.returns
returns c =
    (of-ended _ refl, refl, record { ended = λ e. (refl, refl, refl); read = λ e. refl; found = λ n. absurd (n refl) })
