-- That `found` of src/turns.rt keeps its contract.
use mathlib.Core.Path.{refl}
use native.Mathlib.Omega.{arith}
use Rattle.trace.proofs.TurnLaws.{of_found}
use Rattle.trace.proofs.turns.found.Goals as goal

pub returns : goal.returns
returns c =
    (λ l. of_found _ (λ e. omega arith), refl, λ l z. record { ended = λ e. absurd (omega arith); read = z; found = λ n. refl })
