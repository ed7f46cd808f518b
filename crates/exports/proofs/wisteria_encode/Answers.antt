-- That `wisteria_encode` of src/lib.rt keeps its contract.
use mathlib.Core.Path.{ap}
use mathlib.Core.List.{[], ◌∷◌}
use Rattle.encode.specs.declared.Refusal.{Refusal}
use Rattle.exports.proofs.wisteria_encode.Goals as goal

pub returns : goal.returns
returns c = let e = c.encode-e.ensures in record { bytes = e.1; expected = ap (λ (r : Refusal). r.expected ∷ r.line ∷ r.word ∷ []) e.0 }
