-- That `put_digit` of src/lib.rt keeps its contract.
use Prim.Native.Nat.{ℕ}
use mathlib.Core.Path.{ap, ◌∙◌}
use mathlib.Core.List.{[], ◌∷◌}
use Rattle.text.specs.Text.{write}
use Rattle.explain.proofs.put_digit.Goals as goal

pub returns : goal.returns
returns c =
    c.put.ensures ∙ ap (write _) (ap (λ (d : ℕ). d ∷ []) c.digit.ensures)
