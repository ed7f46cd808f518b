-- That `answer_with` of src/lib.rt keeps its contract.
use mathlib.Core.Path.{ap₂}
use Prim.Native.Nat.{ℕ}
use Rattle.cic_prioritised.proofs.answer_with.Goals as goal

pub returns : goal.returns
returns c =
    let a = c.args in
    ap₂ (λ (n v : ℕ). record { refusal = n; value = v; prioritised = a.p }) c.refusal_in.ensures c.value_in.ensures
