-- That `ended` of src/lib.rt keeps its contract.
use mathlib.Core.Path.{ap₂}
use Rattle.totals.specs.declared.Totals.{Totals}
use Rattle.totals.specs.declared.waits.Waits.{Waits}
use Rattle.sheet_traces.proofs.ended.Goals as goal

pub returns : goal.returns
returns c =
    let a = c.args in
    λ f s k g h b.
    ap₂ (λ (x : Totals) (y : Waits). record { tallied = record { steps = a.n; refused = a.refused; refusal = a.refusal; offset = a.offset; figures = x }; watched = a.w; waits = y })
    (c.totals_in.ensures f s k h) (c.waits_in.ensures g b)
