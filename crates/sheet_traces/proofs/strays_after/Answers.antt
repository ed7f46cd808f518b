-- That `strays_after` of src/lib.rt keeps its contract.
use mathlib.Core.Path.{ap, ◌∙◌}
use Rattle.stack.specs.Kept.{unkept}
use Rattle.sheet_traces.proofs.WatchLaws.{strays_as_they_were, strays_anew}
use Rattle.sheet_traces.proofs.strays_after.Goals as goal

pub returns-then-same-strays : goal.returns-then-same-strays
returns-then-same-strays c = let a = c.args in
    λ s ok laid h. strays_as_they_were a.table s a.strays a.same c.if-same-strays.true h

pub returns : goal.returns
returns c =
    let a = c.args in
    λ s ok laid h.
    c.unkept.ensures ∙ ap (unkept a.table) (c.record_of.ensures s ok laid) ∙ strays_anew a.table s a.strays a.same c.if-same-strays.false
