-- That `start` of src/lib.rt keeps its contract.
use mathlib.Core.Bool.{Bool, ◌&&◌}
use mathlib.Core.Path.{◌≡◌, ap, ap₂, ◌∙◌}
use native.Mathlib.Omega.{arith}
use lib.Dec.{eqb}
use Rattle.words.proofs.ChoiceLaws.{by-true, by-false}
use Rattle.steps.specs.Refusals.{carried_out, misconfigured}
use Rattle.cic_record.specs.declared.Begun.{Begun as CicBegun}
use Rattle.cic_record.specs.Start.{fresh}
use Rattle.cic_record.specs.Start as cic_start
use Rattle.cic_record.proofs.Promises as record-promises
use Rattle.cic_held.specs.Held.{prioritised, begun, start}
use Rattle.cic_held.proofs.start.Goals as goal

-- a refused start of the CIC is a record of zeros
zeros : (cic_start.start 0 0 0 0).cic ≡ fresh 0 0 0 0
zeros = ap (λ (b : CicBegun). b.cic) ((record-promises.kept).start_refused 0 0 0 0 (λ r. omega (arith, r.0.0)))

pub returns-then-b-within : goal.returns-then-b-within
unfolding start
returns-then-b-within c =
    let s = c.start-b.ensures in
    ap (begun carried_out) (c.join-p.ensures ∙ ap₂ prioritised (ap (λ (b : CicBegun). b.cic) s) c.nothing_held-h.ensures)
    ∙ by-true _ (ap₂ (λ (b : CicBegun) (t : Bool). eqb b.refusal carried_out && t) s c.within.ensures) c.if-b-within.true

pub returns : goal.returns
unfolding start
returns c =
    let s = c.start-b.ensures in
    ap (begun misconfigured) (c.join-zeros.ensures ∙ ap₂ prioritised (ap (λ (b : CicBegun). b.cic) c.start-z.ensures ∙ zeros) c.nothing_held-nothing.ensures)
    ∙ by-false _ (ap₂ (λ (b : CicBegun) (t : Bool). eqb b.refusal carried_out && t) s c.within.ensures) c.if-b-within.false
