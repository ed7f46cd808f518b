-- That `note` of src/lib.rt keeps its contract.
use mathlib.Core.Path.{sym, ap, ◌∙◌}
use mathlib.Core.Bool.{false}
use Rattle.tally.specs.declared.Tallied.{Tallied}
use Rattle.totals.specs.Waits.{no_waits}
use Rattle.sheet_traces.specs.Noted.{noted, unseen}
use Rattle.sheet_traces.proofs.NoteLaws.{starts_is, both-parts, of_other}
use Rattle.sheet_traces.proofs.note.Goals as goal

pub note_aic-requires : goal.note_aic-requires
note_aic-requires c =
    let h = both-parts _ _ c.if-b-m.true in
    (c.begin-b.ensures, h.0, h.1)

pub returns-then-b-m : goal.returns-then-b-m
returns-then-b-m c = c.note_aic.ensures

pub returns : goal.returns
returns c =
    c.note_other.ensures ∙ ap (λ (f : Tallied). noted f false unseen no_waits) c.figures.ensures
    ∙ sym (of_other _ _ _ (sym (starts_is _ _ c.begin-b.ensures) ∙ c.if-b-m.false))
