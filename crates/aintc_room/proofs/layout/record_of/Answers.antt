-- That `record_of` of src/layout.rt keeps its contract.
use mathlib.Core.Bool.{true, false}
use Rattle.words.specs.Choice.{pick}
use Rattle.aintc_record.specs.Record.{side}
use Rattle.aintc_room.proofs.CellLaws.{lines-is, soft-is, masks-is}
use Rattle.aintc_room.proofs.RecordLaws.{chosen-told, words-told, routes-told, record-told}
use Rattle.aintc_room.proofs.layout.record_of.Goals as goal

pub returns : goal.returns
unfolding side pick
returns c =
    λ a ok h. record-told a ok h _ _ _ _ _ _ _ _ (words-told a ok h a.lines _ 16 h.shaped.0 (lines-is h) c.four_in-lines.ensures.0 c.four_in-lines.ensures.1)
    (words-told a ok h a.soft _ 20 h.shaped.1 (soft-is h) c.four_in-soft.ensures.0 c.four_in-soft.ensures.1)
    (words-told a ok h a.masks _ 24 h.shaped.2 (masks-is h) c.four_in-masks.ensures.0 c.four_in-masks.ensures.1)
    (routes-told a ok h _ c.routes_in-routes.ensures.0 c.routes_in-routes.ensures.1) c.byte-threshold.ensures c.byte-revision.ensures
    (chosen-told a ok h false _ c.chosen_in-irq.ensures) (chosen-told a ok h true _ c.chosen_in-fiq.ensures)
