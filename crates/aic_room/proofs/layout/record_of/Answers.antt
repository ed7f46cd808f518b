-- That `record_of` of src/layout.rt keeps its contract.
use Rattle.aic_room.proofs.RecordLaws.{modes-told, vectors-told, sources-told, levels-told, record-told}
use Rattle.aic_room.proofs.layout.record_of.Goals as goal

pub returns : goal.returns
returns c =
    let l = c.bytes_in-level.ensures in
    let s = c.bytes_in-source.ensures in
    let v = c.words_in-vector.ensures in
    let m = c.bytes_in-mode.ensures in
    λ a ok h. record-told a ok h _ _ _ _ _ (modes-told a ok h _ m.0 m.1) (vectors-told a ok h _ v.0 v.1) (sources-told a ok h _ s.0 s.1)
    (levels-told a ok h _ l.0 l.1) (c.seen_in-seen.ensures a ok h)
