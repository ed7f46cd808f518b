-- That `record_of` of src/lib.rt keeps its contract.
use mathlib.Core.Path.{◌∙◌}
use borrow.Author.Rules.{rules}
use Rattle.cic_room.specs.Room.{plain}
use Rattle.machine.specs.Machine.{indexed}
use Rattle.machine.proofs.MachineLaws.{sound_aic, sound_aintc, sound-indexed}
use Rattle.machine_room.proofs.RoomLaws.{of-kind, not-kind, aic-record, core-record, cic-record, aintc-record, indexed-record, last-kind}
use Rattle.machine_room.proofs.record_of.Goals as goal

pub returns-in-0 : goal.returns-in-0
returns-in-0 c =
    λ kept m ok h b.
    let k = of-kind h c.in-0.is in
    aic-record c.args.first m _ k b (c.record_of.ensures m.aic (sound_aic m k ∙ ok) (h.aic k))

pub returns-in-1 : goal.returns-in-1
returns-in-1 c =
    λ kept m ok h b.
    let k = of-kind h c.in-1.is in
    core-record c.args.first m _ k b (c.record_of-in-1.ensures m.core (h.core k))

pub returns-in-2 : goal.returns-in-2
returns-in-2 c =
    λ kept m ok h b.
    let k = of-kind h c.in-2.is in
    cic-record c.args.first m _ k b (c.record_of-in-2.ensures (plain kept) m.cic (h.cic k))

pub returns-in-3 : goal.returns-in-3
returns-in-3 c =
    λ kept m ok h b.
    let k = of-kind h c.in-3.is in
    aintc-record c.args.first m _ k b (c.record_of-in-3.ensures m.aintc (sound_aintc m k ∙ ok) (h.aintc k))

pub returns-in_default : goal.returns-in_default
returns-in_default c =
    λ kept m ok h b.
    let k = last-kind m ok (not-kind h (search rules)) (not-kind h (search rules)) (not-kind h (search rules)) (not-kind h (search rules)) in
    indexed-record c.args.first m _ k b (c.record_of-p.ensures (indexed m) (sound-indexed m k ∙ ok) (h.indexed k))
