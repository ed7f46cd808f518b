-- That `turn_on` of src/counts.rt keeps its contract.
use mathlib.Core.Path.{◌≡◌, refl, ap, ◌∙◌}
use mathlib.Core.Bool.{true}
use Prim.Native.Nat.{ℕ}
use lib.ListN.{get_or}
use Rattle.cic_room.specs.Tables.{channel_at}
use Rattle.cic_room.proofs.TurnLaws.{turned_on}
use Rattle.cic_record.specs.declared.Channel.{Channel}
use Rattle.cic_record.specs.declared.Host.{Host}
use Rattle.cic_room.proofs.counts.turn_on.Goals as goal

pub returns : goal.returns
returns c =
    let x = c.channel_at-k in
    let y = c.host_at-h in
    let n = c.args.s.0 in
    λ f d ws on u b.
    let p : x.result.0 ≡ channel_at d n = ap (λ (k : Channel). k.0) (x.ensures.0 f d u.held) in
    turned_on c.args.room.now _ _ _ n x.result.0 y.result.0 _ true c.requires x.ensures.1 on u p
    (ap (λ (h : Host). h.0) (y.ensures.0 f d u.held) ∙ ap (λ (k : ℕ). get_or d.host k 0) p) b refl refl c.mark_busy.ensures
    c.mark_active.ensures (c.add.ensures f d)
