-- That `renew_word` of src/counts.rt keeps its contract.
use Rattle.cic_room.proofs.KeptLaws.{bare_of, kept-told, bare-told}
use Rattle.cic_room.proofs.TurnLaws.{renewed, stood-bare}
use Rattle.cic_room.proofs.counts.renew_word.Goals as goal

pub returns-then-room-eq0 : goal.returns-then-room-eq0
returns-then-room-eq0 c = λ f d u. stood-bare u.counted.held (bare_of (bare-told u.counted.held c.if-room-eq0.true) u.counted)

pub returns : goal.returns
returns c =
    λ f d u.
    let on = kept-told u.counted.held c.if-room-eq0.false in
    renewed c.args.k _ c.args.room.now _ c.requires c.meet-new.ensures u (c.renew.ensures f d u.active on u.counted)
