-- That `show_anew` of src/counts.rt keeps its contract.
use native.Mathlib.Omega.{arith}
use Rattle.cic_room.specs.Room.{permitted}
use Rattle.cic_room.specs.Tables.{host_at, load_by}
use Rattle.cic_room.proofs.AssertLaws.{shown_anew}
use Rattle.cic_room.proofs.KeptLaws.{on-counted, dim-bare, kept-told, bare-told}
use Rattle.cic_room.proofs.KeptLaws.{dim_on}
use Rattle.cic_room.proofs.counts.show_anew.Goals as goal

pub returns-then-room-eq0 : goal.returns-then-room-eq0
returns-then-room-eq0 c = λ f d ws u. dim-bare (bare-told u.held c.if-room-eq0.true) u

pub returns : goal.returns
returns c =
    λ f d ws u.
    let on = kept-told u.held c.if-room-eq0.false in
    let t = dim_on on u in
    let r = shown_anew (permitted d) (load_by (host_at d) ws) c.args.room.now _ _ (c.count_asserted-count.ensures f d _ _ _ _ _ (load_by (host_at d) ws) u.held t)
    (c.lowest_from-lowest.ensures f d _ _ _ _ _ (load_by (host_at d) ws) u.held t (λ h l. absurd (omega (arith, l)))) u.held t in
    on-counted on r.0 u.long r.1
