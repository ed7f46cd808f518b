-- That `deepen` of src/lib.rt keeps its contract.
use Prim.Native.Nat.{◌+◌, ◌%◌}
use mathlib.Core.Path.{refl}
use native.Mathlib.Omega.{arith}
use lib.ListN.{get_or}
use Rattle.aic_record.proofs.SoundLaws.{sound-is}
use Rattle.aic_room.proofs.CellLaws.{depth_is}
use Rattle.aic_figures.proofs.EntryLaws.{seen_none, seen_more, seen_all}
use Rattle.aic_figures.proofs.deepen.Goals as goal

pub returns-then-depth-gt8 : goal.returns-then-depth-gt8
returns-then-depth-gt8 c = λ t ok h n. absurd (omega (arith, c.if-depth-gt8.true, depth_is h, (sound-is t ok).entries))

pub loop-d-init : goal.loop-d-init
loop-d-init c = let a = c.args in (omega arith, omega arith, λ _. seen_none a.room.now (get_or a.room.now 7 0) a.book.now)

pub bounds-room-d : goal.bounds-room-d
bounds-room-d c = omega (arith, c.loop-d-test.true, c.if-depth-gt8.false)

pub see-requires : goal.see-requires
see-requires c = omega arith

pub loop-d-smaller : goal.loop-d-smaller
loop-d-smaller c = omega (arith, c.loop-d-test.true)

pub loop-d-preserved : goal.loop-d-preserved
loop-d-preserved c =
    let l = c.loop-d in
    let t = c.loop-d-test.true in
    let a = c.args in
    (omega (arith, t, c.if-depth-gt8.false), omega (arith, t), λ h. seen_more a.room.now _ l.d (get_or a.room.now (40 + l.d) 0 % 32) a.book.now l.book _ (omega (arith, h)) (omega arith) refl c.see.ensures (l.invariant.2 h))

pub returns : goal.returns
returns c =
    let l = c.loop-d in
    λ t ok h n. seen_all t _ _ l.d _ _ ok h (depth_is h) (omega (arith, c.loop-d-test.false, l.invariant.1)) (l.invariant.2 n)
