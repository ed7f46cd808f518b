-- That `lay` of src/transfer.rt keeps its contract.
use mathlib.Core.Path.{◌≡◌}
use mathlib.Core.Bool.{true}
use Rattle.cic_room.specs.Room.{plain}
use Rattle.cic_room.proofs.RoomLaws.{laid_of}
use Rattle.cic_room.proofs.TurnLaws.{stood-bare}
use Rattle.cic_room.proofs.transfer.lay.Goals as goal

pub returns-then-kept : goal.returns-then-kept
returns-then-kept c =
    let t : c.args.kept ≡ true = c.if-kept.true in
    λ ok. let x = c.copies-room.ensures ok in laid_of (c.keep_all.ensures (plain c.args.kept) c.args.c t x.0 x.1)

pub returns-else-kept : goal.returns-else-kept
returns-else-kept c = λ ok. let x = c.copies-room.ensures ok in laid_of (stood-bare x.0 (c.if-kept.false, x.1))
