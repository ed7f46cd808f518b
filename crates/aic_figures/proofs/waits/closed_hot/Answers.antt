-- That `closed_hot` of src/waits.rt keeps its contract.
use mathlib.Core.Bool.{not}
use lib.Dec.{eqb}
use lib.ListN.{get_or}
use Rattle.words.proofs.TruthLaws.{and_right}
use Rattle.aic_room.proofs.CellLaws.{depth_is}
use Rattle.aic_figures.proofs.RoomLaws.{closed_some, closed_none, not-zero}
use Rattle.aic_figures.proofs.waits.closed_hot.Goals as goal

pub hot_word-requires : goal.hot_word-requires
hot_word-requires c = c.last_source.ensures.0

pub returns-then-o-depth : goal.returns-then-o-depth
returns-then-o-depth c =
    let a = c.args in
    let d = get_or a.room.now 7 0 in
    λ s ok h. closed_some h a.o c.if-o-depth.true
    (c.last_source.ensures.1 s ok h (depth_is h) (not-zero d (and_right (eqb a.o 0x130) (not (eqb d 0)) c.if-o-depth.true))) (c.hot_word.ensures s h)

pub returns : goal.returns
returns c = λ s ok h. closed_none h c.args.o c.if-o-depth.false
