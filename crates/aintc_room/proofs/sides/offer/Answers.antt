-- That `offer` of src/sides.rt keeps its contract.
use native.Mathlib.Omega.{arith}
use Rattle.aintc_room.proofs.CellLaws.{laid_as}
use Rattle.aintc_room.proofs.SideLaws.{not_open, side-taken, side_settles, alone-leads, is-taken, is_free}
use Rattle.aintc_room.proofs.sides.offer.Goals as goal

pub returns-then-room-place_of-ne0 : goal.returns-then-room-place_of-ne0
returns-then-room-place_of-ne0 c =
    λ a h alone. laid_as (side-taken a _ c.requires alone h _ c.has-fast.ensures (is-taken h c.has-fast.result _ c.place_of.ensures.0 c.if-room-place_of-ne0.true)) h

pub open_word-requires : goal.open_word-requires
open_word-requires c = omega (arith, c.requires)

pub returns-then-not-has : goal.returns-then-not-has
returns-then-not-has c =
    let p = c.requires in
    λ a h alone. laid_as (not_open a _ p alone _ _ (c.open_word.ensures a h) c.has.ensures c.if-not-has.true) h

pub returns : goal.returns
returns c =
    let p = c.requires in
    λ a h alone. let e = is_free h c.has-fast.result _ c.place_of.ensures.0 c.if-room-place_of-ne0.false in
    laid_as (side_settles a _ p alone h _ c.has-fast.ensures)
    (c.take.ensures a h e (alone-leads a _ p alone h _ c.has-fast.ensures _ _ (c.open_word.ensures a h) c.has.ensures c.if-not-has.false e))
