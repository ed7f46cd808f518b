-- That `settle_side` of src/sides.rt keeps its contract.
use mathlib.Core.Path.{refl}
use native.Mathlib.Omega.{arith}
use Rattle.aintc_room.proofs.SideLaws.{held_stays, is-taken, is_free, none-pending, first-leads}
use Rattle.aintc_room.proofs.SearchLaws.{some-held}
use Rattle.aintc_room.proofs.sides.settle_side.Goals as goal

pub returns-then-room-at-ne0 : goal.returns-then-room-at-ne0
returns-then-room-at-ne0 c = λ a h. held_stays a c.args.fast h (is-taken h c.args.fast _ c.place_of-at.ensures.0 c.if-room-at-ne0.true)

pub returns-then-any_of-eq0 : goal.returns-then-any_of-eq0
returns-then-any_of-eq0 c = λ a h. none-pending a c.args.fast _ _ _ _ (c.pending_word-a.ensures a h) (c.pending_word-b.ensures a h) (c.pending_word-c.ensures a h) (c.pending_word-d.ensures a h) _ c.any_of.ensures c.if-any_of-eq0.true h

pub take-requires : goal.take-requires
take-requires c = omega arith

pub returns : goal.returns
returns c =
    λ a h. c.take.ensures a h (is_free h c.args.fast _ c.place_of-at.ensures.0 c.if-room-at-ne0.false)
    (first-leads a c.args.fast _ _ _ _ (c.pending_word-a.ensures a h) (c.pending_word-b.ensures a h) (c.pending_word-c.ensures a h) (c.pending_word-d.ensures a h) _ _
    (c.first_of-k.ensures a h (some-held _ _ _ _ _ c.any_of.ensures c.if-any_of-eq0.false)) refl)
