-- That `dismiss` of src/counts.rt keeps its contract.
use mathlib.Core.Path.{refl, sym, ◌∙◌}
use Rattle.cic_room.specs.Room.{permitted}
use Rattle.cic_room.proofs.AssertLaws.{not_dismissed, now_lowest, half, dismissed-low, dismissed-high}
use Rattle.cic_room.proofs.ShownLaws.{none_below}
use Rattle.cic_room.proofs.counts.dismiss.Goals as goal

pub returns-then-not-is_permitted : goal.returns-then-not-is_permitted
returns-then-not-is_permitted c =
    λ f d b a u x g y z k t. (k, not_dismissed (permitted d) c.args.room.now c.args.h.0 0 c.requires z k (sym (c.is_permitted.ensures f d k) ∙ c.if-not-is_permitted.true) t)

pub returns-then-h-room : goal.returns-then-h-room
returns-then-h-room c =
    let n = c.args.h.0 in
    λ f d b a u x g y z k t.
    let room = c.args.room.now in
    let e = sym (c.is_permitted.ensures f d k) ∙ c.if-not-is_permitted.false in
    let m = half (permitted d) room n _ c.requires z k e t refl in
    dismissed-low (permitted d) room n _ c.requires z k e t refl _
    (c.lowest_from-lowest.ensures f d _ b a u x y m.0 m.1 (none_below (permitted d) y g n c.requires z (c.if-h-room.true ∙ now_lowest (permitted d) room n _ c.requires z k e t refl)))

pub returns-else-h-room : goal.returns-else-h-room
returns-else-h-room c =
    λ f d b a u x g y z k t.
    dismissed-high (permitted d) c.args.room.now c.args.h.0 _ c.requires z k (sym (c.is_permitted.ensures f d k) ∙ c.if-not-is_permitted.false) t refl c.if-h-room.false
