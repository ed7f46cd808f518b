-- That `admit` of src/counts.rt keeps its contract.
use mathlib.Core.Path.{refl, sym, ◌∙◌}
use native.Mathlib.Omega.{arith}
use Rattle.cic_room.specs.Room.{permitted}
use Rattle.cic_room.proofs.AssertLaws.{not_admitted, admitted-low, admitted-high}
use Rattle.cic_room.proofs.counts.admit.Goals as goal

pub returns-then-not-is_permitted : goal.returns-then-not-is_permitted
returns-then-not-is_permitted c =
    λ f d r b a u x g y z k t. (k, not_admitted (permitted d) c.args.room.now c.args.h.0 0 c.requires z k (sym (c.is_permitted.ensures f d k) ∙ c.if-not-is_permitted.true) t)

pub returns-then-h-room : goal.returns-then-h-room
returns-then-h-room c =
    λ f d r b a u x g y z k t.
    admitted-low (permitted d) c.args.room.now c.args.h.0 _ c.requires z k (sym (c.is_permitted.ensures f d k) ∙ c.if-not-is_permitted.false) t refl c.if-h-room.true

pub returns-else-h-room : goal.returns-else-h-room
returns-else-h-room c =
    λ f d r b a u x g y z k t.
    admitted-high (permitted d) c.args.room.now c.args.h.0 _ c.requires z k (sym (c.is_permitted.ensures f d k) ∙ c.if-not-is_permitted.false) t refl (omega (arith, c.if-h-room.false))
