-- That `follow_any` of src/lib.rt keeps its contract.
use mathlib.Core.Path.{◌≡◌, sym, subst, ◌∙◌}
use Rattle.kinds.specs.Kinds.{aic_kind}
use Rattle.aic_record.specs.declared.Aic.{Aic}
use Rattle.aic_room.specs.Room.{Laid}
use Rattle.aic_figures.specs.Book.{Kept}
use Rattle.machine.proofs.MachineLaws.{sound_aic}
use Rattle.machine.proofs.StepLaws.{step-kind}
use Rattle.tally.proofs.TurnLaws.{aic-after, follow_aic, follow-other}
use Rattle.tally.proofs.follow_any.Goals as goal

pub returns-then-room-eq-AIC : goal.returns-then-room-eq-AIC
returns-then-room-eq-AIC c =
    let a = c.args in
    λ f m n x r l e h d.
    let z : m.kind ≡ aic_kind = sym (step-kind m x) ∙ sym d.kind ∙ c.if-room-eq-AIC.true in
    let k : Kept f m.aic n a.book.now = subst (λ (s : Aic). Kept f s n a.book.now) (h.2 z) h.1 in
    follow_aic f m n x a.book.now h _ z
    (c.follow.ensures f m.aic n x.step (sound_aic m z ∙ r.0) r.1 l (e z) k
    (subst (λ (s : Aic). Laid s a.room.now) (aic-after m x z) (d.aic (step-kind m x ∙ z))))

pub returns-else-room-eq-AIC : goal.returns-else-room-eq-AIC
returns-else-room-eq-AIC c =
    let a = c.args in
    λ f m n x r l e h d. follow-other f m n x a.book.now h (λ z. c.if-room-eq-AIC.false (d.kind ∙ step-kind m x ∙ z))
