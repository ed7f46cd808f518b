-- That `write` of src/lib.rt keeps its contract.
use mathlib.Core.Path.{sym, ◌∙◌}
use Rattle.indexed_room.proofs.HoldLaws.{choice-is}
use Rattle.indexed_room.proofs.StepLaws.{writes_at}
use Rattle.indexed_room.proofs.write.Goals as goal

pub returns-in-Elsewhere : goal.returns-in-Elsewhere
returns-in-Elsewhere c =
    λ p ok h. writes_at p _ _ ok (sym c.in-Elsewhere.is ∙ c.own_at.ensures p (choice-is p h)) (c.write_elsewhere.ensures p ok h)

pub returns-in-Control : goal.returns-in-Control
returns-in-Control c =
    λ p ok h. writes_at p _ _ ok (sym c.in-Control.is ∙ c.own_at.ensures p (choice-is p h)) (c.write_control.ensures p h)

pub returns-in-GlobalIndex : goal.returns-in-GlobalIndex
returns-in-GlobalIndex c =
    λ p ok h. writes_at p _ _ ok (sym c.in-GlobalIndex.is ∙ c.own_at.ensures p (choice-is p h)) (c.write_global.ensures p _ h)

pub returns-in-HostIndex : goal.returns-in-HostIndex
returns-in-HostIndex c =
    λ p ok h. writes_at p _ _ ok (sym c.in-HostIndex.is ∙ c.own_at.ensures p (choice-is p h)) (c.write_host.ensures p _ ok h)
