-- That `look_sound` of src/looked.rt keeps its contract.
use mathlib.Core.Path.{refl, sym, ap, ◌∙◌}
use Rattle.cic_indexed.specs.declared.Own.{Own}
use Rattle.cic_prioritised.specs.Looking.{words_at, look_as}
use Rattle.cic_prioritised.proofs.LookLaws.{other-look}
use mathlib.Core.Bool.{true}
use Rattle.cic_prioritised.proofs.looked.look_sound.Goals as goal

pub returns-in-Elsewhere : goal.returns-in-Elsewhere
unfolding words_at
returns-in-Elsewhere c =
    c.look_other.ensures ∙ other-look c.args.p c.args.offset c.requires (sym c.in-Elsewhere.is ∙ c.own_at.ensures c.args.p refl) refl

pub returns-in-Control : goal.returns-in-Control
unfolding words_at
returns-in-Control c =
    c.look_other-in-Control.ensures ∙ other-look c.args.p c.args.offset c.requires (sym c.in-Control.is ∙ c.own_at.ensures c.args.p refl) refl

pub returns-in-GlobalIndex : goal.returns-in-GlobalIndex
returns-in-GlobalIndex c =
    let a = c.args in
    c.look_global.ensures ∙ ap (λ (o : Own). look_as true a.p a.offset o) (sym c.in-GlobalIndex.is ∙ c.own_at.ensures a.p refl)

pub returns-in-HostIndex : goal.returns-in-HostIndex
returns-in-HostIndex c =
    let a = c.args in
    c.look_host.ensures ∙ ap (λ (o : Own). look_as true a.p a.offset o) (sym c.in-HostIndex.is ∙ c.own_at.ensures a.p refl)
