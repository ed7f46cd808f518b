-- That `look_at` of src/looked.rt keeps its contract.
use mathlib.Core.Bool.{Bool}
use mathlib.Core.Path.{sym, ap, ◌∙◌}
use Rattle.steps.specs.declared.Step.TheVariants.{Read}
use Rattle.cic_indexed.specs.Registers.{own_at}
use Rattle.cic_indexed.specs.Model.{step_as}
use Rattle.cic_prioritised.specs.Looking.{words_at, looked_from, look_as, look_at}
use Rattle.cic_prioritised.proofs.LookLaws.{unsound-look}
use Rattle.cic_prioritised.proofs.looked.look_at.Goals as goal

pub look_sound-requires : goal.look_sound-requires
look_sound-requires c = sym c.is_sound.ensures ∙ c.if-is_sound.true

pub returns-then-is_sound : goal.returns-then-is_sound
unfolding look_at step_as
returns-then-is_sound c =
    let a = c.args in
    c.look_sound.ensures ∙ ap (λ (t : Bool). look_as t a.p a.offset (own_at a.p a.offset)) (sym c.if-is_sound.true ∙ c.is_sound.ensures)

pub returns : goal.returns
unfolding look_at
returns c =
    let a = c.args in
    let w = words_at a.p (own_at a.p a.offset) in
    c.answer.ensures ∙ unsound-look a.p a.offset w
    ∙ ap (λ (t : Bool). looked_from (step_as t a.p (Read a.offset)) w) (sym c.if-is_sound.false ∙ c.is_sound.ensures)
