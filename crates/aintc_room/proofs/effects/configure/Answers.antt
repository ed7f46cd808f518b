-- That `configure` of src/effects.rt keeps its contract.
use mathlib.Core.Path.{sym, ap, ◌∙◌}
use Rattle.words.proofs.ChoiceLaws.{pick_true, pick-false}
use Rattle.words.specs.Counting.{one}
use Rattle.aintc_registers.specs.Effects.{configured}
use Rattle.aintc_room.proofs.CellLaws.{laid_as, put_autoidle}
use Rattle.aintc_room.proofs.effects.configure.Goals as goal

pub returns-then-has : goal.returns-then-has
unfolding configured
returns-then-has c = λ a h. laid_as (pick_true _ (sym c.has.ensures ∙ c.if-has.true)) (c.reset.ensures a h)

pub returns : goal.returns
unfolding configured
returns c = λ a h. laid_as (pick-false _ (sym c.has.ensures ∙ c.if-has.false)) (put_autoidle h _ _ (c.one_if-w.ensures ∙ ap one c.has-2.ensures))
