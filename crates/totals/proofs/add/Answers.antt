-- That `add` of src/lib.rt keeps its contract.
use mathlib.Core.Path.{sym, ap, ◌∙◌}
use Rattle.words.proofs.ChoiceLaws.{by-true, by-false}
use Rattle.totals.specs.declared.Totals.{Totals}
use Rattle.totals.specs.Totals.{added}
use Rattle.totals.proofs.add.Goals as goal

pub returns-then-any_passes : goal.returns-then-any_passes
unfolding added
returns-then-any_passes c = by-true _ c.any_passes.ensures c.if-any_passes.true

pub together-sum-requires : goal.together-sum-requires
together-sum-requires c = sym c.any_passes.ensures ∙ c.if-any_passes.false

pub returns : goal.returns
unfolding added
returns c = ap (λ (s : Totals). record { refusal = 0; totals = s }) c.together-sum.ensures ∙ by-false _ c.any_passes.ensures c.if-any_passes.false
