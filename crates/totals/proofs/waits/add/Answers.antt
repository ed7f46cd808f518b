-- That `add` of src/waits.rt keeps its contract.
use mathlib.Core.Path.{sym, ap, ◌∙◌}
use Rattle.words.proofs.ChoiceLaws.{by-true, by-false}
use Rattle.totals.specs.declared.waits.Waits.{Waits}
use Rattle.totals.specs.Waits.{added}
use Rattle.totals.proofs.waits.add.Goals as goal

pub returns-then-any_pass : goal.returns-then-any_pass
unfolding added
returns-then-any_pass c = by-true _ c.any_pass.ensures c.if-any_pass.true

pub together-sum-requires : goal.together-sum-requires
together-sum-requires c = sym c.any_pass.ensures ∙ c.if-any_pass.false

pub returns : goal.returns
unfolding added
returns c = ap (λ (s : Waits). record { refusal = 0; waits = s }) c.together-sum.ensures ∙ by-false _ c.any_pass.ensures c.if-any_pass.false
