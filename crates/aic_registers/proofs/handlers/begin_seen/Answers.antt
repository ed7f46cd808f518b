-- That `begin_seen` of src/handlers.rt keeps its contract.
use mathlib.Core.Path.{ap₂, ◌∙◌}
use borrow.Author.Tests.{eq-eqb, ne_eqb}
use Rattle.words.proofs.ChoiceLaws.{pick_true, pick-false}
use Rattle.aic_record.specs.Record.{with_seen}
use Rattle.aic_registers.specs.Handlers.{begun}
use Rattle.aic_registers.proofs.handlers.begin_seen.Goals as goal

pub returns-then-seen-eq0 : goal.returns-then-seen-eq0
unfolding begun
returns-then-seen-eq0 c = pick_true _ (eq-eqb _ _ c.if-seen-eq0.true)

pub returns : goal.returns
unfolding begun
returns c = c.with_seen.ensures ∙ ap₂ with_seen c.open_seen.ensures c.nothing_seen.ensures ∙ pick-false _ (ne_eqb _ _ c.if-seen-eq0.false)
