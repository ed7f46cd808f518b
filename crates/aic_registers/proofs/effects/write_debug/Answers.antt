-- That `write_debug` of src/effects.rt keeps its contract.
use mathlib.Core.Path.{ap, ap₂, ◌∙◌}
use Rattle.aic_record.specs.Record.{with_debug, with_seen}
use Rattle.words.proofs.ChoiceLaws.{by-true, by-false}
use Rattle.aic_registers.specs.Effects.{debug_by}
use Rattle.aic_registers.proofs.effects.write_debug.Goals as goal

pub returns-then-has : goal.returns-then-has
unfolding debug_by
returns-then-has c = c.with_debug-t.ensures ∙ ap (with_debug c.args.s) c.keep.ensures ∙ by-true _ c.has.ensures c.if-has.true

pub returns : goal.returns
unfolding debug_by
returns c = c.with_seen.ensures ∙ ap₂ with_seen (c.with_debug-t.ensures ∙ ap (with_debug c.args.s) c.keep.ensures) c.nothing_seen.ensures
    ∙ by-false _ c.has.ensures c.if-has.false
