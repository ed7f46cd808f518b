-- That `needed_by` of src/lib.rt keeps its contract.
use Prim.Native.Nat.{ℕ}
use mathlib.Core.Path.{sym, ap, ◌∙◌}
use Rattle.words.proofs.ChoiceLaws.{by-true, by-false}
use Rattle.stack.specs.declared.Needed.{Needed}
use Rattle.stack.specs.Bytes.{needed}
use Rattle.stack.proofs.needed_by.Goals as goal

abbrev figure : ℕ → Needed
figure b = record { refusal = 0; bytes = b }

pub sum_levels-requires : goal.sum_levels-requires
sum_levels-requires c = sym c.within_limits.ensures ∙ c.if-within_limits.true

pub returns-then-within_limits : goal.returns-then-within_limits
unfolding needed
returns-then-within_limits c = ap figure c.sum_levels.ensures ∙ by-true _ c.within_limits.ensures c.if-within_limits.true

pub returns : goal.returns
unfolding needed
returns c = by-false _ c.within_limits.ensures c.if-within_limits.false
