-- That `last_source` of src/lib.rt keeps its contract.
use Prim.Native.Nat.{ℕ}
use mathlib.Core.Path.{ap, ◌∙◌}
use Rattle.aic_record.specs.Sound.{source_at}
use Rattle.aic_bounds.proofs.last_source.Goals as goal

pub returns : goal.returns
returns c = c.source_at.ensures ∙ ap (λ (n : ℕ). source_at c.args.s n) c.saturating_sub.ensures
