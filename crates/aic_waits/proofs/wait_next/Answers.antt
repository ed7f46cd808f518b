-- That `wait_next` of src/lib.rt keeps its contract.
use Rattle.aic_waits.proofs.FigureLaws.{capped-min, wait-ended, wait_started, wait-begun, wait_on}
use Rattle.std.specs.Prelude.{min}
use Prim.Native.Nat.{ℕ, ◌+◌}
use mathlib.Core.Path.{ap, ◌∙◌}
use mathlib.Core.Bool.{not}
use Rattle.aic_waits.proofs.wait_next.Goals as goal

pub returns-then-not-waits : goal.returns-then-not-waits
returns-then-not-waits c = wait-ended _ _ _ _ (ap not c.if-not-waits.true)

pub returns-then-own : goal.returns-then-own
returns-then-own c = wait_started _ _ _ _ (ap not c.if-not-waits.false) c.if-own.true

pub returns-then-w-eq0 : goal.returns-then-w-eq0
returns-then-w-eq0 c = wait-begun _ _ _ _ (ap not c.if-not-waits.false) c.if-own.false c.if-w-eq0.true

pub returns : goal.returns
returns c = wait_on _ _ _ _ _ (ap not c.if-not-waits.false) c.if-own.false c.if-w-eq0.false (capped-min _ _ (c.saturating_add.ensures ∙ ap (λ (n : ℕ). min (c.args.w + n) 4294967295) c.one_if.ensures))
