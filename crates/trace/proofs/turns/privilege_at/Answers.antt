-- That `privilege_at` of src/turns.rt keeps its contract.
use mathlib.Core.Path.{sym}
use native.Mathlib.Omega.{arith}
use Rattle.trace.proofs.TurnsStepLaws.{has_privilege, no_privilege}
use Rattle.trace.proofs.turns.privilege_at.Goals as goal

pub returns-then-told-kind : goal.returns-then-told-kind
returns-then-told-kind c =
    let a = c.args in
    rw (sym (has_privilege a.told a.kind a.trace.now a.at c.if-told-kind.true)) c.short_in.ensures

pub returns : goal.returns
returns c = (sym (no_privilege _ _ _ _ c.if-told-kind.false), omega arith)
