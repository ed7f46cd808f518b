-- That `by_kind` of src/turns.rt keeps its contract.
use mathlib.Core.Path.{refl, sym, ◌∙◌}
use native.Mathlib.Omega.{arith}
use Rattle.trace.proofs.TurnsStepLaws.{read_found, other_found}
use Rattle.trace.proofs.turns.by_kind.Goals as goal

pub returns-then-kind-eq-READ : goal.returns-then-kind-eq-READ
returns-then-kind-eq-READ c = (
  λ n e.
      c.found.ensures.0 c.requires.1.0
      ∙ sym (read_found _ _ _ _ _ _ _ _ c.args.told c.if-kind-eq-READ.true e c.in-Some.ensures.0 c.in-Some-privilege_at.ensures.0),
  omega (arith, c.found.ensures.1, c.requires.1.1),
  λ n. c.found.ensures.2 c.requires.1.0 (λ e. refl),
)

pub returns : goal.returns
returns c = (
  λ n e.
      c.found-2.ensures.0 c.requires.1.0
      ∙ sym
      (other_found _ _ _ _ _ _ _ _ _ _ c.args.told c.if-kind-eq-READ.false c.requires.1.0 c.requires.1.1 e c.in-Some.ensures.0
      c.in-Some-privilege_at.ensures.0 c.in-Some-short_in.ensures.0),
  omega (arith, c.found-2.ensures.1, c.requires.1.1),
  λ n. c.found-2.ensures.2 c.requires.1.0 (λ e. absurd (c.if-kind-eq-READ.false e)),
)
