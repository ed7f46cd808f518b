-- That `by_step` of src/turns.rt keeps its contract.
use mathlib.Core.Path.{refl, ◌∙◌}
use native.Mathlib.Omega.{arith}
use Rattle.trace.proofs.TurnLaws.{step-read, step-write, step_line, same_step}
use Rattle.trace.proofs.turns.by_step.Goals as goal

pub returns-in-Read : goal.returns-in-Read
returns-in-Read c =
    (rw c.in-Read.is (c.found.ensures.0 (omega arith) ∙ same_step _ _ (step-read 1 _ _ refl)), omega (arith, c.found.ensures.1), c.found.ensures.2 (omega arith) (λ e. refl))

pub returns-in-Write : goal.returns-in-Write
returns-in-Write c =
    (rw c.in-Write.is (c.found-in-Write.ensures.0 (omega arith) ∙ same_step _ _ (step-write 2 _ _ refl)), omega (arith, c.found-in-Write.ensures.1), c.found-in-Write.ensures.2 (omega arith) (λ e. absurd (omega arith)))

pub returns-in-Line : goal.returns-in-Line
returns-in-Line c =
    (rw c.in-Line.is (c.found-in-Line.ensures.0 (omega arith) ∙ same_step _ _ (step_line 3 _ _ (λ e. omega arith) (λ e. omega arith))), omega (arith, c.found-in-Line.ensures.1), c.found-in-Line.ensures.2 (omega arith) (λ e. absurd (omega arith)))
