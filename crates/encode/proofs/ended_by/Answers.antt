-- That `ended_by` of src/lib.rt keeps its contract.
use borrow.Author.Tests.{eq-eqb, ne_eqb}
use Rattle.words.proofs.ChoiceLaws.{pick_true, pick-false}
use Rattle.encode.specs.Encode.{ended_by}
use Rattle.encode.proofs.ended_by.Goals as goal

pub returns-then-kind-eq-NO_KIND : goal.returns-then-kind-eq-NO_KIND
unfolding ended_by
returns-then-kind-eq-NO_KIND c = rw c.number.ensures (pick_true _ (eq-eqb _ _ c.if-kind-eq-NO_KIND.true))

pub returns : goal.returns
unfolding ended_by
returns c = pick-false _ (ne_eqb _ _ c.if-kind-eq-NO_KIND.false)
