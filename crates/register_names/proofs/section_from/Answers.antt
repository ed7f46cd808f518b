-- That `section_from` of src/lib.rt keeps its contract.
use native.Mathlib.Omega.{arith}
use Rattle.words.proofs.ChoiceLaws.{pick_true, pick-false}
use Rattle.register_names.specs.Table.{section_from}
use Rattle.register_names.proofs.section_from.Goals as goal

pub returns-then-written : goal.returns-then-written
unfolding section_from
returns-then-written c = (pick_true _ c.if-written.true, omega arith)

pub returns : goal.returns
unfolding section_from
returns c = (pick-false _ c.if-written.false, omega arith)
