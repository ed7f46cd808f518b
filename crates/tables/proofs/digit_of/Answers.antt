-- That `digit_of` of src/lib.rt keeps its contract.
use native.Mathlib.Omega.{arith}
use Rattle.std.proofs.lemmas.Grind.{common_steps}
use Rattle.words.specs.Choice.{pick}
use Rattle.tables.specs.Number.{digit}
use Rattle.tables.specs.Passes.{digit_to}
use Rattle.tables.proofs.digit_of.Goals as goal

pub returns-in_default : goal.returns-in_default
unfolding digit digit_to pick
returns-in_default c = grind (arith, common_steps)

pub returns-in_default-2 : goal.returns-in_default-2
unfolding digit digit_to pick
returns-in_default-2 c = grind (arith, common_steps)

pub returns-in_default-3 : goal.returns-in_default-3
unfolding digit digit_to pick
returns-in_default-3 c = grind (arith, common_steps)

pub returns-in_default-4 : goal.returns-in_default-4
unfolding digit digit_to pick
returns-in_default-4 c = grind (arith, common_steps)

pub returns-then-digit-base : goal.returns-then-digit-base
unfolding digit digit_to pick
returns-then-digit-base c = grind (arith, common_steps)

pub returns : goal.returns
unfolding digit digit_to pick
returns c = grind (arith, common_steps)
