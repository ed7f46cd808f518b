-- That `access_of` of src/map.rt keeps its contract.
use Rattle.aic_registers.specs.Map.{access}
use native.Mathlib.Omega.{arith}
use borrow.Author.Tests.{ne_eqb, lt-ltb, le-ltb, le-leb, lt-leb}
use Rattle.words.specs.Choice.{pick}
use Rattle.words.proofs.ChoiceLaws.{pick_true, pick-false}
use mathlib.Core.Path.{sym, ap, ◌∙◌}
use Rattle.aic_registers.proofs.map.access_of.Goals as goal

pub returns-in-0-to-256 : goal.returns-in-0-to-256
unfolding access
returns-in-0-to-256 c = pick_true _ (le-leb _ 256 (omega arith))

pub returns-in-0-to-276 : goal.returns-in-0-to-276
unfolding access
returns-in-0-to-276 c = pick_true _ (le-leb _ 276 (omega arith)) ∙ pick-false _ (lt-leb _ 256 (omega arith))

pub returns-in-0-to-287 : goal.returns-in-0-to-287
unfolding access
returns-in-0-to-287 c = pick_true _ (lt-ltb _ 288 (omega arith)) ∙ pick-false _ (lt-leb _ 276 (omega arith)) ∙ pick-false _ (lt-leb _ 256 (omega arith))

pub returns-in-0-to-304 : goal.returns-in-0-to-304
unfolding access
returns-in-0-to-304 c = pick_true _ (le-leb _ 304 (omega arith)) ∙ pick-false _ (le-ltb _ 288 (omega arith)) ∙ pick-false _ (lt-leb _ 276 (omega arith)) ∙ pick-false _ (lt-leb _ 256 (omega arith))

pub returns-in-0-to-312 : goal.returns-in-0-to-312
unfolding access
returns-in-0-to-312 c = pick_true _ (le-leb _ 312 (omega arith)) ∙ pick-false _ (lt-leb _ 304 (omega arith)) ∙ pick-false _ (le-ltb _ 288 (omega arith)) ∙ pick-false _ (lt-leb _ 276 (omega arith)) ∙ pick-false _ (lt-leb _ 256 (omega arith))

pub returns-in-0-to-319 : goal.returns-in-0-to-319
unfolding access
returns-in-0-to-319 c = pick_true _ (lt-ltb _ 320 (omega arith)) ∙ pick-false _ (lt-leb _ 312 (omega arith)) ∙ pick-false _ (lt-leb _ 304 (omega arith)) ∙ pick-false _ (le-ltb _ 288 (omega arith)) ∙ pick-false _ (lt-leb _ 276 (omega arith)) ∙ pick-false _ (lt-leb _ 256 (omega arith))

pub returns-in-0-to-324 : goal.returns-in-0-to-324
unfolding access
returns-in-0-to-324 c = pick_true _ (le-leb _ 324 (omega arith)) ∙ pick-false _ (le-ltb _ 320 (omega arith)) ∙ pick-false _ (lt-leb _ 312 (omega arith)) ∙ pick-false _ (lt-leb _ 304 (omega arith)) ∙ pick-false _ (le-ltb _ 288 (omega arith)) ∙ pick-false _ (lt-leb _ 276 (omega arith)) ∙ pick-false _ (lt-leb _ 256 (omega arith))

pub returns-in-328 : goal.returns-in-328
unfolding access pick
returns-in-328 c = sym (ap access c.in-328.is)

pub returns-in_default : goal.returns-in_default
unfolding access
returns-in_default c = pick-false _ (ne_eqb _ 328 (omega arith)) ∙ pick-false _ (lt-leb _ 324 (omega arith)) ∙ pick-false _ (le-ltb _ 320 (omega arith)) ∙ pick-false _ (lt-leb _ 312 (omega arith)) ∙ pick-false _ (lt-leb _ 304 (omega arith)) ∙ pick-false _ (le-ltb _ 288 (omega arith)) ∙ pick-false _ (lt-leb _ 276 (omega arith)) ∙ pick-false _ (lt-leb _ 256 (omega arith))
