-- That `see` of src/lib.rt keeps its contract.
use native.Mathlib.Omega.{arith}
use borrow.Author.Tests.{lt-ltb, le-ltb}
use Rattle.words.specs.Choice.{pick}
use Rattle.aic_figures.proofs.see.Goals as goal

pub returns-then-k-eq0 : goal.returns-then-k-eq0
unfolding pick
returns-then-k-eq0 c = rw (le-ltb 0 c.args.k (omega (arith, c.if-k-eq0.true)))

pub returns : goal.returns
unfolding pick
returns c = rw (c.max-m.ensures, lt-ltb 0 c.args.k (omega (arith, c.if-k-eq0.false)))
