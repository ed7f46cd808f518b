-- That `count_start` of src/lib.rt keeps its contract.
use native.Mathlib.Omega.{arith}
use borrow.Author.Tests.{lt-ltb, le-ltb}
use Rattle.words.specs.Choice.{pick}
use Rattle.aic_figures.proofs.RowLaws.{capped-min}
use Rattle.aic_figures.proofs.count_start.Goals as goal

pub returns-then-by-ge32 : goal.returns-then-by-ge32
unfolding pick
returns-then-by-ge32 c = rw (le-ltb c.args.by 32 c.if-by-ge32.true)

pub returns : goal.returns
unfolding pick
returns c =
    rw (c.saturating_add-n.ensures, c.saturating_add-m.ensures, lt-ltb c.args.by 32 (omega (arith, c.if-by-ge32.false)))
    (simp capped-min)
