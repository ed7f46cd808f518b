-- That `line_of` of src/slips.rt keeps its contract.
use native.Mathlib.Omega.{arith}
use lib.Dec.{eqb}
use lib.ListN.{get_or}
use Rattle.words.proofs.CountingLaws.{one_le}
use Rattle.tables.proofs.SlipLaws.{line_first, line-more, line-most, line-done}
use borrow.Author.Rules.{rules}
use Rattle.tables.proofs.slips.line_of.Goals as goal

pub loop-k-init : goal.loop-k-init
loop-k-init c = (search rules, line_first _)

pub overflow_add-lines : goal.overflow_add-lines
overflow_add-lines c =
    let l = c.loop-k in
    omega (arith, c.requires, l.invariant.0, l.invariant.1, line-most c.args.text.now l.k, c.feeds_at-lines.ensures, one_le (eqb (get_or c.args.text.now l.k 0) 10))

pub loop-k-preserved : goal.loop-k-preserved
loop-k-preserved c =
    let l = c.loop-k in
    (search rules, line-more _ l.k _ _ l.invariant.1 c.feeds_at-lines.ensures)

pub returns : goal.returns
returns c = let l = c.loop-k in line-done _ l.k _ _ l.invariant.1 l.invariant.0 (search rules)
