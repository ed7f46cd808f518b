-- That `put_sources` of src/lib.rt keeps its contract.
use mathlib.Core.Path.{◌∙◌}
use native.Mathlib.Omega.{arith}
use Rattle.words.proofs.CountingLaws.{at_end}
use Rattle.text.specs.Text.{write}
use Rattle.text.proofs.WriteLaws.{write-laid, same_length as same_len}
use Rattle.report.specs.Printed.{source_lines}
use Rattle.report.proofs.SourceLaws.{lines_none, lines_more}
use borrow.Author.Rules.{rules}
use Rattle.report.proofs.put_sources.Goals as goal

pub loop-i-init : goal.loop-i-init
loop-i-init c = (omega arith, lines_none _ _)

pub loop-i-preserved : goal.loop-i-preserved
loop-i-preserved c =
    (search rules, lines_more _ _ _ c.args.t c.loop-i.i c.loop-i.invariant.1 c.put_source-at.ensures)

pub shape_of-out : goal.shape_of-out
shape_of-out c = same_len _ _ _ c.loop-i.invariant.1

pub returns : goal.returns
returns c =
    let a = c.args in
    at_end (λ n. write (a.out.now, 0) (source_lines n a.t)) _ _ c.loop-i.invariant.0 c.loop-i-test.false c.loop-i.invariant.1 ∙ write-laid _ _
