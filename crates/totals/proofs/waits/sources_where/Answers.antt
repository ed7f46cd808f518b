-- That `sources_where` of src/waits.rt keeps its contract.
use mathlib.Core.Path.{◌∙◌}
use native.Mathlib.Omega.{arith}
use Rattle.words.specs.Word.{word_of}
use Rattle.words.proofs.CountingLaws.{at_end}
use Rattle.words.proofs.WordLaws.{word_of-none_yet, word_of-more}
use Rattle.totals.proofs.waits.sources_where.Goals as goal

pub loop-i-init : goal.loop-i-init
loop-i-init g c = (omega arith, λ p h. word_of-none_yet p)

pub loop-i-preserved : goal.loop-i-preserved
loop-i-preserved g c =
    let l = c.loop-i in
    (omega arith, λ p h. c.with_bit-w.ensures ∙ word_of-more p l.i c.loop-i-test.true (l.invariant.1 p h) (h l.i _ c.loop-i-test.true c.test.ensures))

pub returns : goal.returns
returns g c = λ p h. at_end (λ n. word_of n p) _ 32 c.loop-i.invariant.0 c.loop-i-test.false (c.loop-i.invariant.1 p h)
