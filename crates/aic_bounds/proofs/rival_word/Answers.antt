-- That `rival_word` of src/lib.rt keeps its contract.
use mathlib.Core.Path.{◌∙◌}
use native.Mathlib.Omega.{arith}
use Rattle.words.specs.Word.{word_of}
use Rattle.words.proofs.CountingLaws.{at_end}
use Rattle.words.proofs.WordLaws.{word_of-none_yet, word_of-more}
use Rattle.aic_runs.specs.Promises.{rival_of}
use Rattle.aic_bounds.proofs.rival_word.Goals as goal

pub loop-i-init : goal.loop-i-init
loop-i-init c = (omega arith, word_of-none_yet _)

pub loop-i-preserved : goal.loop-i-preserved
loop-i-preserved c =
    let a = c.args in
    let l = c.loop-i in (
      omega arith,
      c.with_bit-w.ensures ∙ word_of-more (rival_of a.s a.k) l.i c.loop-i-test.true l.invariant.1
          c.is_rival.ensures,
    )

pub returns : goal.returns
returns c =
    let a = c.args in
    at_end (λ n. word_of n (rival_of a.s a.k)) _ 32 c.loop-i.invariant.0 c.loop-i-test.false c.loop-i.invariant.1
