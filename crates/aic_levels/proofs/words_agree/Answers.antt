-- That `words_agree` of src/lib.rt keeps its contract.
use mathlib.Core.Path.{ap}
use mathlib.Core.Bool.{◌&&◌}
use native.Mathlib.Omega.{arith}
use lib.Dec.{eqb}
use lib.ListN.{get_or}
use Rattle.words.specs.Counting.{all_below}
use Rattle.words.specs.Word.{bit, word_of}
use Rattle.words.proofs.CountingLaws.{at_end, all-none_yet, all_more}
use Rattle.aic_sources.specs.Search.{rank}
use Rattle.aic_levels.proofs.words_agree.Goals as goal

pub loop-p-init : goal.loop-p-init
loop-p-init c = (omega arith, all-none_yet _)

pub loop-p-preserved : goal.loop-p-preserved
loop-p-preserved c =
    let a = c.args in
    let l = c.loop-p in
    let t = c.loop-p-test.true in (
      omega (arith, t),
      all_more (λ q. eqb (get_or a.levels.now q 0) (word_of 32 (λ k. bit a.waits k && eqb (rank a.mode.now k) q))) l.p l.invariant.1
          (ap (eqb (get_or a.levels.now l.p 0)) c.level_word.ensures),
    )

pub returns : goal.returns
returns c =
    let a = c.args in
    at_end (λ n. all_below n (λ q. eqb (get_or a.levels.now q 0) (word_of 32 (λ k. bit a.waits k && eqb (rank a.mode.now k) q)))) _ 8 c.loop-p.invariant.0 c.loop-p-test.false c.loop-p.invariant.1
