-- That `mode_word` of src/lib.rt keeps its contract.
use mathlib.Core.Path.{◌∙◌}
use native.Mathlib.Omega.{arith}
use lib.ListN.{get_or}
use Rattle.words.specs.Word.{bit, word_of}
use Rattle.words.proofs.CountingLaws.{at_end}
use Rattle.words.proofs.WordLaws.{word_of-none_yet, word_of-more}
use Rattle.aic_sources.specs.Search.{mode_word}
use Rattle.aic_sources.proofs.mode_word.Goals as goal

pub loop-k-init : goal.loop-k-init
loop-k-init c = (omega arith, word_of-none_yet _)

pub loop-k-preserved : goal.loop-k-preserved
loop-k-preserved c =
    let a = c.args in
    let l = c.loop-k in
    (omega arith, c.with_bit-w.ensures ∙ word_of-more (λ i. bit (get_or a.mode.now i 0) a.j) l.k c.loop-k-test.true l.invariant.1 c.mode_bit.ensures)

pub returns : goal.returns
unfolding mode_word
returns c =
    let a = c.args in
    at_end (λ n. word_of n (λ i. bit (get_or a.mode.now i 0) a.j)) _ 32 c.loop-k.invariant.0 c.loop-k-test.false c.loop-k.invariant.1
