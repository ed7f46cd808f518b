-- That `class_word` of src/lib.rt keeps its contract.
use mathlib.Core.Path.{ap, ◌∙◌}
use Prim.Native.Nat.{ℕ}
use native.Mathlib.Omega.{arith}
use lib.Dec.{eqb}
use Rattle.words.specs.Word.{word_of}
use Rattle.words.proofs.CountingLaws.{at_end}
use Rattle.words.proofs.WordLaws.{word_of-none_yet, word_of-more}
use Rattle.aic_sources.specs.Search.{rank}
use Rattle.aic_levels.proofs.class_word.Goals as goal

pub loop-k-init : goal.loop-k-init
loop-k-init c = (omega arith, word_of-none_yet _)

pub loop-k-preserved : goal.loop-k-preserved
loop-k-preserved c =
    let a = c.args in
    let l = c.loop-k in (
      omega (arith, c.loop-k-test.true),
      c.with_bit-w.ensures
          ∙ word_of-more (λ i. eqb (rank a.mode.now i) a.p) l.k c.loop-k-test.true l.invariant.1
          (ap (λ (y : ℕ). eqb y a.p) c.priority_of.ensures),
    )

pub returns : goal.returns
returns c =
    let a = c.args in
    at_end (λ n. word_of n (λ i. eqb (rank a.mode.now i) a.p)) _ 32 c.loop-k.invariant.0 c.loop-k-test.false c.loop-k.invariant.1
