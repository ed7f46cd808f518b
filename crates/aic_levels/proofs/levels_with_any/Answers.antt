-- That `levels_with_any` of src/lib.rt keeps its contract.
use mathlib.Core.Path.{ap, ◌∙◌}
use mathlib.Core.Bool.{not}
use Prim.Native.Nat.{ℕ}
use native.Mathlib.Omega.{arith}
use lib.Dec.{eqb}
use lib.ListN.{get_or}
use Rattle.words.specs.Word.{word_of}
use Rattle.words.proofs.CountingLaws.{at_end}
use Rattle.words.proofs.WordLaws.{word_of-none_yet, word_of-more}
use Rattle.aic_levels.proofs.levels_with_any.Goals as goal

pub loop-level-init : goal.loop-level-init
loop-level-init c = (omega arith, word_of-none_yet _)

pub loop-level-preserved : goal.loop-level-preserved
loop-level-preserved c =
    let a = c.args in
    let l = c.loop-level in
    let t = c.loop-level-test.true in
    (omega (arith, t), c.with_bit-any.ensures ∙ word_of-more (λ i. not (eqb (get_or a.levels.now i 0) 0)) l.level (omega (arith, t)) l.invariant.1 (ap (λ (w : ℕ). not (eqb w 0)) c.word_at.ensures))

pub returns : goal.returns
returns c =
    let a = c.args in
    at_end (λ n. word_of n (λ i. not (eqb (get_or a.levels.now i 0) 0))) _ 8 c.loop-level.invariant.0 (omega arith) c.loop-level.invariant.1
