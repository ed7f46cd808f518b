-- That `held_word` of src/lib.rt keeps its contract.
use native.Mathlib.Omega.{arith}
use Rattle.words.specs.Word.{word_of}
use Rattle.words.proofs.CountingLaws.{at_end}
use Rattle.aic_bounds.proofs.WordLaws.{held_among, held_none, held_more, held-from}
use Rattle.aic_bounds.proofs.held_word.Goals as goal

pub loop-d-init : goal.loop-d-init
loop-d-init c = (omega arith, held_none c.args.s)

pub loop-d-preserved : goal.loop-d-preserved
loop-d-preserved c =
    let a = c.args in
    let l = c.loop-d in (
      omega arith,
      held_more a.s l.d _ _ _ _ _ l.invariant.1 c.source_at-j.ensures c.has.ensures
          c.is_over.ensures c.with_bit-w.ensures,
    )

pub returns : goal.returns
returns c =
    let a = c.args in
    let l = c.loop-d in
    held-from a.s _ _ (at_end (λ n. word_of 32 (held_among a.s n)) _ _ l.invariant.0 c.loop-d-test.false l.invariant.1) c.drop_bits.ensures
