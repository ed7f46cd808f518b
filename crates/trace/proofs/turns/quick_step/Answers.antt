-- That `quick_step` of src/turns.rt keeps its contract.
use native.Mathlib.Omega.{arith}
use lib.Dec.{ltb}
use borrow.Author.Tests.{ltb-true}
use Rattle.words.proofs.TruthLaws.{and_left, and_right}
use Rattle.numbers.proofs.ShortLaws.{one_byte}
use Rattle.trace.proofs.turns.quick_step.Goals as goal

pub by_kind-requires : goal.by_kind-requires
by_kind-requires c =
    let k = c.wide-kind.result in
    let t = c.if-kind.true in
    (c.requires, (ltb-true 0 k (and_left (ltb 0 k) (ltb k 4) t), ltb-true k 4 (and_right (ltb 0 k) (ltb k 4) t)))

pub returns-then-kind : goal.returns-then-kind
returns-then-kind c =
    let k = c.wide-kind.result in (
      λ n.
          c.by_kind.ensures.0 n
          (one_byte c.args.trace.now c.args.at k c.wide-kind.ensures.0 (omega (arith, c.requires)) (omega (arith, ltb-true k 4 (and_right (ltb 0 k) (ltb k 4) c.if-kind.true)))),
      c.by_kind.ensures.1,
      c.by_kind.ensures.2,
    )

pub returns : goal.returns
returns c = (λ n. absurd (n c.unsure.ensures), omega (arith, c.unsure.ensures), λ n. absurd (n c.unsure.ensures))
