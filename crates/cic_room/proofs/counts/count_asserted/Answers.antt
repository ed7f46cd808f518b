-- That `count_asserted` of src/counts.rt keeps its contract.
use Prim.Native.Nat.{◌*◌}
use native.Mathlib.Omega.{arith}
use Rattle.words.specs.Counting.{count_below}
use Rattle.words.specs.Word.{bit}
use Rattle.words.proofs.CountingLaws.{count_le, count-none_yet, at_end}
use Rattle.cic_room.specs.Room.{permitted, reached}
use Rattle.cic_room.proofs.AssertLaws.{count-more}
use Rattle.cic_room.proofs.counts.count_asserted.Goals as goal

pub loop-k-init : goal.loop-k-init
loop-k-init c = (omega arith, (omega arith, λ f d n b a u x g h t. count-none_yet (reached (permitted d) g)))

pub overflow_add-sum : goal.overflow_add-sum
overflow_add-sum c = let l = c.loop-k in omega (arith, l.invariant.1.0, l.invariant.0, c.count-sum.ensures, count_le 32 (bit c.asserted_word.result))

pub loop-k-preserved : goal.loop-k-preserved
loop-k-preserved c =
    let l = c.loop-k in
    let q = c.loop-k-test.true in (
      omega (arith, q),
      (
        omega (arith, l.invariant.1.0, c.count-sum.ensures, count_le 32 (bit c.asserted_word.result)),
        λ f d n b a u x g h t. count-more (reached (permitted d) g) l.k _ l.sum _ (c.asserted_word.ensures f d n b a u x g h t) c.count-sum.ensures (l.invariant.1.1 f d n b a u x g h t),
      ),
    )

pub returns : goal.returns
returns c = let l = c.loop-k in λ f d n b a u x g h t. at_end (λ k. count_below (32 * k) (reached (permitted d) g)) l.k 8 l.invariant.0 c.loop-k-test.false (l.invariant.1.1 f d n b a u x g h t)
