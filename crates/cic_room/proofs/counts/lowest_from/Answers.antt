-- That `lowest_from` of src/counts.rt keeps its contract.
use native.Mathlib.Omega.{arith}
use Rattle.words.specs.Word.{bit}
use Rattle.words.proofs.CountingLaws.{lowest_found}
use Rattle.cic_room.specs.Room.{permitted, reached}
use Rattle.cic_room.proofs.AssertLaws.{none_more, lowest_here, lowest-none}
use Rattle.cic_room.proofs.LeftLaws.{lowest_in}
use mir.Syntax.{w32}
use mir.Val.{Fits}
use borrow.Author.Rules.{rules}
use Rattle.cic_room.proofs.counts.lowest_from.Goals as goal

pub loop-k-init : goal.loop-k-init
loop-k-init c = (c.requires, λ f d n b a u x g h t z. z)

pub overflow_add-result : goal.overflow_add-result
overflow_add-result c = let l = c.loop-k in omega (arith, c.loop-k-test.true, c.lowest.ensures, (lowest_found 32 (bit c.asserted_word-w.result)).within)

pub returns-then-w-ne0 : goal.returns-then-w-ne0
returns-then-w-ne0 c =
    let l = c.loop-k in
    let f : Fits w32 c.asserted_word-w.result = search rules in
    let m = lowest_in c.asserted_word-w.result c.lowest.result f.fits c.if-w-ne0.true c.lowest.ensures in
    λ f d n b a u x g h t z.
    lowest_here (reached (permitted d) g) l.k _ c.lowest.result c.loop-k-test.true (c.asserted_word-w.ensures f d n b a u x g h t) m c.lowest.ensures
    (l.invariant.1 f d n b a u x g h t z)

pub loop-k-preserved : goal.loop-k-preserved
loop-k-preserved c =
    let l = c.loop-k in
    let q = c.loop-k-test.true in (
      omega (arith, q),
      λ f d n b a u x g h t z. none_more (reached (permitted d) g) l.k _ (c.asserted_word-w.ensures f d n b a u x g h t) c.if-w-ne0.false (l.invariant.1 f d n b a u x g h t z),
    )

pub returns : goal.returns
returns c = let l = c.loop-k in λ f d n b a u x g h t z. lowest-none (reached (permitted d) g) (λ i m. l.invariant.1 f d n b a u x g h t z i (omega (arith, m, c.loop-k-test.false)))
