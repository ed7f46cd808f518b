-- That `look` of src/indices.rt keeps its contract.
use Rattle.cic_held.proofs.IndexLaws.{turn_as, turn_found, turn-none, words_in, turn_words, turn_adds, sum-none_yet, sum_more, found_turn, found_no-turn}
use Rattle.cic_held.specs.Order.{leads}
use Rattle.words.specs.Counting.{sum_below}
use borrow.Author.Count.{below_more}
use mathlib.Core.Path.{◌≡◌, ap, ◌∙◌}
use native.Mathlib.Omega.{arith}
use Prim.Native.Nat.{ℕ}
use Rattle.cic_held.proofs.indices.look.Goals as goal

pub loop-k-init : goal.loop-k-init
loop-k-init c = (omega arith, (sum-none_yet _, λ i l. absurd (omega (arith, l))))

pub overflow_add-words : goal.overflow_add-words
overflow_add-words c =
    let l = c.loop-k in
    let t = leads c.args.c c.args.every c.args.h in
    omega (arith, turn_adds c.args.c t l.k l.words c.requires.0 l.invariant.1.0 (turn_as c.args.c (leads c.args.c c.args.every c.args.h) c.loop-k.k c.asks-asked.ensures c.turn-f.ensures), l.invariant.0, c.requires.1)

pub returns-then-f-systems : goal.returns-then-f-systems
returns-then-f-systems c =
    let l = c.loop-k in
    let a = c.args in
    let t = leads a.c a.every a.h in
    let r = turn_found a.c t l.k (turn_as c.args.c (leads c.args.c c.args.every c.args.h) c.loop-k.k c.asks-asked.ensures c.turn-f.ensures) c.if-f-systems.true in
    found_turn a.c t l.k c.loop-k-test.true l.invariant.1.1 r.0 r.1
    (sum_more (words_in a.c t) l.k l.invariant.1.0 (turn_words a.c t l.k (turn_as c.args.c (leads c.args.c c.args.every c.args.h) c.loop-k.k c.asks-asked.ensures c.turn-f.ensures)))

pub loop-k-preserved : goal.loop-k-preserved
loop-k-preserved c =
    let l = c.loop-k in
    let a = c.args in
    let t = leads a.c a.every a.h in (
      omega (arith, c.loop-k-test.true),
      (
        sum_more (words_in a.c t) l.k l.invariant.1.0 (turn_words a.c t l.k (turn_as c.args.c (leads c.args.c c.args.every c.args.h) c.loop-k.k c.asks-asked.ensures c.turn-f.ensures)),
        below_more _ _ l.invariant.1.1 (turn-none a.c t l.k (turn_as c.args.c (leads c.args.c c.args.every c.args.h) c.loop-k.k c.asks-asked.ensures c.turn-f.ensures) c.if-f-systems.false),
      ),
    )

pub returns : goal.returns
returns c =
    let l = c.loop-k in
    let a = c.args in
    let t = leads a.c a.every a.h in
    let e : l.k ≡ a.c.channels = omega (arith, c.loop-k-test.false, l.invariant.0) in
    found_no-turn a.c t (λ i m. l.invariant.1.1 i (omega (arith, m, e))) (l.invariant.1.0 ∙ ap (λ (n : ℕ). sum_below n (words_in a.c t)) e)
