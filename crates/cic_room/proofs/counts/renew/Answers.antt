-- That `renew` of src/counts.rt keeps its contract.
use mathlib.Core.Path.{sym, subst}
use Prim.Native.Nat.{ℕ, ◌^◌, ◌<◌}
use native.Mathlib.Omega.{arith}
use Rattle.words.proofs.WordLaws.{with_bit_lt, either_lt}
use Rattle.cic_room.proofs.LeftLaws.{left-first, lowest_in, fewer-left}
use Rattle.cic_room.proofs.TurnLaws.{going-first, going_on, going_done}
use Rattle.cic_room.proofs.counts.renew.Goals as goal

pub loop-left-init : goal.loop-left-init
loop-left-init c =
    let d = c.differing-left.ensures in (
      subst (λ (x : ℕ). x < 2 ^ 32) (sym d.0) (either_lt _ _),
      (d.1.1, λ f e ws on u. going-first c.args.room.now c.args.k c.args.new _ c.requires on u d.1.0 (left-first _ _ _ d.0)),
    )

pub overflow_add-k-in-loop-left : goal.overflow_add-k-in-loop-left
overflow_add-k-in-loop-left c =
    let m = lowest_in c.loop-left.left c.lowest-i.result c.loop-left.invariant.0 c.loop-left-test.true c.lowest-i.ensures in
    omega (arith, m.0, c.requires)

pub overflow_cast-k-in-loop-left : goal.overflow_cast-k-in-loop-left
overflow_cast-k-in-loop-left c =
    let m = lowest_in c.loop-left.left c.lowest-i.result c.loop-left.invariant.0 c.loop-left-test.true c.lowest-i.ensures in
    omega (arith, m.0, c.requires)

pub turn-requires : goal.turn-requires
turn-requires c =
    let m = lowest_in c.loop-left.left c.lowest-i.result c.loop-left.invariant.0 c.loop-left-test.true c.lowest-i.ensures in
    omega (arith, m.0, c.requires)

pub loop-left-smaller : goal.loop-left-smaller
loop-left-smaller c =
    let m = lowest_in c.loop-left.left c.lowest-i.result c.loop-left.invariant.0 c.loop-left-test.true c.lowest-i.ensures in
    fewer-left c.loop-left.left c.lowest-i.result c.with_bit-left.result m.0 m.1 c.with_bit-left.ensures

pub loop-left-preserved : goal.loop-left-preserved
loop-left-preserved c =
    let l = c.loop-left in
    let i = c.lowest-i.result in
    let m = lowest_in l.left i l.invariant.0 c.loop-left-test.true c.lowest-i.ensures in (
      subst (λ (x : ℕ). x < 2 ^ 32) (sym c.with_bit-left.ensures) (with_bit_lt _ _ _),
      (
        l.invariant.1.0,
        λ f e ws on u. going_on c.args.k c.args.new l.left i _ _ l.room _ c.requires m.0 m.1 c.has.ensures c.with_bit-left.ensures (λ v. c.turn.ensures f e v on) (l.invariant.1.1 f e ws on u),
      ),
    )

pub returns : goal.returns
returns c =
    let l = c.loop-left in
    λ f e ws on u. going_done c.args.k c.args.new l.left l.room l.invariant.1.0 c.loop-left-test.false (l.invariant.1.1 f e ws on u)
