-- That `tally_steps` of src/lib.rt keeps its contract.
use mathlib.Core.Path.{refl, ◌∙◌}
use mathlib.Core.Bool.{false, not}
use native.Mathlib.Omega.{arith}
use lib.Dec.{eqb}
use Rattle.words.proofs.CountingLaws.{one_le}
use Rattle.steps.specs.Refusals.{carried_out}
use Rattle.trace.proofs.TurnLaws.{ends_here, found_here}
use Rattle.aic_waits.specs.Following.{no_figures}
use Rattle.player.proofs.LoopLaws.{stands}
use Rattle.tally.proofs.LoopLaws.{tallies_on}
use Rattle.tally.proofs.TurnLaws.{tallied-ended}
use Rattle.tally.proofs.tally_steps.Goals as goal

pub loop-room-init : goal.loop-room-init
loop-room-init c =
    λ first r n h k.
    record { stood = stands false first _ r h; figures = no_figures; followed = (first.aic, k, λ _. refl); whole = refl; counted = omega arith; few = omega arith; far = omega arith }

pub returns-then-t-eq-ENDED : goal.returns-then-t-eq-ENDED
returns-then-t-eq-ENDED c =
    let p = c.requires in
    let g = c.loop-room.invariant c.args.first p.0 p.2 (c.lay-room.ensures p.0.0) (c.start-book.ensures c.args.first.aic p.1) in
    let k = g.followed in
    rw (c.totals_in-f.ensures g.figures k.0 _ k.1)
    (tallied-ended _ _ g.figures _ _ _ _ _ _ _ (ends_here _ _ _ _ _ c.sure-t.ensures.0 c.if-t-eq-ENDED.true) ∙ g.whole)

pub step-a-requires : goal.step-a-requires
step-a-requires c = (omega (arith, c.if-t-eq-ENDED.false), c.sure-t.ensures.1)

pub overflow_add-refused : goal.overflow_add-refused
overflow_add-refused c =
    let p = c.requires in
    let g = c.loop-room.invariant c.args.first p.0 p.2 (c.lay-room.ensures p.0.0) (c.start-book.ensures c.args.first.aic p.1) in
    omega (arith, (found_here _ _ _ _ _ c.sure-t.ensures.0 c.if-t-eq-ENDED.false).1.0, g.counted, g.few, c.refused_one-refused.ensures, one_le (not (eqb c.refusal_in.result carried_out)), c.ranges.limit)

pub overflow_sub-left : goal.overflow_sub-left
overflow_sub-left c =
    omega (arith, (found_here _ _ _ _ _ c.sure-t.ensures.0 c.if-t-eq-ENDED.false).1.0)

pub overflow_add-count : goal.overflow_add-count
overflow_add-count c =
    let p = c.requires in
    let g = c.loop-room.invariant c.args.first p.0 p.2 (c.lay-room.ensures p.0.0) (c.start-book.ensures c.args.first.aic p.1) in
    omega (arith, (found_here _ _ _ _ _ c.sure-t.ensures.0 c.if-t-eq-ENDED.false).1.0, g.counted, c.ranges.limit)

pub loop-room-smaller : goal.loop-room-smaller
loop-room-smaller c =
    omega (arith, (found_here _ _ _ _ _ c.sure-t.ensures.0 c.if-t-eq-ENDED.false).1.0)

pub loop-room-preserved : goal.loop-room-preserved
loop-room-preserved c =
    λ first r n h k.
    tallies_on _ (c.loop-room.invariant first r n h k) n c.sure-t.ensures.0 c.if-t-eq-ENDED.false c.step-a.new.room c.follow_any.new.book _
    c.step-a.ensures c.refused_one-refused.result c.refusal_in.result c.refused_one-refused.ensures c.refusal_in.ensures
    c.follow_any.ensures
