-- That `play_steps` of src/lib.rt keeps its contract.
use mathlib.Core.Path.{refl}
use mathlib.Core.Bool.{not}
use native.Mathlib.Omega.{arith}
use lib.Dec.{eqb}
use Rattle.words.proofs.CountingLaws.{one_le}
use Rattle.steps.specs.Refusals.{carried_out}
use Rattle.sheet_traces.proofs.LoopLaws.{begins, played-whole, small, some_left, stands, met, watches_on}
use Rattle.sheet_traces.proofs.play_steps.Goals as goal

pub loop-table-init : goal.loop-table-init
loop-table-init c = λ first ok n h e k b. begins _ _ _ _ first _ _ _ _ e h ok k b

pub returns-then-t-eq-ENDED : goal.returns-then-t-eq-ENDED
returns-then-t-eq-ENDED c =
    let p = c.requires in
    played-whole _ (c.loop-table.invariant c.args.first p.0 p.3 (c.lay-room.ensures p.1) c.watch_first-w.ensures (c.start-counts.ensures c.args.first p.2) c.start-book.ensures) c.turn-t.ensures _ c.if-t-eq-ENDED.true p.4 c.ended.ensures

pub overflow_add-n : goal.overflow_add-n
overflow_add-n c =
    let p = c.requires in
    omega (arith, small _ (c.loop-table.invariant c.args.first p.0 p.3 (c.lay-room.ensures p.1) c.watch_first-w.ensures (c.start-counts.ensures c.args.first p.2) c.start-book.ensures) c.turn-t.ensures p.3 c.if-t-eq-ENDED.false)

pub overflow_add-refused : goal.overflow_add-refused
overflow_add-refused c =
    let p = c.requires in
    let g = c.loop-table.invariant c.args.first p.0 p.3 (c.lay-room.ensures p.1) c.watch_first-w.ensures (c.start-counts.ensures c.args.first p.2) c.start-book.ensures in
    omega (arith, g.few, small _ g c.turn-t.ensures p.3 c.if-t-eq-ENDED.false, c.one_if-refused.ensures, one_le (not (eqb c.refusal_in-carried.result carried_out)))

pub watched_after-w-requires : goal.watched_after-w-requires
watched_after-w-requires c =
    let p = c.requires in
    let g = c.loop-table.invariant c.args.first p.0 p.3 (c.lay-room.ensures p.1) c.watch_first-w.ensures (c.start-counts.ensures c.args.first p.2) c.start-book.ensures in
    let m = small _ g c.turn-t.ensures p.3 c.if-t-eq-ENDED.false in
    (omega (arith, g.marks, m), omega (arith, g.ends, m))

pub overflow_sub-left : goal.overflow_sub-left
overflow_sub-left c =
    let p = c.requires in
    omega (arith, some_left _ (c.loop-table.invariant c.args.first p.0 p.3 (c.lay-room.ensures p.1) c.watch_first-w.ensures (c.start-counts.ensures c.args.first p.2) c.start-book.ensures) c.turn-t.ensures p.3 c.if-t-eq-ENDED.false)

pub loop-table-smaller : goal.loop-table-smaller
loop-table-smaller c =
    let p = c.requires in
    omega (arith, some_left _ (c.loop-table.invariant c.args.first p.0 p.3 (c.lay-room.ensures p.1) c.watch_first-w.ensures (c.start-counts.ensures c.args.first p.2) c.start-book.ensures) c.turn-t.ensures p.3 c.if-t-eq-ENDED.false)

pub loop-table-preserved : goal.loop-table-preserved
loop-table-preserved c =
    λ first ok n h e j k.
    let g = c.loop-table.invariant first ok n h e j k in
    let t = c.turn-t.ensures in
    watches_on _ g t n c.if-t-eq-ENDED.false c.step-a.new.room c.step-a.ensures _ _ _ _ refl c.refusal_in-carried.ensures c.marks-brings.ensures c.brought-m.ensures _ _ c.follow-in-loop-table.new.book
    c.follow.new.book
    (c.watched_after-w.ensures g.aic _ g.ok g.laid.shaped (stands _ g t n c.if-t-eq-ENDED.false c.step-a.new.room c.step-a.ensures)
    (met _ g t n c.if-t-eq-ENDED.false c.step-a.new.room c.step-a.ensures _ _ _ _ refl c.refusal_in-carried.ensures c.marks-brings.ensures c.brought-m.ensures _ c.is_idle-idle.ensures))
    c.one_if-refused.ensures c.follow-in-loop-table.ensures c.follow.ensures
