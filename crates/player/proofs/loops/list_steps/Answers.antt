-- That `list_steps` of src/loops.rt keeps its contract.
use mathlib.Core.Path.{refl, ap, ◌∙◌}
use mathlib.Core.Bool.{true}
use native.Mathlib.Omega.{arith}
use Rattle.text.specs.Text.{write}
use Rattle.trace.proofs.TurnLaws.{ends_here, found_here}
use Rattle.lines.proofs.LineLaws.{text-ended}
use Rattle.player.proofs.LoopLaws.{stands, lists_on}
use borrow.Author.Rules.{rules}
use Rattle.player.proofs.loops.list_steps.Goals as goal

pub loop-room-init : goal.loop-room-init
loop-room-init c = (λ first h r. record { stood = stands true first c.lay-room.result r h; listing = refl; counted = omega arith }, refl, c.numeral_of-numeral.ensures)

pub returns-then-t-eq-ENDED : goal.returns-then-t-eq-ENDED
returns-then-t-eq-ENDED c =
    let p = c.requires in
    let g = c.loop-room.invariant.0 c.args.first (c.lay-room.ensures p.0) p in
    c.put_end.ensures ∙ ap (write _) (text-ended _ _ _ _ _ _ _ _ (ends_here _ _ _ _ _ c.sure-t.ensures.0 c.if-t-eq-ENDED.true)) ∙ g.listing

-- a step that is found is of kind 1, 2 or 3
pub step-a-requires : goal.step-a-requires
step-a-requires c = (omega (arith, c.if-t-eq-ENDED.false), c.sure-t.ensures.1)

-- a step is found only while something is left of the limit
pub overflow_sub-more : goal.overflow_sub-more
overflow_sub-more c =
    omega (arith, (found_here _ _ _ _ _ c.sure-t.ensures.0 c.if-t-eq-ENDED.false).1.0)

-- and then its number, with the limit, is a word's
pub following-numeral-requires : goal.following-numeral-requires
following-numeral-requires c =
    let p = c.requires in
    let g = c.loop-room.invariant.0 c.args.first (c.lay-room.ensures p.0) p in
    (c.loop-room.invariant.2, omega (arith, (found_here _ _ _ _ _ c.sure-t.ensures.0 c.if-t-eq-ENDED.false).1.0, g.counted, c.ranges.limit))

pub overflow_add-number : goal.overflow_add-number
overflow_add-number c =
    let p = c.requires in
    let g = c.loop-room.invariant.0 c.args.first (c.lay-room.ensures p.0) p in
    omega (arith, (found_here _ _ _ _ _ c.sure-t.ensures.0 c.if-t-eq-ENDED.false).1.0, g.counted, c.ranges.limit)

pub put_numbered-to-requires : goal.put_numbered-to-requires
put_numbered-to-requires c = c.following-numeral.ensures

pub loop-room-smaller : goal.loop-room-smaller
loop-room-smaller c =
    omega (arith, (found_here _ _ _ _ _ c.sure-t.ensures.0 c.if-t-eq-ENDED.false).1.0)

pub loop-room-preserved : goal.loop-room-preserved
loop-room-preserved c =
    let l = c.loop-room in (
      λ first h r. lists_on _ _ _ _ (l.invariant.0 first h r) c.sure-t.ensures.0 c.if-t-eq-ENDED.false c.step-a.ensures c.refusal_in-refusal.ensures c.value_in-value.ensures
          c.columns-c.ensures c.put_numbered-to.ensures,
      search rules,
      c.following-numeral.ensures,
    )
