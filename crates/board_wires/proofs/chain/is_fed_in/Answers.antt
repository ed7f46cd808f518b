-- That `is_fed_in` of src/chain.rt keeps its contract.
use Rattle.words.specs.Counting.{any_below}
use Rattle.board_wires.specs.declared.Wire.{Wire}
use Rattle.board_wires.specs.Wires.{wire_in}
use Rattle.board_wires.specs.Chain.{leads_to, feeds_in}
use Rattle.words.proofs.CountingLaws.{any-none_yet, any-more, at_end}
use native.Mathlib.Omega.{arith}
use mathlib.Core.Path.{ap, ◌∙◌}
use Rattle.board_wires.proofs.chain.is_fed_in.Goals as goal

pub loop-i-init : goal.loop-i-init
loop-i-init c = (omega arith, any-none_yet _)

pub loop-i-preserved : goal.loop-i-preserved
loop-i-preserved c =
    let a = c.args in (
      omega arith,
      any-more (λ k. leads_to (wire_in a.wire.now a.c k) a.d) _ c.loop-i.invariant.1 (c.leads-on.ensures ∙ ap (λ (w : Wire). leads_to w a.d) c.wire_in.ensures),
    )

pub returns : goal.returns
unfolding feeds_in
returns c =
    let a = c.args in
    at_end (λ n. any_below n (λ k. leads_to (wire_in a.wire.now a.c k) a.d)) c.loop-i.i 40 c.loop-i.invariant.0 c.loop-i-test.false c.loop-i.invariant.1
