-- That `search` of src/lib.rt keeps its contract.
use mathlib.Core.Path.{◌∙◌}
use native.Mathlib.Omega.{arith}
use Rattle.words.proofs.ChoiceLaws.{pick_true, pick-false}
use Rattle.aic_sources.proofs.SearchLaws.{search-none, search-more, search-done}
use Rattle.aic_sources.proofs.search.Goals as goal
use Rattle.aic_sources.proofs.search.Goals.{then-has-floor, else-has-floor}

pub loop-k-init : goal.loop-k-init
loop-k-init c = (omega arith, search-none _ _ _)

pub loop-k-preserved : goal.loop-k-preserved
loop-k-preserved c =
    let a = c.args in
    let l = c.loop-k in
    elim c.if-has-floor.branch [
      | then-has-floor w ↦ (
        omega arith,
        search-more a.waiting a.mode.now a.least l.k l.best l.floor _ _ c.loop-k-test.true l.invariant.1
            c.priority_of-priority.ensures c.has.ensures (w.best-is ∙ pick_true _ w.if-has-floor.true) (w.floor-is ∙ pick_true _ w.if-has-floor.true),
      )
      | else-has-floor w ↦ (
        omega arith,
        search-more a.waiting a.mode.now a.least l.k l.best l.floor _ _ c.loop-k-test.true l.invariant.1
            c.priority_of-priority.ensures c.has.ensures (w.best-is ∙ pick-false _ w.if-has-floor.false) (w.floor-is ∙ pick-false _ w.if-has-floor.false),
      )
    ]

pub returns : goal.returns
returns c =
    let a = c.args in
    let l = c.loop-k in
    search-done a.waiting a.mode.now a.least l.k l.best l.invariant.0 c.loop-k-test.false l.invariant.1.0
