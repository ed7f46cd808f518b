-- That `shows` of src/lib.rt keeps its contract.
use mathlib.Core.Path.{refl}
use Rattle.explain.proofs.ExplainLaws.{shows-all, shows_early, shows_late}
use Rattle.explain.proofs.shows.Goals as goal

pub returns-in-Whole : goal.returns-in-Whole
returns-in-Whole c = rw c.in-Whole.is (shows-all _)

pub returns-then-n-first : goal.returns-then-n-first
returns-then-n-first c = rw c.in-Part.is (shows_early _ _ _ c.if-n-first.true)

pub returns-else-n-first : goal.returns-else-n-first
returns-else-n-first c = rw c.in-Part.is (shows_late _ _ _ _ c.if-n-first.false refl)
