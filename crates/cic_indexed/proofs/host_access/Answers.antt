-- That `host_access` of src/lib.rt keeps its contract.
use borrow.Author.Tests.{lt-ltb, le-ltb}
use Rattle.words.proofs.ChoiceLaws.{pick_true, pick-false}
use Rattle.cic_indexed.specs.Registers.{host_access}
use Rattle.cic_indexed.proofs.host_access.Goals as goal

pub returns-then-h-p : goal.returns-then-h-p
unfolding host_access
returns-then-h-p c = let a = c.args in pick_true _ (lt-ltb a.h.0 a.p.cic.hosts c.if-h-p.true)

pub returns : goal.returns
unfolding host_access
returns c = let a = c.args in pick-false _ (le-ltb a.h.0 a.p.cic.hosts c.if-h-p.false)
