-- That `free` of src/lib.rt keeps its contract.
use mathlib.Core.Path.{refl, ◌∙◌}
use native.Mathlib.Omega.{arith}
use Rattle.drawing.proofs.FreeLaws.{free_here, free_on, free_end}
use Rattle.drawing.proofs.free.Goals as goal

pub loop-j-init : goal.loop-j-init
loop-j-init c = refl

pub returns-then-entries_of-place : goal.returns-then-entries_of-place
returns-then-entries_of-place c =
    free_here _ _ _ c.loop-j-test.true (omega (arith, c.entries_of.ensures)) ∙ c.loop-j.invariant

pub loop-j-preserved : goal.loop-j-preserved
loop-j-preserved c =
    free_on _ _ _ c.loop-j-test.true (omega (arith, c.entries_of.ensures)) ∙ c.loop-j.invariant

pub returns : goal.returns
returns c = free_end c.args.ws.now c.args.place c.loop-j.j c.args.k _ (omega arith) (λ h. omega arith) c.loop-j.invariant
