-- That `free` of src/lib.rt keeps its contract.
use Rattle.drawing.specs.Bars.{free}
use mathlib.Core.Path.{◌≡◌}
use Rattle.drawing.proofs.free.Given as goal

abbrev pub invariant-loop-j : goal.invariant-loop-j
invariant-loop-j l = free l.ws l.place l.j ≡ free l.ws l.place l.k
