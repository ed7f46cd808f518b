-- That `place_of` of src/sides.rt keeps its contract.
use mathlib.Core.Path.{sym, ap}
use native.Mathlib.Omega.{arith}
use Rattle.aintc_room.specs.Room.{chosen_from}
use Rattle.aintc_room.proofs.sides.place_of.Goals as goal

pub returns-then-fast : goal.returns-then-fast
returns-then-fast c = (sym (ap chosen_from c.if-fast.true), omega arith)

pub returns : goal.returns
returns c = (sym (ap chosen_from c.if-fast.false), omega arith)
