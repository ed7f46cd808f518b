-- That `write_route` of src/effects.rt keeps its contract.
use native.Mathlib.Omega.{arith}
use Rattle.aintc_room.proofs.EffectLaws.{route-past}
use Rattle.aintc_room.proofs.effects.write_route.Goals as goal

pub returns-then-k-ge128 : goal.returns-then-k-ge128
returns-then-k-ge128 c = λ a h. route-past h _ _ c.if-k-ge128.true

pub put_route-requires : goal.put_route-requires
put_route-requires c = (omega (arith, c.if-k-ge128.false), omega arith)

pub returns : goal.returns
returns c = λ a h. c.put_route.ensures a h
