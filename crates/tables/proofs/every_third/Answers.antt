-- That `every_third` of src/lib.rt keeps its contract.
use Prim.Native.Nat.{◌+◌, ◌*◌}
use mathlib.Core.Path.{refl, ◌∙◌}
use lib.ListN.{get_or}
use Rattle.tables.specs.Reading.{every_third}
use Rattle.tables.proofs.FillLaws.{room-none, room-more, room_full}
use borrow.Author.Rules.{rules}
use Rattle.tables.proofs.every_third.Goals as goal

pub loop-i-init : goal.loop-i-init
loop-i-init c = (search rules, room-none 32 _)

pub loop-i-preserved : goal.loop-i-preserved
loop-i-preserved c =
    let a = c.args in
    (search rules, room-more 32 c.loop-i.i (λ j. get_or a.values.now (3 * j + a.first) 0) _ _ (search rules) c.loop-i.invariant.1 refl)

pub returns : goal.returns
unfolding every_third
returns c = c.loop-i.invariant.1 ∙ room_full 32 c.loop-i.i _ (search rules) c.loop-i.invariant.0
