-- That `lay` of src/lib.rt keeps its contract.
use mathlib.Core.Path.{◌∙◌}
use borrow.Author.Rules.{rules}
use Rattle.machine.proofs.MachineLaws.{sound-cic}
use Rattle.machine_room.proofs.RoomLaws.{aic-laid, core-laid, cic-laid, aintc-laid, indexed-laid_as, last-kind}
use Rattle.machine_room.proofs.lay.Goals as goal

pub returns-in-0 : goal.returns-in-0
returns-in-0 c =
    let m = c.args.m in
    λ _. aic-laid _ m _ c.in-0.is c.lay_aic.ensures

pub returns-in-1 : goal.returns-in-1
returns-in-1 c =
    let m = c.args.m in
    λ _. core-laid _ m _ c.in-1.is c.lay.ensures

pub returns-in-2 : goal.returns-in-2
returns-in-2 c =
    let m = c.args.m in
    λ ok. cic-laid _ m _ c.in-2.is (c.lay-in-2.ensures (sound-cic m c.in-2.is ∙ ok))

pub returns-in-3 : goal.returns-in-3
returns-in-3 c =
    let m = c.args.m in
    λ _. aintc-laid _ m _ c.in-3.is c.lay-in-3.ensures

pub returns-in_default : goal.returns-in_default
returns-in_default c =
    let m = c.args.m in
    λ ok. indexed-laid_as _ m _ _ c.indexed.ensures (last-kind m ok (search rules) (search rules) (search rules) (search rules)) ok c.lay-in_default.ensures
