-- That `number` of src/lib.rt keeps its contract.
use mathlib.Core.Path.{ap, ◌∙◌}
use mathlib.Core.Bool.{Bool, true}
use Rattle.aintc_registers.specs.Model.{barred, access_number}
use Rattle.aintc_room.proofs.CellLaws.{guarded-is}
use Rattle.aintc_room.proofs.RecordLaws.{flag}
use Rattle.aintc_room.proofs.ReplyLaws.{number-privileged}
use Rattle.aintc_room.proofs.number.Goals as goal

pub returns-then-privilege-eq1 : goal.returns-then-privilege-eq1
returns-then-privilege-eq1 c = λ a h. number-privileged a.guarded _ _ _ c.if-privilege-eq1.true

pub returns : goal.returns
returns c =
    let x = c.args in
    λ a h. c.access_number.ensures ∙ ap (λ (t : Bool). access_number true x.privilege t x.rest) (c.is_barred.ensures ∙ ap (λ (g : Bool). barred g x.privilege x.offset) (flag _ _ (guarded-is h)))
