-- That `is_barred` of src/lib.rt keeps its contract.
use Prim.Native.Nat.{◌%◌}
use mathlib.Core.Path.{ap, ◌∙◌}
use mathlib.Core.Bool.{Bool, ◌&&◌, ◌||◌}
use lib.Dec.{eqb}
use Rattle.aintc_registers.specs.Map.{protection}
use Rattle.aintc_registers.specs.Model.{is_register, barred}
use Rattle.aintc_room.proofs.is_barred.Goals as goal

pub returns : goal.returns
unfolding barred
returns c = ap (λ (b : Bool). eqb c.args.privilege 0 && eqb (c.args.offset % 4) 0 && b && (c.args.guarded || eqb c.args.offset protection)) (c.is_register-register.ensures ∙ ap is_register c.access_of.ensures)
