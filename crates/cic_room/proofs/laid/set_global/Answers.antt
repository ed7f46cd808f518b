-- That `set_global` of src/laid.rt keeps its contract.
use Prim.Native.Nat.{◌%◌}
use Rattle.cic_room.proofs.PutLaws.{dim_global, lit_global}
use Rattle.cic_room.proofs.laid.set_global.Goals as goal

pub returns : goal.returns
returns c = λ f d h. lit_global h (c.args.v % 2) _ (c.show_anew.ensures f _ _ (dim_global h (c.args.v % 2)))
