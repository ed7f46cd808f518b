-- That `store_allow` of src/laid.rt keeps its contract.
use Rattle.cic_room.proofs.PutLaws.{dim_allow, lit_allow}
use Rattle.cic_room.proofs.laid.store_allow.Goals as goal

pub returns : goal.returns
returns c = λ f d h. lit_allow h c.args.k c.args.w _ (c.show_anew.ensures f _ _ (dim_allow h c.args.k c.args.w c.requires))
