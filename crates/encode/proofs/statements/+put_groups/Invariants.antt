-- That `put_groups` of src/statements.rt keeps its contract.
use Rattle.encode.proofs.statements.+put_groups.Given as goal

abbrev pub decreases-put_groups : goal.decreases-put_groups
decreases-put_groups l = l.most
