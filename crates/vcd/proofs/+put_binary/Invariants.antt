-- That `put_binary` of src/lib.rt keeps its contract.
use Rattle.vcd.proofs.+put_binary.Given as goal

abbrev pub decreases-put_binary : goal.decreases-put_binary
decreases-put_binary l = l.digits
