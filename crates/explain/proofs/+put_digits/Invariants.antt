-- That `put_digits` of src/lib.rt keeps its contract.
use Rattle.explain.proofs.+put_digits.Given as goal

abbrev pub decreases-put_digits : goal.decreases-put_digits
decreases-put_digits l = l.digits
