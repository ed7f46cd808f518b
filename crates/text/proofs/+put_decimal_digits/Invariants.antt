-- That `put_decimal_digits` of src/lib.rt keeps its contract.
use Rattle.text.proofs.+put_decimal_digits.Given as goal

abbrev pub decreases-put_decimal_digits : goal.decreases-put_decimal_digits
decreases-put_decimal_digits l = l.digits
