-- Registers of bits, one bit for each of n things: spare bits read 0 and drop writes (01, CIC, registers; 001, 2.2.11 to 2.2.14 and 2.2.18).
use Rattle.std.specs.Prelude.{List, ℕ, get_or, set}
use Rattle.words.specs.Array.{rest_at}
use Rattle.words.specs.Word.{either, without, kept}

-- word k as it is read
unfoldable pub word_read : ℕ → List ℕ → ℕ → ℕ
word_read n ws k = kept (rest_at n k) (get_or ws k 0)

-- each bit written as 1 sets its own bit
unfoldable pub bits_set : ℕ → List ℕ → ℕ → ℕ → List ℕ
bits_set n ws k v = set ws k (either (get_or ws k 0) (kept (rest_at n k) v))

-- each bit written as 1 clears its own bit
unfoldable pub bits_cleared : List ℕ → ℕ → ℕ → List ℕ
bits_cleared ws k v = set ws k (without (get_or ws k 0) v)

-- the word is replaced
unfoldable pub word_replaced : ℕ → List ℕ → ℕ → ℕ → List ℕ
word_replaced n ws k v = set ws k (kept (rest_at n k) v)
