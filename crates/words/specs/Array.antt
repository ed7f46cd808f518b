-- Arrays of 32-bit words, whose bit n is bit n % 32 of word n / 32, and the bytes of one word.
use Rattle.std.specs.Prelude.{Bool, List, ℕ, ◌-◌, ◌*◌, ◌/◌, ◌%◌, ◌^◌, get_or, set}
use Rattle.words.specs.Counting.{all_below}
use Rattle.words.specs.Word.{bit, with_bit, clean}

-- bit n of the array ws
unfoldable pub bit_at : List ℕ → ℕ → Bool
bit_at ws n = bit (get_or ws (n / 32) 0) (n % 32)

-- the array ws with bit n as the test says; past its end nothing changes
unfoldable pub with_bit_at : List ℕ → ℕ → Bool → List ℕ
with_bit_at ws n t = set ws (n / 32) (with_bit (get_or ws (n / 32) 0) (n % 32) t)

-- how many of n things have their bit in word k or in a later word
abbrev pub rest_at : ℕ → ℕ → ℕ
rest_at n k = n - 32 * k

-- no bit from n on is set in the m words of ws
unfoldable pub clean_below : ℕ → ℕ → List ℕ → Bool
clean_below m n ws = all_below m (λ k. clean (rest_at n k) (get_or ws k 0))

-- byte j of the word w, the lowest being byte 0
unfoldable pub byte_of : ℕ → ℕ → ℕ
byte_of w j = w / 2 ^ (8 * j) % 256
