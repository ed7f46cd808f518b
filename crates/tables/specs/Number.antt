-- A typed number: decimal, or hexadecimal after 0x, of any size (docs/STACK.md).
use Rattle.std.specs.Prelude.{ℕ, ◌+◌, ◌-◌, ◌*◌, Bool, not, ◌&&◌, List, [], ◌∷◌, eqb, ltb, leb, length, get_or, drop}
use Rattle.words.specs.Choice.{pick}
use Rattle.words.specs.Counting.{all_below}

-- what a character is worth as a digit, 0 to 9, A to F or a to f; 16 says that it is none
unfoldable pub digit : ℕ → ℕ
digit b = pick (leb 48 b && leb b 57) (b - 48) (pick (leb 65 b && leb b 70) (b - 55) (pick (leb 97 b && leb b 102) (b - 87) 16))

-- what digits to a base are worth, after some that are worth v
unfoldable pub worth_from : ℕ → ℕ → List ℕ → ℕ
worth_from base v [] = v
worth_from base v (b ∷ bs) = worth_from base (base * v + digit b) bs

-- there is a digit, and all are digits to the base
unfoldable pub are_digits : ℕ → List ℕ → Bool
are_digits base ds = not (eqb (length ds) 0) && all_below (length ds) (λ k. ltb (digit (get_or ds k 0)) base)

-- 0x begins a hexadecimal number, and 0X none
unfoldable pub is_hex : List ℕ → Bool
is_hex w = eqb (get_or w 0 0) 48 && eqb (get_or w 1 0) 120

abbrev pub base_of : List ℕ → ℕ
base_of w = pick (is_hex w) 16 10

abbrev pub digits_of : List ℕ → List ℕ
digits_of w = pick (is_hex w) (drop 2 w) w

-- the characters w are a number, and what it is worth
unfoldable pub is_number : List ℕ → Bool
is_number w = are_digits (base_of w) (digits_of w)

unfoldable pub worth : List ℕ → ℕ
worth w = worth_from (base_of w) 0 (digits_of w)
