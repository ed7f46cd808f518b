-- The bytes of hexadecimal and decimal numbers, and what a text leaves in a buffer that is lent for it (01, "House trace").
use Rattle.std.specs.Prelude.{ℕ, zero, suc, ◌+◌, ◌/◌, ◌%◌, min, List, [], ◌∷◌, ◌++◌, length, set, take, drop, ltb}
use Rattle.words.specs.Choice.{pick}

-- ---- texts

abbrev pub space : ℕ
space = 32

abbrev pub newline : ℕ
newline = 10

-- a hexadecimal digit: 0 to 9 from 48 on, A to F from 65 on (01, House trace)
unfoldable pub hex_digit : ℕ → ℕ
hex_digit d = pick (ltb d 10) (48 + d) (55 + d)

-- the last digits of v to the base 16, so many of them, the highest first
unfoldable pub hex_of : ℕ → ℕ → List ℕ
hex_of zero v = []
hex_of (suc digits) v = hex_of digits (v / 16) ++ (hex_digit (v % 16) ∷ [])

-- a word is written with eight digits (01, House trace)
abbrev pub hex : ℕ → List ℕ
hex v = hex_of 8 v

-- the digits of n to the base 10, the highest first, none of them a leading 0; at most so many
unfoldable pub decimal_of : ℕ → ℕ → List ℕ
decimal_of zero n = []
decimal_of (suc digits) n = pick (ltb n 10) ((48 + n % 10) ∷ []) (decimal_of digits (n / 10) ++ ((48 + n % 10) ∷ []))

-- the last digits of n to the base 10, so many of them, the highest first, leading 0s among them
unfoldable pub last_of : ℕ → ℕ → List ℕ
last_of zero n = []
last_of (suc digits) n = last_of digits (n / 10) ++ ((48 + n % 10) ∷ [])

-- a number is written with all its digits: 20 are enough for 64 bits
abbrev pub decimal : ℕ → List ℕ
decimal n = decimal_of 20 n

-- a field of a line: a space and a number (01, House trace)
unfoldable pub field : ℕ → List ℕ
field n = (space ∷ []) ++ decimal n

-- ---- a buffer, and where the next byte goes in it

-- after a byte: one that finds no room is dropped
abbrev pub push : List ℕ × ℕ → ℕ → List ℕ × ℕ
push o b = (set o.0 o.1 b, pick (ltb o.1 (length o.0)) (o.1 + 1) o.1)

-- after a text
unfoldable pub write : List ℕ × ℕ → List ℕ → List ℕ × ℕ
write o [] = o
write o (b ∷ bs) = write (push o b) bs

-- a buffer with a text at its start, as much of it as finds room, and how much that is
unfoldable pub laid : List ℕ → List ℕ → List ℕ × ℕ
laid l bs = (take (length l) bs ++ drop (length bs) l, min (length bs) (length l))
