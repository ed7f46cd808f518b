-- The text of a number, kept in a word while lines are counted.
use Rattle.std.specs.Prelude.{ℕ, ◌+◌, ◌-◌, ◌*◌, ◌%◌, ◌^◌, List, [], ◌∷◌, length, ltb}
use Rattle.words.specs.Choice.{pick}
use Rattle.text.specs.Text.{decimal}
use Rattle.text.specs.declared.room.Numeral.{Numeral}

-- bytes in a word, the first in the lowest
unfoldable pub packed : List ℕ → ℕ
packed [] = 0
packed (b ∷ bs) = b + 256 * packed bs

-- a text, how long it is, and 1 where its last byte stands; beside them the number's last digit
abbrev pub keeps : List ℕ → ℕ → Numeral
keeps text last = record { digits = packed text; width = length text; unit = 256 ^ (length text - 1); last = last }

-- the text of a number of at most five digits; of a longer one no text is kept, and a last digit after which it is made anew
unfoldable pub numeral_of : ℕ → Numeral
numeral_of n = pick (ltb n 100000) (keeps (decimal n) (n % 10)) (record { digits = 0; width = 0; unit = 0; last = 9 })
