-- A value change dump read back: the values of its signals at each tick.
use Rattle.std.specs.Prelude.{ℕ, ◌+◌, ◌-◌, ◌*◌, ◌||◌, List, [], ◌∷◌, eqb, get_or, set, drop, replicate}
use Rattle.words.specs.Choice.{pick}
use Rattle.text.specs.Text.{space, newline}

-- ---- lines

-- a byte before the first line
abbrev pub before : ℕ → List (List ℕ) → List (List ℕ)
before b [] = (b ∷ []) ∷ []
before b (l ∷ ls) = (b ∷ l) ∷ ls

-- the lines of a text, each without its line feed
unfoldable pub lines_of : List ℕ → List (List ℕ)
lines_of [] = []
lines_of (b ∷ bs) = pick (eqb b newline) ([] ∷ lines_of bs) (before b (lines_of bs))

-- ---- values

-- what binary digits are worth after some worth v, up to the space, and the identifier behind it
unfoldable pub digits_after : ℕ → List ℕ → ℕ × ℕ
digits_after v [] = (v, 0)
digits_after v (b ∷ bs) = pick (eqb b space) (v, get_or bs 0 0) (digits_after (2 * v + (b - 48)) bs)

-- a table with the value of an identifier put anew
abbrev pub put : List ℕ → ℕ × ℕ → List ℕ
put t c = set t (c.1 - 33) c.0

-- the table after a line: b begins the digits of a value, 0 and 1 are one; no other line has a value
unfoldable pub line_read : List ℕ → List ℕ → List ℕ
line_read t [] = t
line_read t (b ∷ bs) = pick (eqb b 98) (put t (digits_after 0 bs)) (pick (eqb b 48 || eqb b 49) (put t (b - 48, get_or bs 0 0)) t)

-- ---- ticks

-- the tables at the end of each tick; # begins the next one
unfoldable pub tables_from : List ℕ → List (List ℕ) → List (List ℕ)
tables_from t [] = t ∷ []
tables_from t (l ∷ ls) = pick (eqb (get_or l 0 0) 35) (t ∷ tables_from t ls) (tables_from (line_read t l) ls)

-- those of a text that declares n signals; what stands before the first # is no tick's
unfoldable pub replay : ℕ → List ℕ → List (List ℕ)
replay n text = drop 1 (tables_from (replicate n 0) (lines_of text))

-- ---- what is declared

-- the identifier that a line declares: behind its third space
unfoldable pub behind_space : ℕ → List ℕ → ℕ
behind_space n [] = 0
behind_space n (b ∷ bs) = pick (eqb b space) (pick (eqb n 0) (get_or bs 0 0) (behind_space (n - 1) bs)) (behind_space n bs)

-- the identifiers that are declared, by the lines that begin with $v
unfoldable pub identifiers : List (List ℕ) → List ℕ
identifiers [] = []
identifiers (l ∷ ls) = pick (eqb (get_or l 1 0) 118) (behind_space 2 l ∷ identifiers ls) (identifiers ls)
