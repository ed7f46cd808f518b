-- How the program has a map: the rows in one array, 64 bytes to a row, numbers in hexadecimal digits, each text up to a bar. From these bytes on it has:
-- 0 the first offset, 5 how many, 10 of what, 12 the bytes from one to the next (00 where it stands alone), 15 the name, 37 the section of reads, 51 of writes.
use Rattle.std.specs.Prelude.{ℕ, zero, suc, ◌+◌, ◌-◌, ◌*◌, ◌/◌, ◌%◌, Bool, List, [], ◌∷◌, ◌++◌, eqb, ltb, length, get_or, take, drop, Option, Some, None}
use Rattle.words.specs.Choice.{pick}
use Rattle.text.specs.Text.{space, decimal}
use Rattle.register_names.specs.declared.Sizes.{Sizes}
use Rattle.register_names.specs.Rows.{Row, alone, group, in_group, sectioned, there_of, at_most}

-- ---- numbers and texts

unfoldable pub digit_of : ℕ → ℕ
digit_of b = pick (ltb b 58) (b - 48) ((b - 55) % 16)

unfoldable pub two_at : List ℕ → ℕ → ℕ
two_at t i = digit_of (get_or t i 0) * 16 + digit_of (get_or t (i + 1) 0)

unfoldable pub four_at : List ℕ → ℕ → ℕ
four_at t i = two_at t i * 256 + two_at t (i + 2)

-- a text ends before a bar
unfoldable pub until : List ℕ → List ℕ
until [] = []
until (b ∷ l) = pick (eqb b 124) [] (b ∷ until l)

-- how many there are: `=` all, `S` one for 32 systems and `s` for 4, `c` for 4 channels, `H` for 32 hosts and `1` for each
unfoldable pub count_by : ℕ → ℕ → Sizes → ℕ
count_by what most n =
    pick (eqb what 83) (there_of 32 most n.systems)
    (pick (eqb what 115) (there_of 4 most n.systems)
    (pick (eqb what 99) (there_of 4 most n.channels)
    (pick (eqb what 72) (there_of 32 most n.hosts)
    (pick (eqb what 49) (at_most most n.hosts)
    most))))

-- ---- a row

unfoldable pub first_at : List ℕ → ℕ
first_at r = four_at r 0

unfoldable pub count_at : List ℕ → Sizes → ℕ
count_at r n = count_by (get_or r 10 0) (four_at r 5) n

unfoldable pub step_at : List ℕ → ℕ
step_at r = two_at r 12

unfoldable pub name_at : List ℕ → List ℕ
name_at r = until (drop 15 r)

unfoldable pub section_from : Bool → ℕ
section_from written = pick written 51 37

unfoldable pub section_at : List ℕ → Bool → List ℕ
section_at r written = until (drop (section_from written) r)

unfoldable pub row_at : List ℕ → Sizes → Bool → Row
row_at r n written =
    pick (eqb (step_at r) 0) (alone (first_at r) (name_at r) (section_at r written))
    (group (first_at r) (count_at r n) (step_at r) (name_at r) (section_at r written))

-- row k of a map
unfoldable pub bytes_at : List ℕ → ℕ → List ℕ
bytes_at t k = take 64 (drop (k * 64) t)

-- so many rows from row k on
unfoldable pub rows_from : List ℕ → Sizes → Bool → ℕ → ℕ → List Row
rows_from t n written k zero = []
rows_from t n written k (suc m) = row_at (bytes_at t k) n written ∷ rows_from t n written (k + 1) m

-- all of them
unfoldable pub rows_in : List ℕ → Sizes → Bool → List Row
rows_in t n written = rows_from t n written 0 (length t / 64)

-- ---- what is looked for

-- the offset is that of a register, by first offset, how many and step
unfoldable pub stands_by : ℕ → ℕ → ℕ → ℕ → Bool
stands_by first count step o = pick (eqb step 0) (eqb o first) (in_group first count step o)

unfoldable pub stands_at : List ℕ → Sizes → ℕ → Bool
stands_at r n o = stands_by (first_at r) (count_at r n) (step_at r) o

-- the first of so many rows, from row k on, that has the offset, if one has
unfoldable pub row_from : List ℕ → Sizes → ℕ → ℕ → ℕ → Option ℕ
row_from t n o k zero = None
row_from t n o k (suc m) = pick (stands_at (bytes_at t k) n o) (Some k) (row_from t n o (k + 1) m)

-- the number behind a name: none where the register stands alone
unfoldable pub number_by : ℕ → ℕ → ℕ → List ℕ
number_by first step o = pick (eqb step 0) [] (decimal ((o - first) / step))

-- the name, and the number behind it
unfoldable pub title_at : List ℕ → ℕ → List ℕ
title_at r o = name_at r ++ number_by (first_at r) (step_at r) o

-- all words of a row for a register at the offset
unfoldable pub words_at : List ℕ → Bool → ℕ → List ℕ
words_at r written o = (space ∷ []) ++ title_at r o ++ sectioned (section_at r written)
