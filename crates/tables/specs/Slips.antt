-- The line that leads to the slip of a typed table: in which line of the text it stands, and what was expected there, or what is over its
-- limit (docs/STACK.md).
use Rattle.std.specs.Prelude.{ℕ, suc, ◌%◌, Bool, true, false, not, ◌&&◌, List, [], ◌∷◌, ◌++◌, Option, Some, None, eqb, ltb, leb, length, get_or, take}
use Rattle.words.specs.Choice.{pick}
use Rattle.words.specs.Counting.{count_below, lowest_below}
use Rattle.text.specs.Text.{newline}
use Rattle.text.specs.Phrases.{bytes, counted}
use Rattle.tables.specs.Typed.{nth_start, nth_typed}
use Rattle.tables.specs.Number.{is_number, worth}
use Rattle.tables.specs.Names.{cleared}
use Rattle.tables.specs.Reading.{first_fault}

-- ---- which line of the text

-- the line in which an offset stands, counted from 1: one more than there are line feeds before it
unfoldable pub line_of : List ℕ → ℕ → ℕ
line_of s at = suc (count_below at (λ k. eqb (get_or s k 0) 10))

unfoldable pub told : List ℕ → ℕ → List ℕ → List ℕ
told s at what = counted (bytes "line ") (line_of s at) ++ bytes ": " ++ what ++ (newline ∷ [])

-- ---- a number over its limit

-- the largest that the nth of the 98 numbers may be; the word of forced sources, number 96, has no such limit (02, 4/12, Refusals)
unfoldable pub limit_of : ℕ → ℕ
limit_of n = pick (eqb n 97) 65535 (pick (eqb (n % 3) 0) 7 (pick (eqb (n % 3) 1) 3 65535))

unfoldable pub is_over : ℕ → Bool → ℕ → Bool
is_over n is_one value = is_one && not (eqb n 96) && ltb (limit_of n) value

-- the first of the 98 that is over its limit; 98 where none is
unfoldable pub first_over : List ℕ → ℕ
first_over s = lowest_below 98 (λ n. is_over n (is_number (nth_typed s n)) (worth (nth_typed s n)))

-- a word as it was typed, at most 20 characters of it
unfoldable pub shortened : List ℕ → List ℕ
shortened w = pick (leb (length w) 20) w (take 20 w ++ bytes "..")

unfoldable pub between : List ℕ → List ℕ → List ℕ → List ℕ
between before w behind = before ++ shortened w ++ behind

unfoldable pub over_words : ℕ → List ℕ → List ℕ
over_words n w =
    pick (eqb n 97) (between (bytes "frame ") w (bytes " of the mark is over 65535"))
    (pick (eqb (n % 3) 0) (between (bytes "priority ") w (bytes " is over 7"))
    (pick (eqb (n % 3) 1) (between (bytes "type ") w (bytes " is over 3"))
    (between (bytes "frame ") w (bytes " is over 65535"))))

-- of the 98 numbers, none before the nth over its limit
unfoldable pub over_line : List ℕ → List ℕ → ℕ → List ℕ
over_line s c n = pick (eqb n 98) [] (told s (nth_start c n) (over_words n (nth_typed c n)))

-- ---- the same of what the code reads

-- a number that was read is over its limit
unfoldable pub goes_over : ℕ → Option ℕ → Bool
goes_over n None = false
goes_over n (Some value) = is_over n true value

-- the first of the 98 that is over its limit, where one is
unfoldable pub over_in : List ℕ → Option ℕ
over_in s = pick (eqb (first_over s) 98) None (Some (first_over s))

-- its line, none where there is none
unfoldable pub line_over : List ℕ → List ℕ → Option ℕ → List ℕ
line_over s c None = []
line_over s c (Some n) = told s (nth_start c n) (over_words n (nth_typed c n))

-- ---- a slip of the typing

-- what was expected in place of the nth word, which begins with a quote or does not, and is a number or is none
unfoldable pub expected_words : Bool → ℕ → Bool → List ℕ
expected_words quote n number =
    pick quote (bytes "a name has 1 to 24 characters and stands behind a source's three numbers")
    (pick (eqb n 98) (bytes "nothing may follow the mark's frame")
    (pick number (bytes "the word of forced sources has more than 32 bits")
    (bytes "a number was expected")))

unfoldable pub fault_line : List ℕ → List ℕ → ℕ → List ℕ
fault_line s c n = told s (nth_start c n) (expected_words (eqb (get_or c (nth_start c n) 0) 34) n (is_number (nth_typed c n)))

-- ---- the line

-- of a text s whose names and comments are spaces in c
unfoldable pub slip_in : List ℕ → List ℕ → List ℕ
slip_in s c = pick (eqb (first_fault c) 98 && eqb (nth_start c 98) (length c)) (over_line s c (first_over c)) (fault_line s c (first_fault c))

-- of any text; none where the table has a figure
unfoldable pub slip_line : List ℕ → List ℕ
slip_line s = pick (ltb 65536 (length s)) (bytes "the text is longer than 65536 bytes\n") (slip_in s (cleared s))
