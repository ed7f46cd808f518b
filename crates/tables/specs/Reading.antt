-- What a typed table is read as: 98 numbers, for each source its priority, its type and its frame, then the word of forced sources and the
-- mark's frame (docs/STACK.md; 02, 4/12).
use Rattle.std.specs.Prelude.{ℕ, zero, suc, ◌+◌, ◌*◌, ◌^◌, min, Bool, not, ◌&&◌, ◌||◌, List, [], ◌∷◌, ◌++◌, eqb, ltb, length, get_or, replicate}
use Rattle.words.specs.Choice.{pick}
use Rattle.words.specs.Counting.{lowest_below}
use Rattle.steps.specs.Refusals.{carried_out, damaged, too_long}
use Rattle.text.specs.Text.{newline, field}
use Rattle.stack.specs.declared.Table.{Table}
use Rattle.stack.specs.Bytes.{needed}
use Rattle.stack.specs.Printed.{text_of}
use Rattle.tables.specs.declared.Reading.{Reading}
use Rattle.tables.specs.Typed.{nth_start, nth_typed}
use Rattle.tables.specs.Names.{cleared}
use Rattle.tables.specs.Number.{is_number, worth}

-- ---- the table of 98 numbers

-- f 0, f 1 .. f (n - 1)
unfoldable pub list_of : ℕ → (ℕ → ℕ) → List ℕ
list_of zero f = []
list_of (suc n) f = list_of n f ++ (f n ∷ [])

-- every third of the numbers, from the first, the second or the third on: one for each source
unfoldable pub every_third : List ℕ → ℕ → List ℕ
every_third vs first = list_of 32 (λ i. get_or vs (3 * i + first) 0)

unfoldable pub table_of : List ℕ → Table
table_of vs =
    record { priority = every_third vs 0; kind = every_third vs 1; forced = get_or vs 96 0; frame = every_third vs 2; mark = get_or vs 97 0 }

-- ---- which numbers it may be made of

-- the nth of the 98, counted from 0, is as it must be: a number, and as the word of forced sources one of 32 bits
unfoldable pub fits_at : ℕ → Bool → ℕ → Bool
fits_at n is_one value = is_one && (not (eqb n 96) || ltb value (2 ^ 32))

abbrev pub fits : ℕ → List ℕ → Bool
fits n w = fits_at n (is_number w) (worth w)

-- what the table has of a number: its worth in 32 bits. All that is more stands there as the largest word; of a priority, a type and a frame
-- that is beyond the limit too (02, 4/12, Refusals)
unfoldable pub entered : ℕ → ℕ
entered value = min value 0xFFFFFFFF

-- ---- what is answered

-- a table that was read
unfoldable pub taken : Table → Reading
taken t = record { refusal = carried_out; offset = 0; table = t }

-- a refusal, the byte offset of what is at fault, and a table of zeros
unfoldable pub refused_at : ℕ → ℕ → Reading
refused_at refusal offset =
    record {
      refusal = refusal;
      offset = offset;
      table = record { priority = replicate 32 0; kind = replicate 32 0; forced = 0; frame = replicate 32 0; mark = 0 };
    }

-- the first of the 98 that is not as it must be, 98 where all are
unfoldable pub first_fault : List ℕ → ℕ
first_fault s = lowest_below 98 (λ n. not (fits n (nth_typed s n)))

-- a text without names and comments: its table, where the 98 numbers are there and nothing follows; else 8 where the first fault begins, or what follows
unfoldable pub read_bare : List ℕ → Reading
read_bare s =
    pick (eqb (first_fault s) 98 && eqb (nth_start s 98) (length s))
    (taken (table_of (list_of 98 (λ n. entered (worth (nth_typed s n))))))
    (refused_at damaged (nth_start s (first_fault s)))

-- a text is refused by 11 where it has more than 65,536 bytes, else its names and comments do not count
unfoldable pub read_table : List ℕ → Reading
read_table s = pick (ltb 65536 (length s)) (refused_at too_long 65536) (read_bare (cleared s))

-- ---- what is printed of it

-- E, the number of a refusal and an offset, as a listing ends (01, House trace)
unfoldable pub refused_line : ℕ → ℕ → List ℕ
refused_line refusal offset = (69 ∷ []) ++ field refusal ++ field offset ++ (newline ∷ [])

-- the line of its stack size, or of its refusal
unfoldable pub answer_to : List ℕ → List ℕ
answer_to s =
    pick (eqb (read_table s).refusal carried_out) (text_of (needed (read_table s).table)) (refused_line (read_table s).refusal (read_table s).offset)
