-- What the inner functions answer, as they take a text; what is read of it is in Reading.
use Rattle.std.specs.Prelude.{ℕ, ◌-◌, ◌^◌, min, true, ◌&&◌, List, ◌++◌, Option, Some, None, Result, Ok, Err, eqb, ltb, length, take, drop, replicate}
use Rattle.words.specs.Choice.{pick}
use Rattle.tables.specs.declared.Next.{Next}
use Rattle.tables.specs.declared.Fault.{Fault}
use Rattle.tables.specs.Typed.{start_from, end_from, nth_start, nth_typed}
use Rattle.tables.specs.Number.{digit, worth_from, are_digits, is_number, worth}
use Rattle.tables.specs.Reading.{fits_at, entered, list_of, first_fault}

-- 2^32 stands for whatever is more
unfoldable pub capped : ℕ → ℕ
capped v = min v (2 ^ 32)

-- what a character is worth as a digit to a base
unfoldable pub digit_to : ℕ → ℕ → Option ℕ
digit_to base b = pick (ltb (digit b) base) (Some (digit b)) None

-- what digits are worth, if they are digits
unfoldable pub read_digits : ℕ → List ℕ → Option ℕ
read_digits base ds = pick (are_digits base ds) (Some (capped (worth_from base 0 ds))) None

unfoldable pub read_word : List ℕ → Option ℕ
read_word w = pick (is_number w) (Some (capped (worth w))) None

-- the characters from the next start on
abbrev pub word_from : List ℕ → ℕ → List ℕ
word_from s past = take (end_from s (start_from s past) - start_from s past) (drop (start_from s past) s)

unfoldable pub read_next : List ℕ → ℕ → Next
read_next s past = record { number = read_word (word_from s past); start = start_from s past; past = end_from s (start_from s past) }

-- what the table has of what was read as the nth of the 98
unfoldable pub value_at : ℕ → Option ℕ → Option ℕ
value_at n None = None
value_at n (Some v) = pick (fits_at n true v) (Some (entered v)) None

-- the values of the first n numbers, in room for m
unfoldable pub room : ℕ → ℕ → (ℕ → ℕ) → List ℕ
room m n f = list_of n f ++ replicate (m - n) 0

-- the values of the 98, where nothing follows them; else those up to the first fault
unfoldable pub values_of : List ℕ → Result (List ℕ) Fault
values_of s =
    pick (eqb (first_fault s) 98 && eqb (nth_start s 98) (length s))
    (Ok (list_of 98 (λ n. entered (worth (nth_typed s n)))))
    (Err (record { count = first_fault s; start = nth_start s (first_fault s); values = room 98 (first_fault s) (λ n. entered (worth (nth_typed s n))) }))
