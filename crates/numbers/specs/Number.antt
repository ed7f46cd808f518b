-- A number of the house trace: groups of seven bits, the lowest first (01, "House trace").
use Rattle.std.specs.Prelude.{ℕ, ◌+◌, ◌*◌, ◌%◌, ◌^◌, List, Bool, ◌||◌, length, get_or, ltb, leb, Ok, Err}
use Rattle.std.specs.declared.result.Result.{Result}
use Rattle.words.specs.Choice.{pick}
use Rattle.words.specs.Counting.{sum_below, lowest_below}
use Rattle.steps.specs.Refusals.{carried_out, damaged}
use Rattle.numbers.specs.declared.Taken.{Taken}
use Rattle.numbers.specs.declared.Fault.{Fault}

-- what is read of a number at a place: its value with the place after it, or the refusal with the place of its first byte
abbrev pub Number : Type 0
Number = Result Taken Fault

-- a number that was read
abbrev pub Value : ℕ → ℕ → Number
Value v next = Ok (record { value = v; next = next })

-- one that was refused
abbrev pub Refused : ℕ → ℕ → Number
Refused n at = Err (record { refusal = n; at = at })

-- no other byte follows this one: its top bit is clear (01, House trace)
abbrev pub closes : ℕ → Bool
closes b = ltb b 128

-- the seven bits that a byte brings (01, House trace)
abbrev pub group : ℕ → ℕ
group b = b % 128

-- how many bytes the number at a place asks for, up to the first that no other follows; a missing byte is 0, and 6 says more than five
unfoldable pub size_at : List ℕ → ℕ → ℕ
size_at s at = 1 + lowest_below 5 (λ k. closes (get_or s (at + k) 0))

-- what the groups of n bytes from a place on are worth, the first one lowest (01, House trace)
unfoldable pub worth_at : List ℕ → ℕ → ℕ → ℕ
worth_at s at n = sum_below n (λ k. group (get_or s (at + k) 0) * 128 ^ k)

-- ---- what is wrong with a number of n bytes at a place (01, Numbers, 8; 02, 1/12)

-- it does not end within the trace
abbrev pub cut_short : List ℕ → ℕ → ℕ → Bool
cut_short s at n = ltb (length s) (at + n)

-- what it is worth takes more than 32 bits
abbrev pub too_large : ℕ → Bool
too_large v = leb (2 ^ 32) v

-- it has more than five bytes
abbrev pub too_long : ℕ → Bool
too_long n = ltb 5 n

-- any of the three, for a number of n bytes worth v; groups of 0 on top are no fault (02, 1/12)
unfoldable pub faulty : List ℕ → ℕ → ℕ → ℕ → Bool
faulty s at n v = cut_short s at n || too_large v || too_long n

-- ---- the number at a place

-- what is answered of n bytes worth v: refusal 8 at the first of them, or the value with the next place (01, House trace)
abbrev pub answer : List ℕ → ℕ → ℕ → ℕ → Number
answer s at n v = pick (faulty s at n v) (Refused damaged at) (Value v (at + n))

-- the number at a place of a trace
unfoldable pub number_at : List ℕ → ℕ → Number
number_at s at = answer s at (size_at s at) (worth_at s at (size_at s at))

-- ---- what an answer tells, in the numbers of 01

-- the number given (0: none), the value read, and a place
pub record Told : Type 0 where
  pub refusal : ℕ
  pub value : ℕ
  pub place : ℕ

-- a number that was read: 0, its value and the next place; a refused one: its refusal, the value 0 and its own offset
abbrev pub told : Number → Told
told (Ok t) = record { refusal = carried_out; value = t.value; place = t.next }
told (Err f) = record { refusal = f.refusal; value = 0; place = f.at }
