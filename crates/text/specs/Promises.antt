-- What is promised of texts: their digits are those of the number, and a text stands in its buffer as far as there is room.
use Rattle.std.specs.Prelude.{ℕ, ◌+◌, ◌-◌, ◌*◌, ◌/◌, ◌%◌, ◌^◌, ◌<◌, ◌≤◌, min, ◌≡◌, List, [], ◌∷◌, ◌++◌, length, get_or, set, take, drop}
use Rattle.text.specs.Text.{hex_digit, hex, decimal, field, write, laid}

-- what decimal digits are worth after some that are worth v
unfoldable pub worth_after : ℕ → List ℕ → ℕ
worth_after v [] = v
worth_after v (b ∷ bs) = worth_after (10 * v + (b - 48)) bs

pub record Promises : Type 0 where
  -- ---- digits, as ASCII numbers them: 0 to 9 are 48 to 57, A to F 65 to 70, a space is 32

  -- the sixteen hexadecimal digits (01, House trace)
  pub hex_digits : (d : ℕ) → d < 16
      → hex_digit d ≡ get_or (48 ∷ 49 ∷ 50 ∷ 51 ∷ 52 ∷ 53 ∷ 54 ∷ 55 ∷ 56 ∷ 57 ∷ 65 ∷ 66 ∷ 67 ∷ 68 ∷ 69 ∷ 70 ∷ []) d 0
  -- a word has eight digits, the highest first (01, House trace)
  pub hex_length : (v : ℕ) → length (hex v) ≡ 8
  pub hex_nth : (v k : ℕ) → k < 8 → get_or (hex v) k 0 ≡ hex_digit (v / 16 ^ (7 - k) % 16)
  -- every byte of a decimal is a digit from 0 to 9 (01, House trace)
  pub decimal_bytes : (n k : ℕ) → k < length (decimal n) → (48 ≤ get_or (decimal n) k 0) × (get_or (decimal n) k 0 ≤ 57)
  -- a number of 64 bits is worth what its digits are (01, House trace)
  pub decimal_worth : (n : ℕ) → n < 10 ^ 20 → worth_after 0 (decimal n) ≡ n
  -- digits are worth ten times those before the last and the last one
  pub worth_none : (v : ℕ) → worth_after v [] ≡ v
  pub worth_more : (v b : ℕ) (bs : List ℕ) → worth_after v (b ∷ bs) ≡ worth_after (10 * v + (b - 48)) bs
  -- 0 begins no number but 0, which is that one digit (01, House trace)
  pub decimal_first : (n : ℕ) → n < 10 ^ 20 → get_or (decimal n) 0 0 ≡ 48 → n ≡ 0
  pub decimal_zero : decimal 0 ≡ 48 ∷ []
  -- a field of a line is a space and the decimal (01, House trace)
  pub field_bytes : (n : ℕ) → field n ≡ 32 ∷ decimal n
  -- ---- buffers

  -- a text that fits stands at the start of the buffer, and the rest of the buffer is as it was
  pub fits : (l bs : List ℕ) → length bs ≤ length l → write (l, 0) bs ≡ (bs ++ drop (length bs) l, length bs)
  -- whatever its length, as much of it stands there as finds room, and the count says how much that is
  pub partly : (l bs : List ℕ) → write (l, 0) bs ≡ (take (length l) bs ++ drop (length bs) l, min (length bs) (length l))
  pub lays : (l bs : List ℕ) → laid l bs ≡ (take (length l) bs ++ drop (length bs) l, min (length bs) (length l))
  -- from anywhere on: a byte that finds room stands there and the next one goes after it, all others are dropped
  pub none : (l : List ℕ) (at : ℕ) → write (l, at) [] ≡ (l, at)
  pub byte : (l : List ℕ) (at b : ℕ) → at < length l → write (l, at) (b ∷ []) ≡ (set l at b, at + 1)
  pub full : (l : List ℕ) (at : ℕ) (bs : List ℕ) → length l ≤ at → write (l, at) bs ≡ (l, at)
  -- a text and then another is the two together, and no byte goes beyond the buffer
  pub parts : (o : List ℕ × ℕ) (a b : List ℕ) → write (write o a) b ≡ write o (a ++ b)
  pub same_length : (o : List ℕ × ℕ) (a : List ℕ) → length (write o a).0 ≡ length o.0
