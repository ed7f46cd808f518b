-- What is promised of the numbers of a trace, in the numbers of 01 that an answer tells. The byte at a place k of a trace s is `get_or s k 0`, 0 past its end.
use Rattle.std.specs.Prelude.{ℕ, ◌+◌, ◌-◌, ◌*◌, ◌/◌, ◌%◌, ◌^◌, ◌<◌, ◌≤◌, ◌≡◌, List, [], ◌∷◌, ◌++◌, ◌↔◌, ◌≢◌, ◌⊎◌, ltb, length, get_or}
use Rattle.words.specs.Choice.{pick}
use Rattle.numbers.specs.Number.{Value, Refused, size_at, worth_at, number_at, Told, told}

-- what the number at a place tells
abbrev pub told_at : List ℕ → ℕ → Told
told_at s at = told (number_at s at)

-- n bytes from a place on are one number: all but the last have the top bit set, the last has it clear (01, House trace)
abbrev pub Spans : List ℕ → ℕ → ℕ → Type 0
Spans s at n = (1 ≤ n) × (((k : ℕ) → k + 1 < n → 128 ≤ get_or s (at + k) 0) × (get_or s (at + (n - 1)) 0 < 128))

-- and they are a form of it: five of them at most, all within the trace (02, 1/12)
abbrev pub Form : List ℕ → ℕ → ℕ → Type 0
Form s at n = Spans s at n × ((n ≤ 5) × (at + n ≤ length s))

-- cut short, over 32 bits, or over 5 bytes (01, Numbers, 8; 02, 1/12)
abbrev pub Damaged : List ℕ → ℕ → Type 0
Damaged s at = (length s < at + size_at s at) ⊎ ((2 ^ 32 ≤ worth_at s at (size_at s at)) ⊎ (5 < size_at s at))

-- the seven bits that byte k of the number at a place brings, 0 beyond its last byte
abbrev pub group_of : List ℕ → ℕ → ℕ → ℕ
group_of s at k = pick (ltb k (size_at s at)) (get_or s (at + k) 0 % 128) 0

-- all five bytes of a word, as a recorder writes them that leaves room before it knows the number (02, 1/12)
abbrev pub padded : ℕ → List ℕ
padded v = (128 + v % 128) ∷ (128 + v / 128 % 128) ∷ (128 + v / 128 ^ 2 % 128) ∷ (128 + v / 128 ^ 3 % 128) ∷ (v / 128 ^ 4) ∷ []

pub record Promises : Type 0 where
  -- ---- what an answer tells

  -- a number that was read tells 0, its value and the place after it; a refused one its refusal, the value 0 and a place
  pub told_value : (v next : ℕ) → told (Value v next) ≡ record { refusal = 0; value = v; place = next }
  pub told_refused : (n at : ℕ) → told (Refused n at) ≡ record { refusal = n; value = 0; place = at }
  -- ---- bytes

  -- a number takes exactly as many bytes as stand up to the first whose top bit is clear, of five at most (01, House trace)
  pub size : (s : List ℕ) (at n : ℕ) → n ≤ 5 → (size_at s at ≡ n) ↔ Spans s at n
  -- and counts as six exactly where the top bit is set in all five (01, Numbers, 8)
  pub size_over : (s : List ℕ) (at : ℕ) → (size_at s at ≡ 6) ↔ ((k : ℕ) → k < 5 → 128 ≤ get_or s (at + k) 0)
  pub size_most : (s : List ℕ) (at : ℕ) → size_at s at ≤ 6
  -- the seven low bits of each byte are a group, the first one lowest: the group of byte n counts 128 ^ n (01, House trace)
  pub worth_none : (s : List ℕ) (at : ℕ) → worth_at s at 0 ≡ 0
  pub worth_more : (s : List ℕ) (at n : ℕ) → worth_at s at (n + 1) ≡ worth_at s at n + get_or s (at + n) 0 % 128 * 128 ^ n
  -- ---- what is answered

  -- a number is refused by 8 where it begins, or its groups and the place after its bytes are answered (01, House trace)
  pub answers : (s : List ℕ) (at : ℕ) → (number_at s at ≡ Refused 8 at) ⊎ (number_at s at ≡ Value (worth_at s at (size_at s at)) (at + size_at s at))
  -- 8 is given exactly when a number is damaged (01, Numbers)
  pub eight : (s : List ℕ) (at : ℕ) → ((told_at s at).refusal ≡ 8) ↔ Damaged s at
  -- no other refusal is given, and a refused number tells its first byte (01, House trace)
  pub refused : (s : List ℕ) (at : ℕ) → (told_at s at).refusal ≢ 0 → told_at s at ≡ record { refusal = 8; value = 0; place = at }
  -- a number that does not begin is cut short where it would begin (01, House trace)
  pub missing : (s : List ℕ) (at : ℕ) → length s ≤ at → told_at s at ≡ record { refusal = 8; value = 0; place = at }
  -- the value of a number that was read is that of its groups (01, House trace)
  pub value : (s : List ℕ) (at : ℕ) → (told_at s at).refusal ≡ 0 → (told_at s at).value ≡ worth_at s at (size_at s at)
  -- the place after it is its own and as many bytes further as it takes (01, House trace)
  pub place : (s : List ℕ) (at : ℕ) → (told_at s at).refusal ≡ 0 → (told_at s at).place ≡ at + size_at s at
  -- it fits 32 bits (01, Numbers, 8)
  pub fits : (s : List ℕ) (at : ℕ) → (told_at s at).value < 2 ^ 32
  -- the next place is beyond this one and within the trace (01, House trace)
  pub next : (s : List ℕ) (at : ℕ) → (told_at s at).refusal ≡ 0 → (at < (told_at s at).place) × ((told_at s at).place ≤ length s)
  -- so E5 8E 26 after another byte is 101 + 14 * 128 + 38 * 16384, and what follows is read from the byte after 26 on (01, House trace)
  pub three_bytes : told_at (7 ∷ 229 ∷ 142 ∷ 38 ∷ 1 ∷ []) 1 ≡ record { refusal = 0; value = 624485; place = 4 }
  -- ---- forms of a value

  -- any form of one to five bytes is read whose value fits 32 bits, with groups of 0 on top or without (the change requests, 02, 1/12)
  pub any_form : (s : List ℕ) (at n : ℕ) → Form s at n → worth_at s at n < 2 ^ 32 → told_at s at ≡ record { refusal = 0; value = worth_at s at n; place = at + n }
  -- two numbers that are read tell the same value exactly if they have the same groups, a group beyond the last byte counting 0 (02, 1/12)
  pub same_value : (s t : List ℕ) (a b : ℕ) → (told_at s a).refusal ≡ 0 → (told_at t b).refusal ≡ 0
      → ((told_at s a).value ≡ (told_at t b).value) ↔ ((k : ℕ) → k < 5 → group_of s a k ≡ group_of t b k)
  -- the five bytes of a word, whatever stands before and after them, are read as that word, and the next place is 5 further (02, 1/12)
  pub recorded : (before rest : List ℕ) (v : ℕ) → v < 2 ^ 32
      → told_at (before ++ (padded v ++ rest)) (length before) ≡ record { refusal = 0; value = v; place = length before + 5 }
