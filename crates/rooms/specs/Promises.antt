-- What is promised of rooms: what a reply tells, and that a layout determines its room and has its place for each word.
use Rattle.std.specs.Prelude.{ℕ, ◌+◌, ◌*◌, ◌<◌, ◌≡◌, List, [], length, get_or}
use Rattle.rooms.specs.Parts.{flat, Sized, place, made}
use Rattle.rooms.specs.Reply.{reply, told}

pub record Promises : Type 0 where
  -- a reply is one number: the value below bit 32, and from there on the refusal
  pub reply_is : (refusal value : ℕ) → value < 4294967296 → told (refusal * 4294967296 + value) ≡ reply refusal value
  -- parts stand one after another: word k of part i is word k past the sizes of those before it, and nothing else stands in the room
  pub stands : (parts : List (List ℕ)) (sizes : List ℕ) (i k : ℕ) → Sized parts sizes → k < get_or sizes i 0 → get_or (flat parts) (place sizes i + k) 0 ≡ get_or (get_or parts i []) k 0
  pub size : (parts : List (List ℕ)) (sizes : List ℕ) → Sized parts sizes → length (flat parts) ≡ place sizes (length sizes)
  -- a table that is made has n words, the kth of them f k
  pub made_is : (n : ℕ) (f : ℕ → ℕ) → (length (made n f) ≡ n) × ((k : ℕ) → k < n → get_or (made n f) k 0 ≡ f k)
