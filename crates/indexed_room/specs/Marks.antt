-- Which bytes of some words are a number, a bit for each.
use Rattle.std.specs.Prelude.{ℕ, ◌+◌, ◌/◌, ◌%◌, ◌<◌, List, ◌≡◌, eqb, get_or}
use Rattle.words.specs.Array.{byte_of}
use Rattle.words.specs.Word.{bit}

-- bit j of x, for each j below n, tells whether byte j of the words from a place on is b
pub record Marks (room : List ℕ) (at b n x : ℕ) : Type 0 where
  pub bits : (j : ℕ) → j < n → bit x j ≡ eqb (byte_of (get_or room (at + j / 4) 0) (j % 4)) b
