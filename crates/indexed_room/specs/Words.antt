-- In which words of 32 system interrupts a channel has one, so that a search for the first of it looks at no others; and how a room is put right after a
-- register of the channel map is written.
use Rattle.std.specs.Prelude.{ℕ, ◌+◌, ◌*◌, ◌/◌, ◌<◌, Bool, false, not, ◌&&◌, ◌||◌, List, ◌≡◌, eqb, get_or}
use Rattle.words.specs.Array.{byte_of}
use Rattle.words.specs.Counting.{any_below}
use Rattle.words.specs.Word.{bit, word_of}

-- one of the 32 bytes from 32 * w on of a map is k
unfoldable pub in_word : List ℕ → ℕ → ℕ → Bool
in_word m k w = any_below 32 (λ i. eqb (get_or m (32 * w + i) 0) k)

-- the words of which that is so: bit w for the bytes from 32 * w on
unfoldable pub words_of : List ℕ → ℕ → ℕ
words_of m k = word_of 32 (in_word m k)

-- ---- a register of the channel map is written

-- the map m has become m' by a write of register q, which was `old`
pub record Written (m m' : List ℕ) (q old : ℕ) : Type 0 where
  pub others : (i : ℕ) → (i / 4 ≡ q → ⊥) → get_or m' i 0 ≡ get_or m i 0
  pub before : (j : ℕ) → j < 4 → byte_of old j ≡ get_or m (4 * q + j) 0

-- channel k is one of two that differ
abbrev pub one_of : ℕ → ℕ → ℕ → Bool
one_of a b k = not (eqb a b) && (eqb k a || eqb k b)

-- these words are right for the map m, but for bit w of the channels that are still to do
pub record Right (m : List ℕ) (w : ℕ) (todo : ℕ → Bool) (ws : List ℕ) : Type 0 where
  pub others : (k v : ℕ) → k < 256 → v < 32 → (v ≡ w → ⊥) → bit (get_or ws k 0) v ≡ in_word m k v
  pub done : (k : ℕ) → k < 256 → todo k ≡ false → get_or ws k 0 ≡ words_of m k
