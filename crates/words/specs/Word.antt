-- A word of 32 sources: one bit for each source, bit 0 for source 0.
use Rattle.std.specs.Prelude.{Bool, not, ◌&&◌, ◌||◌, ℕ, zero, suc, ◌+◌, ◌*◌, ◌/◌, ◌%◌, ◌^◌, eqb}
use Rattle.words.specs.Choice.{pick}
use Rattle.words.specs.Counting.{one}

-- bit k of the word w
unfoldable pub bit : ℕ → ℕ → Bool
bit w k = eqb (w / 2 ^ k % 2) 1

-- the word of n bits whose bit k is f k
unfoldable pub word_of : ℕ → (ℕ → Bool) → ℕ
word_of zero f = 0
word_of (suc n) f = one (f n) * 2 ^ n + word_of n f

-- the bits of a or of b
unfoldable pub either : ℕ → ℕ → ℕ
either a b = word_of 32 (λ k. bit a k || bit b k)

-- the bits that a and b share
unfoldable pub both : ℕ → ℕ → ℕ
both a b = word_of 32 (λ k. bit a k && bit b k)

-- the bits of a that are not bits of b
unfoldable pub without : ℕ → ℕ → ℕ
without a b = word_of 32 (λ k. bit a k && not (bit b k))

-- the word w with bit k as the test says; past the width nothing changes
unfoldable pub with_bit : ℕ → ℕ → Bool → ℕ
with_bit w k t = word_of 32 (λ j. pick (eqb j k) t (bit w j))

-- the word w with its bits from n on dropped
unfoldable pub kept : ℕ → ℕ → ℕ
kept n w = w % 2 ^ n

-- no bit of w from n on is set: dropping those changes nothing
unfoldable pub clean : ℕ → ℕ → Bool
clean n w = eqb (kept n w) w
