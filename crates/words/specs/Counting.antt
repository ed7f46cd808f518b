-- Loops that count up, and what they ask of the numbers below n: some, all, how many, their sum, the lowest.
use Rattle.std.specs.Prelude.{Bool, true, false, ◌&&◌, ◌||◌, ℕ, zero, suc, ◌+◌}
use Rattle.words.specs.Choice.{pick}

-- what n turns make of z, where turn k makes f x k of x
unfoldable pub upto : {A : Type 0} → (A → ℕ → A) → A → ℕ → A
upto f z zero = z
upto f z (suc n) = f (upto f z n) n

-- some number below n passes
unfoldable pub any_below : ℕ → (ℕ → Bool) → Bool
any_below zero p = false
any_below (suc n) p = any_below n p || p n

-- every number below n passes
unfoldable pub all_below : ℕ → (ℕ → Bool) → Bool
all_below zero p = true
all_below (suc n) p = all_below n p && p n

-- 1 where the test holds, else 0
abbrev pub one : Bool → ℕ
one true = 1
one false = 0

-- how many numbers below n pass
unfoldable pub count_below : ℕ → (ℕ → Bool) → ℕ
count_below zero p = 0
count_below (suc n) p = count_below n p + one (p n)

-- f 0 + f 1 + .. + f (n - 1)
unfoldable pub sum_below : ℕ → (ℕ → ℕ) → ℕ
sum_below zero f = 0
sum_below (suc n) f = sum_below n f + f n

-- the lowest number below n that passes, n where none does
unfoldable pub lowest_below : ℕ → (ℕ → Bool) → ℕ
lowest_below zero p = 0
lowest_below (suc n) p = pick (any_below n p) (lowest_below n p) (pick (p n) n (suc n))
