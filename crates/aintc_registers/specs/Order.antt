-- Which input is before which, and the eligible one that is before all others (000, 4.3.1.2.3).
use Rattle.std.specs.Prelude.{ℕ, Bool, not, ◌&&◌, ◌||◌, eqb, ltb}
use Rattle.words.specs.Counting.{any_below, all_below, lowest_below}
use Rattle.aintc_record.specs.declared.Aintc.{Aintc}
use Rattle.aintc_record.specs.Route.{priority}
use Rattle.aintc_registers.specs.Inputs.{eligible}

-- of a lower priority number, or of an equal one and a higher input number (000, 4.3.1.2.3)
unfoldable pub before : Aintc → ℕ → ℕ → Bool
before s a b = ltb (priority s a) (priority s b) || (eqb (priority s a) (priority s b) && ltb b a)

-- input k is eligible, and before every other eligible one (000, 4.3.1.2.3)
unfoldable pub foremost : Aintc → Bool → ℕ → Bool
foremost s f k = eligible s f k && all_below 128 (λ j. not (eligible s f j) || (eqb j k || before s k j))

-- some input is eligible (000, 4.3.1.2.3)
unfoldable pub some : Aintc → Bool → Bool
some s f = any_below 128 (eligible s f)

-- the eligible input that is before all others, 128 where there is none (000, 4.3.1.2.3)
unfoldable pub first : Aintc → Bool → ℕ
first s f = lowest_below 128 (foremost s f)
