-- Which input is before which, and the eligible one that is before all others.
use Prim.Native.Nat.{ℕ, ◌+◌, ◌*◌, ◌<◌}
use mathlib.Core.Path.{◌≡◌, sym}
use mathlib.Core.Bool.{Bool, true, false}
use mathlib.Core.Logic.{◌≢◌, ◌⊎◌, inl, inr}
use native.Mathlib.Omega.{arith}
use native.Mathlib.Decide.{ℕ_discrete, dec_lt}
use Rattle.words.proofs.TruthLaws.{and_left, and_right, and_both, clash}
use Rattle.words.proofs.CountingLaws.{Lowest, lowest_found}
use Rattle.words.proofs.OrderLaws.{lower-is, is-lower, Ranks, never, through, either, one_way, others-is, is-others}
use Rattle.aintc_record.specs.declared.Aintc.{Aintc}
use Rattle.aintc_record.specs.Route.{priority}
use Rattle.aintc_registers.specs.Inputs.{eligible}
use Rattle.aintc_registers.specs.Order.{before, foremost, first}
use Rattle.aintc_registers.specs.Promises.{NoneEligible, First}

-- ---- "before" between numbers

-- a lower priority number, or an equal one and a higher input number
abbrev pub Before : Aintc → ℕ → ℕ → Type 0
Before s a b = (priority s a < priority s b) ⊎ ((priority s a ≡ priority s b) × (b < a))

pub before-is : (s : Aintc) (a b : ℕ) → before s a b ≡ true → Before s a b
unfolding before
before-is s a b = lower-is (priority s a) (priority s b) (priority s a) (priority s b) b a

pub is-before : (s : Aintc) (a b : ℕ) → Before s a b → before s a b ≡ true
unfolding before
is-before s a b = is-lower (priority s a) (priority s b) (priority s a) (priority s b) b a

-- one comparison, for inputs below 128
pub lt-before : (s : Aintc) (a b : ℕ) → a < 128 → priority s a * 128 + b < priority s b * 128 + a → before s a b ≡ true
lt-before s a b l h = go (dec_lt (priority s a) (priority s b))
  where
    go : Dec (priority s a < priority s b) → before s a b ≡ true
    go (yes p) = is-before s a b (inl p)
    go (no p) = is-before s a b (inr (omega arith, omega arith))

-- from the last to the first it is an order by ranks
ranks : (s : Aintc) → Ranks (priority s) (λ a b. before s b a)
ranks s = record { is = λ a b. before-is s b a; so = λ a b. is-before s b a }

pub before_irreflexive : (s : Aintc) (a : ℕ) → before s a a ≡ false
before_irreflexive s = never (ranks s)

pub before_transitive : (s : Aintc) (a b c : ℕ) → before s a b ≡ true → before s b c ≡ true → before s a c ≡ true
before_transitive s a b c h g = through (ranks s) c b a g h

pub before_total : (s : Aintc) (a b : ℕ) → a ≢ b → (before s a b ≡ true) ⊎ (before s b a ≡ true)
before_total s a b d = either (ranks s) b a (λ e. d (sym e))

-- ---- the one before all others

module _ (s : Aintc) (f : Bool) where
  foremost-is : (k : ℕ) → k < 128 → foremost s f k ≡ true → First s f k
  unfolding foremost
  foremost-is k l h =
      record { within = l; fit = and_left (eligible s f k) _ h; others = others-is 128 (eligible s f) (before s) k (and_right (eligible s f k) _ h) }

  is-foremost : (k : ℕ) → First s f k → foremost s f k ≡ true
  unfolding foremost
  is-foremost k x = and_both x.fit (is-others 128 (eligible s f) (before s) k x.others)

  low : Lowest (foremost s f) 128 (first s f)
  unfolding first
  low = lowest_found 128 (foremost s f)

  -- there is only one
  same_first : (a b : ℕ) → First s f a → First s f b → Dec (a ≡ b) → a ≡ b
  same_first a b x y (yes e) = e
  same_first a b x y (no d) =
      clash (x.others b y.within y.fit (λ e. d (sym e))) (one_way (ranks s) a b (y.others a x.within x.fit d))

  pub first_one : (k : ℕ) → First s f k → first s f ≡ k
  first_one k x = go (dec_lt (first s f) 128)
    where
      go : Dec (first s f < 128) → first s f ≡ k
      go (yes l) = same_first (first s f) k (foremost-is (first s f) l (low.found l)) x (ℕ_discrete (first s f) k)
      go (no l) = clash (is-foremost k x) (low.before k (omega (arith, x.within)))

  -- without an eligible input it is 128
  pub first-none : NoneEligible s f → first s f ≡ 128
  first-none h = go (dec_lt (first s f) 128)
    where
      go : Dec (first s f < 128) → first s f ≡ 128
      go (yes l) = clash (foremost-is (first s f) l (low.found l)).fit (h (first s f) l)
      go (no l) = omega (arith, low.within)
