-- Which source is ahead of which, and the one that is ahead of all other candidates.
use Prim.Native.Nat.{ℕ, zero, suc, ◌+◌, ◌*◌, ◌<◌}
use mathlib.Core.Path.{◌≡◌, refl, sym, subst}
use mathlib.Core.Bool.{Bool, true, false, ◌&&◌, ◌||◌}
use mathlib.Core.Logic.{◌≢◌, ◌⊎◌, inl, inr, ⊎_elim}
use native.Mathlib.Omega.{arith}
use native.Mathlib.Decide.{ℕ_discrete, dec_lt}
use lib.Dec.{eqb, ltb}
use borrow.Author.Tests.{ltb-true, ltb-false}
use Rattle.words.specs.Counting.{lowest_below}
use Rattle.words.proofs.TruthLaws.{and_left, and_right, and_both, clash, told}
use Rattle.words.proofs.CountingLaws.{any_some, some_any, any_fails, Lowest, lowest_found}
use Rattle.words.proofs.OrderLaws.{lower-is, is-lower, Ranks, never, through, either, one_way, others-is, is-others}
use Rattle.aic_record.specs.declared.Aic.{Aic}
use Rattle.aic_record.specs.Mode.{priority}
use Rattle.aic_record.specs.Sound.{no_level, level_below, over}
use Rattle.aic_sources.specs.Normal.{waiting, above, candidate, ahead, foremost, candidates, chosen}

-- ---- "ahead" between numbers

-- a higher priority, or an equal one and a lower number
abbrev pub Ahead : Aic → ℕ → ℕ → Type 0
Ahead s a b = (priority s b < priority s a) ⊎ ((priority s a ≡ priority s b) × (a < b))

pub ahead-is : (s : Aic) (a b : ℕ) → ahead s a b ≡ true → Ahead s a b
unfolding ahead
ahead-is s a b = lower-is (priority s b) (priority s a) (priority s a) (priority s b) a b

pub is-ahead : (s : Aic) (a b : ℕ) → Ahead s a b → ahead s a b ≡ true
unfolding ahead
is-ahead s a b = is-lower (priority s b) (priority s a) (priority s a) (priority s b) a b

-- one comparison, for sources below 32
pub lt-ahead : (s : Aic) (a b : ℕ) → b < 32 → priority s b * 32 + a < priority s a * 32 + b → ahead s a b ≡ true
lt-ahead s a b l h = go (dec_lt (priority s b) (priority s a))
  where
    go : Dec (priority s b < priority s a) → ahead s a b ≡ true
    go (yes p) = is-ahead s a b (inl p)
    go (no p) = is-ahead s a b (inr (omega arith, omega arith))

-- the equation read the other way round
turned : {x y : ℕ} {A B : Type 0} → A ⊎ ((x ≡ y) × B) → A ⊎ ((y ≡ x) × B)
turned (inl l) = inl l
turned (inr (e, l)) = inr (sym e, l)

-- it is an order by ranks
ranks : (s : Aic) → Ranks (priority s) (ahead s)
ranks s = record { is = λ a b h. turned (ahead-is s a b h); so = λ a b h. is-ahead s a b (turned h) }

pub ahead_irreflexive : (s : Aic) (a : ℕ) → ahead s a a ≡ false
ahead_irreflexive s = never (ranks s)

pub ahead_transitive : (s : Aic) (a b c : ℕ) → ahead s a b ≡ true → ahead s b c ≡ true → ahead s a c ≡ true
ahead_transitive s = through (ranks s)

pub ahead_total : (s : Aic) (a b : ℕ) → a ≢ b → (ahead s a b ≡ true) ⊎ (ahead s b a ≡ true)
ahead_total s = either (ranks s)

-- ---- the candidate ahead of all others

-- source j is a candidate below n, and is ahead of every other candidate below n
pub record Foremost (s : Aic) (n j : ℕ) : Type 0 where
  pub below : j < n
  pub fit : candidate s j ≡ true
  pub first : (i : ℕ) → i < n → candidate s i ≡ true → i ≢ j → ahead s j i ≡ true

pub foremost-is : (s : Aic) (j : ℕ) → j < 32 → foremost s j ≡ true → Foremost s 32 j
unfolding foremost
foremost-is s j l h =
    record { below = l; fit = and_left (candidate s j) _ h; first = others-is 32 (candidate s) (ahead s) j (and_right (candidate s j) _ h) }

pub is-foremost : (s : Aic) (j : ℕ) → Foremost s 32 j → foremost s j ≡ true
unfolding foremost
is-foremost s j f = and_both f.fit (is-others 32 (candidate s) (ahead s) j f.first)

-- what holds below n and of n holds below n + 1
below_next : (P : ℕ → Type 0) (n : ℕ) → ((i : ℕ) → i < n → P i) → P n → (i : ℕ) → i < suc n → P i
below_next P n h e i l = go (dec_lt i n)
  where
    go : Dec (i < n) → P i
    go (yes m) = h i m
    go (no m) =
        let q : n ≡ i = omega arith in
        subst P q e

module _ (s : Aic) (n : ℕ) where
  -- source j stays first, where source n is no candidate or behind it
  stays-first : {j : ℕ} → Foremost s n j → (candidate s n ≡ true → ahead s j n ≡ true) → Foremost s (suc n) j
  stays-first {j} f h =
      record {
        below = omega (arith, f.below);
        fit = f.fit;
        first = below_next (λ i. candidate s i ≡ true → i ≢ j → ahead s j i ≡ true) n f.first (λ c _. h c);
      }

  -- source n is first, where it is ahead of each candidate below it
  comes-first : candidate s n ≡ true → ((i : ℕ) → i < n → candidate s i ≡ true → ahead s n i ≡ true) → Foremost s (suc n) n
  comes-first c h =
      record {
        below = omega arith;
        fit = c;
        first = below_next (λ i. candidate s i ≡ true → i ≢ n → ahead s n i ≡ true) n (λ i l d _. h i l d) (λ _ d. absurd (d refl));
      }

  passes : {j : ℕ} → Foremost s n j → ahead s n j ≡ true → (i : ℕ) → i < n → candidate s i ≡ true → Dec (i ≡ j) → ahead s n i ≡ true
  passes f a i l c (yes e) = rw e a
  passes {j} f a i l c (no d) = ahead_transitive s n j i a (f.first i l c d)

-- there is one, where there is a candidate
leading : (s : Aic) (n : ℕ) → ((i : ℕ) → i < n → candidate s i ≡ false) ⊎ ((j : ℕ) × Foremost s n j)
leading s zero = inl (λ i l. absurd (omega arith))
leading s (suc n) = go (leading s n) (told (candidate s n))
  where
    go : ((i : ℕ) → i < n → candidate s i ≡ false) ⊎ ((j : ℕ) × Foremost s n j) → (candidate s n ≡ true) ⊎ (candidate s n ≡ false)
        → ((i : ℕ) → i < suc n → candidate s i ≡ false) ⊎ ((j : ℕ) × Foremost s (suc n) j)
    go (inl h) (inr e) = inl (below_next (λ i. candidate s i ≡ false) n h e)
    go (inl h) (inl c) = inr (n, comes-first s n c (λ i l d. clash d (h i l)))
    go (inr (j, f)) (inr e) = inr (j, stays-first s n f (λ c. clash c e))
    go (inr (j, f)) (inl c) =
        ⊎_elim (λ (a : ahead s j n ≡ true). inr (j, stays-first s n f (λ _. a)))
        (λ (a : ahead s n j ≡ true). inr (n, comes-first s n c (λ i l d. passes s n f a i l d (ℕ_discrete i j))))
        (ahead_total s j n (omega (arith, f.below)))

-- with a candidate, the chosen source is the one ahead of all others
pub chosen_is : (s : Aic) → candidates s ≡ true → Foremost s 32 (chosen s)
unfolding candidates chosen
chosen_is s h = go (leading s 32)
  where
    low : Lowest (foremost s) 32 (lowest_below 32 (foremost s))
    low = lowest_found 32 (foremost s)

    go : ((i : ℕ) → i < 32 → candidate s i ≡ false) ⊎ ((j : ℕ) × Foremost s 32 j) → Foremost s 32 (lowest_below 32 (foremost s))
    go (inl e) = let r = any_some 32 (candidate s) h in clash r.2 (e r.0 r.1)
    go (inr (j, f)) = more (dec_lt (lowest_below 32 (foremost s)) 32)
      where
        more : Dec (lowest_below 32 (foremost s) < 32) → Foremost s 32 (lowest_below 32 (foremost s))
        more (yes l) = foremost-is s _ l (low.found l)
        more (no l) = clash (is-foremost s j f) (low.before j (omega (arith, f.below)))

-- and no other source is
pub chosen-one : (s : Aic) (j : ℕ) → Foremost s 32 j → chosen s ≡ j
unfolding candidates
chosen-one s j f = go (chosen_is s (some_any 32 (candidate s) j f.below f.fit)) (ℕ_discrete (chosen s) j)
  where
    go : Foremost s 32 (chosen s) → Dec (chosen s ≡ j) → chosen s ≡ j
    go g (yes e) = e
    go g (no d) =
        clash (f.first (chosen s) g.below g.fit d) (one_way (ranks s) (chosen s) j (g.first j f.below f.fit (λ e. d (sym e))))

-- without a candidate it is 32
pub chosen_none : (s : Aic) → candidates s ≡ false → chosen s ≡ 32
unfolding candidates chosen foremost
chosen_none s h = go (dec_lt (lowest_below 32 (foremost s)) 32)
  where
    low : Lowest (foremost s) 32 (lowest_below 32 (foremost s))
    low = lowest_found 32 (foremost s)

    go : Dec (lowest_below 32 (foremost s) < 32) → lowest_below 32 (foremost s) ≡ 32
    go (yes l) = clash (and_left (candidate s _) _ (low.found l)) (any_fails 32 (candidate s) h _ l)
    go (no l) = omega (arith, low.within)

-- ---- a source that waits, candidate or not, is chosen or the chosen one is ahead of it

above_lt : (s : Aic) (p q : ℕ) → above s p ≡ true → above s q ≡ false → q < p
unfolding above over
above_lt s p q = go (ltb s.depth 8) (eqb (level_below s.level s.depth) no_level)
  where
    go : (r t : Bool) → (r && (t || ltb (level_below s.level s.depth) p)) ≡ true → (r && (t || ltb (level_below s.level s.depth) q)) ≡ false → q < p
    go true true h k = clash refl k
    go true false h k = omega (arith, ltb-true, ltb-false)
    go false t h k = clash h refl

pub chosen-ahead : (s : Aic) (k : ℕ) → k < 32 → waiting s k ≡ true → candidates s ≡ true → chosen s ≢ k → ahead s (chosen s) k ≡ true
unfolding candidate
chosen-ahead s k l w h d = go (chosen_is s h) (told (above s (priority s k)))
  where
    go : Foremost s 32 (chosen s) → (above s (priority s k) ≡ true) ⊎ (above s (priority s k) ≡ false) → ahead s (chosen s) k ≡ true
    go f (inl a) = f.first k l (and_both w a) (λ e. d (sym e))
    go f (inr a) =
        is-ahead s (chosen s) k (inl (above_lt s (priority s (chosen s)) (priority s k) (and_right (waiting s (chosen s)) _ f.fit) a))
