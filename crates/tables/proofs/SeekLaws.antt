-- Where the first byte stands that passes a test, and the starts and ends of numbers by it.
use Prim.Native.Nat.{ℕ, zero, suc, ◌+◌, ◌-◌, ◌≤◌, ◌<◌, max}
use mathlib.Core.Path.{◌≡◌, refl, sym, ap}
use mathlib.Core.Bool.{Bool, true, false, not, beq}
use mathlib.Core.List.{List}
use native.Mathlib.Omega.{arith}
use native.Mathlib.Decide.{ℕ_discrete}
use lib.ListN.{length, get_or}
use Rattle.words.specs.Choice.{pick}
use Rattle.words.specs.Counting.{lowest_below}
use Rattle.words.proofs.CountingLaws.{lowest_found, lowest-one}
use Rattle.words.proofs.TruthLaws.{clash}
use Rattle.tables.specs.Typed.{white, start_from, end_from, past_nth, nth_start}

-- from `at` on, i is the first byte that passes, or the end of the text where none does
pub record Sought (p : ℕ → Bool) (s : List ℕ) (at i : ℕ) : Type 0 where
  pub from : at ≤ i
  pub within : i ≤ max at (length s)
  pub before : (j : ℕ) → at ≤ j → j < i → p (get_or s j 0) ≡ false
  pub found : i < length s → p (get_or s i 0) ≡ true

module _ (p : ℕ → Bool) (s : List ℕ) (at : ℕ) where
  abbrev pub seek : ℕ
  seek = at + lowest_below (length s - at) (λ k. p (get_or s (at + k) 0))

  pub sought : Sought p s at seek
  sought =
      let l = lowest_found (length s - at) (λ k. p (get_or s (at + k) 0)) in
      record {
        from = omega arith;
        within = omega (arith, l.within);
        before = λ j a b. let e : at + (j - at) ≡ j = omega arith in rw (← e) (l.before (j - at) (omega arith));
        found = λ b. l.found (omega arith);
      }

  pub sought-is : (i : ℕ) → Sought p s at i → i ≡ seek
  sought-is i h =
      let e : at + (i - at) ≡ i = omega (arith, h.from) in
      let q : i - at ≡ lowest_below (length s - at) (λ k. p (get_or s (at + k) 0))
      = lowest-one (λ k. p (get_or s (at + k) 0)) (length s - at) (i - at) _
      (record { within = omega (arith, h.within); before = λ k l. h.before (at + k) (omega arith) (omega arith); found = λ l. rw e (h.found (omega arith)) })
      (lowest_found (length s - at) (λ k. p (get_or s (at + k) 0))) in
      omega (arith, h.from)

  -- one byte more that does not pass
  pub before_more : (i : ℕ) → ((j : ℕ) → at ≤ j → j < i → p (get_or s j 0) ≡ false) → p (get_or s i 0) ≡ false
      → (j : ℕ) → at ≤ j → j < i + 1 → p (get_or s j 0) ≡ false
  before_more i h e j a b = go (ℕ_discrete j i)
    where
      go : Dec (j ≡ i) → p (get_or s j 0) ≡ false
      go (yes q) = rw q e
      go (no q) = h j a (omega arith)

-- ---- starts and ends

abbrev pub dark : ℕ → Bool
dark b = not (white b)

pub start_is : (s : List ℕ) (at i : ℕ) → Sought dark s at i → i ≡ start_from s at
unfolding start_from
start_is s at i h = sought-is dark s at i h

pub start_sought : (s : List ℕ) (at : ℕ) → Sought dark s at (start_from s at)
unfolding start_from
start_sought s at = sought dark s at

pub end_is : (s : List ℕ) (at i : ℕ) → Sought white s at i → i ≡ end_from s at
unfolding end_from
end_is s at i h = sought-is white s at i h

pub end_sought : (s : List ℕ) (at : ℕ) → Sought white s at (end_from s at)
unfolding end_from
end_sought s at = sought white s at

-- within the text they stay within it
pub start-within : (s : List ℕ) (at : ℕ) → at ≤ length s → start_from s at ≤ length s
start-within s at l = omega (arith, (start_sought s at).within)

pub end-within : (s : List ℕ) (at : ℕ) → at ≤ length s → end_from s at ≤ length s
end-within s at l = omega (arith, (end_sought s at).within)

pub past-within : (s : List ℕ) (n : ℕ) → past_nth s n ≤ length s
unfolding past_nth
past-within s zero = omega arith
past-within s (suc n) = end-within s (start_from s (past_nth s n)) (start-within s (past_nth s n) (past-within s n))

pub nth-within : (s : List ℕ) (n : ℕ) → nth_start s n ≤ length s
unfolding nth_start
nth-within s n = start-within s (past_nth s n) (past-within s n)

-- ---- as the code seeks them

-- a byte that is white, or that is not
abbrev pub turned : Bool → ℕ → Bool
turned wanted b = pick wanted (white b) (not (white b))

pub seek_is : (wanted : Bool) (s : List ℕ) (at i : ℕ) → Sought (turned wanted) s at i → i ≡ pick wanted (end_from s at) (start_from s at)
unfolding pick
seek_is true s at i h = end_is s at i (record { from = h.from; within = h.within; before = h.before; found = h.found })
seek_is false s at i h = start_is s at i (record { from = h.from; within = h.within; before = h.before; found = h.found })

pub is_turned : (wanted x : Bool) (b : ℕ) → x ≡ white b → beq x wanted ≡ true → turned wanted b ≡ true
unfolding pick
is_turned true true b e h = sym e
is_turned true false b e h = clash h refl
is_turned false true b e h = clash h refl
is_turned false false b e h = ap not (sym e)

pub not-turned : (wanted x : Bool) (b : ℕ) → x ≡ white b → beq x wanted ≡ false → turned wanted b ≡ false
unfolding pick
not-turned true true b e h = clash refl h
not-turned true false b e h = sym e
not-turned false true b e h = ap not (sym e)
not-turned false false b e h = clash refl h

-- what was sought
pub started_at : (s : List ℕ) (at : ℕ) {x : ℕ} → x ≡ pick false (end_from s at) (start_from s at) → x ≡ start_from s at
unfolding pick
started_at s at e = e

pub ended_at : (s : List ℕ) (at : ℕ) {x : ℕ} → x ≡ pick true (end_from s at) (start_from s at) → x ≡ end_from s at
unfolding pick
ended_at s at e = e
