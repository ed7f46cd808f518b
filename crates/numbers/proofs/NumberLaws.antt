-- How many bytes a number asks for, and what is known of a number that is refused or read.
use Prim.Native.Nat.{ℕ, ◌+◌, ◌*◌, ◌^◌, ◌<◌, ◌≤◌}
use mathlib.Core.Path.{◌≡◌, refl, ap, ◌∙◌}
use mathlib.Core.List.{List}
use mathlib.Core.Bool.{Bool, true, false, ◌||◌}
use native.Mathlib.Nat.{mod-lt, eq-or-lt_of_le}
use mathlib.Core.Logic.{◌⊎◌, inl, inr, ⊎_elim}
use native.Mathlib.Omega.{arith}
use borrow.Author.Tests.{lt-ltb, ltb-true, ltb-false, leb-true, leb-false}
use lib.ListN.{length, get_or}
use Rattle.words.specs.Counting.{sum_below, lowest_below}
use Rattle.words.proofs.CountingLaws.{Lowest, lowest_found, lowest-one}
use Rattle.words.proofs.TruthLaws.{or-either, or_left, told as told-apart}
use Rattle.numbers.specs.Number.{Value, Refused, closes, group, size_at, worth_at, cut_short, too_large, too_long, faulty, answer, number_at}
use Rattle.steps.specs.Refusals.{damaged}
use Rattle.words.proofs.ChoiceLaws.{pick_true, pick-false}
use Rattle.words.proofs.TruthLaws.{or_neither}
use Rattle.numbers.proofs.GroupLaws.{worth-more, worth_lt}

-- the test of the k-th byte of the number at a place
abbrev pub closes_at : List ℕ → ℕ → ℕ → Bool
closes_at s at k = closes (get_or s (at + k) 0)

-- ---- how many bytes

-- a number of n bytes: all but the last say that another follows, the last one does not unless five have
pub record Sized (s : List ℕ) (at n : ℕ) : Type 0 where
  pub some : 1 ≤ n
  pub most : n ≤ 6
  pub more : (k : ℕ) → k + 1 < n → 128 ≤ get_or s (at + k) 0
  pub last : (k : ℕ) → k + 1 ≡ n → n ≤ 5 → get_or s (at + k) 0 < 128

pub sized : (s : List ℕ) (at : ℕ) → Sized s at (size_at s at)
unfolding size_at
sized s at = go (lowest_below 5 (closes_at s at)) (lowest_found 5 (closes_at s at))
  where
    go : (r : ℕ) → Lowest (closes_at s at) 5 r → Sized s at (1 + r)
    go r low =
        record {
          some = omega arith;
          most = omega (arith, low.within);
          more = λ k l. ltb-false (get_or s (at + k) 0) 128 (low.before k (omega arith));
          last =
              λ k e l.
              let q : k ≡ r = omega arith in
              ltb-true (get_or s (at + k) 0) 128 (ap (closes_at s at) q ∙ low.found (omega arith));
        }

-- the loop that looks for the last byte has found it
pub size_found : (s : List ℕ) (at k : ℕ) → k < 5 → ((j : ℕ) → j < k → closes_at s at j ≡ false) → closes_at s at k ≡ true → k + 1 ≡ size_at s at
unfolding size_at
size_found s at k l before e =
    let low : Lowest (closes_at s at) 5 k = record { within = omega arith; before = before; found = λ m. e } in
    omega (arith, lowest-one (closes_at s at) 5 k (lowest_below 5 (closes_at s at)) low (lowest_found 5 (closes_at s at)))

-- it has looked at five bytes in vain
pub size_none : (s : List ℕ) (at k : ℕ) → k ≤ 5 → 5 ≤ k → ((j : ℕ) → j < k → closes_at s at j ≡ false) → 6 ≡ size_at s at
unfolding size_at
size_none s at k l m before =
    let low : Lowest (closes_at s at) 5 k = record { within = omega arith; before = before; found = λ h. absurd (omega arith) } in
    omega (arith, lowest-one (closes_at s at) 5 k (lowest_below 5 (closes_at s at)) low (lowest_found 5 (closes_at s at)))

-- a byte more that says that another follows
pub all_open : (s : List ℕ) (at k : ℕ) → ((j : ℕ) → j < k → closes_at s at j ≡ false) → closes_at s at k ≡ false → (j : ℕ) → j < k + 1 → closes_at s at j ≡ false
all_open s at k before e j l = ⊎_elim (λ (q : j ≡ k). ap (closes_at s at) q ∙ e) (λ (q : j < k). before j q) (eq-or-lt_of_le (omega arith))

-- ---- what it is worth

-- the digits of the number at a place
abbrev pub group_at : List ℕ → ℕ → ℕ → ℕ
group_at s at k = group (get_or s (at + k) 0)

pub group_lt : (s : List ℕ) (at k : ℕ) → group_at s at k < 128
group_lt s at k = mod-lt (get_or s (at + k) 0) (omega arith)

pub worth-none : (s : List ℕ) (at : ℕ) → 0 ≡ worth_at s at 0
unfolding worth_at sum_below
worth-none s at = refl

-- k groups are worth less than the next unit
pub worth-below : (s : List ℕ) (at k : ℕ) {w u : ℕ} → w ≡ worth_at s at k → u ≡ 128 ^ k → w < u
unfolding worth_at
worth-below s at k e p = rw (e, p) (worth_lt (group_at s at) (group_lt s at) k)

-- a turn of the loop that adds the groups up
pub worth-turn : (s : List ℕ) (at k : ℕ) {w u g : ℕ} → w ≡ worth_at s at k → u ≡ 128 ^ k → g ≡ group_at s at k → w + g * u ≡ worth_at s at (k + 1)
unfolding worth_at
worth-turn s at k e p q = worth-more (group_at s at) k e p q

-- ---- faults

-- a number of n bytes worth v in which nothing is wrong
pub record Good (s : List ℕ) (at n v : ℕ) : Type 0 where
  pub within : at + n ≤ length s
  pub fits : v < 2 ^ 32
  pub short : n ≤ 5

-- so is the number at a place
abbrev pub GoodAt : List ℕ → ℕ → Type 0
GoodAt s at = Good s at (size_at s at) (worth_at s at (size_at s at))

pub faultless : (s : List ℕ) (at n v : ℕ) → faulty s at n v ≡ false → Good s at n v
unfolding faulty
faultless s at n v e =
    let q = or_neither (cut_short s at n || too_large v) (too_long n) e in
    let r = or_neither (cut_short s at n) (too_large v) q.0 in
    record {
      within = ltb-false (length s) (at + n) r.0;
      fits = leb-false (2 ^ 32) v r.1;
      short = ltb-false 5 n q.1;
    }

-- at least one of the three faults
abbrev pub Fault : List ℕ → ℕ → ℕ → ℕ → Type 0
Fault s at n v = (length s < at + n) ⊎ ((2 ^ 32 ≤ v) ⊎ (5 < n))

pub fault : (s : List ℕ) (at n v : ℕ) → faulty s at n v ≡ true → Fault s at n v
unfolding faulty
fault s at n v e =
    ⊎_elim
    (λ (q : (cut_short s at n || too_large v) ≡ true).
    ⊎_elim (λ (r : cut_short s at n ≡ true). inl (ltb-true (length s) (at + n) r)) (λ (r : too_large v ≡ true). inr (inl (leb-true (2 ^ 32) v r)))
    (or-either (cut_short s at n) (too_large v) q))
    (λ (q : too_long n ≡ true). inr (inr (ltb-true 5 n q)))
    (or-either (cut_short s at n || too_large v) (too_long n) e)

-- a good number has no fault
pub good_faultless : (s : List ℕ) (at n v : ℕ) → Good s at n v → Fault s at n v → ⊥
good_faultless s at n v g (inl h) = omega (arith, g.within)
good_faultless s at n v g (inr (inl h)) = omega (arith, g.fits)
good_faultless s at n v g (inr (inr h)) = omega (arith, g.short)

pub not-faulty : (s : List ℕ) (at n v : ℕ) → Good s at n v → faulty s at n v ≡ false
not-faulty s at n v g = ⊎_elim (λ e. absurd (good_faultless s at n v g (fault s at n v e))) (λ e. e) (told-apart (faulty s at n v))

-- a number that does not begin is cut short
pub never-begun : (s : List ℕ) (at v : ℕ) → length s ≤ at → faulty s at (size_at s at) v ≡ true
unfolding faulty
never-begun s at v h =
    or_left (too_long (size_at s at)) (or_left (too_large v) (lt-ltb (length s) (at + size_at s at) (omega (arith, (sized s at).some))))

-- ---- the number at a place

-- n bytes worth v, as the code has found them
abbrev Found : List ℕ → ℕ → ℕ → ℕ → Type 0
Found s at n v = (n ≡ size_at s at) × (v ≡ worth_at s at n)

answered : (s : List ℕ) (at n v : ℕ) → Found s at n v → answer s at n v ≡ number_at s at
unfolding number_at
answered s at n v f = rw (f.1, f.0)

pub missing : (s : List ℕ) (at : ℕ) → length s ≤ at → Refused damaged at ≡ number_at s at
unfolding number_at
missing s at h = pick_true (Value (worth_at s at (size_at s at)) (at + size_at s at)) (never-begun s at (worth_at s at (size_at s at)) h)

pub refused : (s : List ℕ) (at n v : ℕ) → Found s at n v → faulty s at n v ≡ true → Refused damaged at ≡ number_at s at
refused s at n v f e = pick_true (Value v (at + n)) e ∙ answered s at n v f

pub read : (s : List ℕ) (at n v : ℕ) → Found s at n v → faulty s at n v ≡ false → Value v (at + n) ≡ number_at s at
read s at n v f e = pick-false (Refused damaged at) e ∙ answered s at n v f
