-- The two passes over a map, and what a sound record tells.
use mathlib.Core.Path.{◌≡◌, sym, ap, ap₂, ◌∙◌}
use mathlib.Core.Bool.{Bool, true, ◌&&◌}
use mathlib.Core.List.{List}
use Prim.Native.Nat.{ℕ, ◌+◌, ◌-◌, ◌≤◌}
use native.Mathlib.Omega.{arith}
use borrow.Author.Tests.{lt-ltb, le-ltb, ltb-true, eq-eqb, eqb-true, leb-true, le-leb}
use lib.Dec.{eqb, ltb, leb}
use lib.ListN.{get_or, length, take, drop}
use Rattle.std.proofs.lemmas.List.{take_all, length-take-le, length-drop, get_or-take, get_or-drop}
use Rattle.words.specs.Array.{clean_below}
use Rattle.words.specs.Choice.{pick}
use Rattle.words.specs.Counting.{all_below}
use Rattle.words.proofs.ChoiceLaws.{pick_true, pick-false}
use Rattle.words.proofs.CountingLaws.{all_same, all-add}
use Rattle.words.proofs.TruthLaws.{and_left, and_right, and_both, same_test}
use Rattle.cic_record.specs.declared.Cic.{Cic}
use Rattle.cic_record.specs.Sound.{between, within, numbers_sound, entry_sound}

-- a byte below 1 is 0
under_one : (x : ℕ) → ltb x 1 ≡ eqb x 0
under_one x = same_test (ltb x 1) (eqb x 0) (λ e. eq-eqb x 0 (omega (arith, ltb-true x 1 e))) (λ e. lt-ltb x 1 (omega (arith, eqb-true x 0 e)))

-- the entries in use are below the limit and the rest is 0
pub map-split : (m : List ℕ) (n limit : ℕ) → n ≤ length m
    → (all_below (length (take n m)) (λ i. ltb (get_or (take n m) i 0) limit)
    && all_below (length (take (length m - n) (drop n m))) (λ i. ltb (get_or (take (length m - n) (drop n m)) i 0) 1)) ≡ all_below (length m) (entry_sound n limit m)
unfolding entry_sound
map-split m n limit l =
    let low : length (take n m) ≡ n = length-take-le n m l in
    let high : take (length m - n) (drop n m) ≡ drop n m = take_all (length m - n) (drop n m) (omega (arith, length-drop n m)) in
    let rest : length (drop n m) ≡ length m - n = length-drop n m in
    ap₂ (λ (a b : Bool). a && b)
    (ap (λ (k : ℕ). all_below k (λ i. ltb (get_or (take n m) i 0) limit)) low
    ∙ all_same n (λ i. ltb (get_or (take n m) i 0) limit) (entry_sound n limit m)
    (λ i h. ap (λ (x : ℕ). ltb x limit) (get_or-take n m i 0 h) ∙ pick_true (eqb (get_or m i 0) 0) (lt-ltb i n h)))
    (ap (λ (xs : List ℕ). all_below (length xs) (λ i. ltb (get_or xs i 0) 1)) high
    ∙ ap (λ (k : ℕ). all_below k (λ i. ltb (get_or (drop n m) i 0) 1)) rest
    ∙ all_same (length m - n) (λ i. ltb (get_or (drop n m) i 0) 1) (λ i. entry_sound n limit m (n + i))
    (λ i h. ap (λ (x : ℕ). ltb x 1) (get_or-drop n m i 0) ∙ under_one (get_or m (n + i) 0) ∙ pick-false (ltb (get_or m (n + i) 0) limit) (le-ltb (n + i) n (omega arith))))
    ∙ sym (all-add n (length m - n) (entry_sound n limit m)) ∙ ap (λ (k : ℕ). all_below k (entry_sound n limit m)) (omega arith)

-- a whole array looked at: its length is the number of words
pub whole : (m n : ℕ) (ws : List ℕ) {o : Bool} → length ws ≡ m → o ≡ clean_below (length ws) n ws → o ≡ clean_below m n ws
whole m n ws e f = f ∙ ap (λ (k : ℕ). clean_below k n ws) e

pub whole-map : (m n limit : ℕ) (es : List ℕ) {o : Bool} → length es ≡ m → o ≡ all_below (length es) (entry_sound n limit es) → o ≡ all_below m (entry_sound n limit es)
whole-map m n limit es e f = f ∙ ap (λ (k : ℕ). all_below k (entry_sound n limit es)) e

-- ---- the ranges of the counts

pub between-both : (lowest highest n : ℕ) → between lowest highest n ≡ true → (lowest ≤ n) × (n ≤ highest)
between-both lowest highest n e = (leb-true lowest n (and_left (leb lowest n) (leb n highest) e), leb-true n highest (and_right (leb lowest n) (leb n highest) e))

pub within_systems : (n : ℕ) → within 0 n ≡ true → (1 ≤ n) × (n ≤ 1024)
unfolding within pick
within_systems n e = between-both 1 1024 n e

pub within_channels : (n : ℕ) → within 1 n ≡ true → (1 ≤ n) × (n ≤ 256)
unfolding within pick
within_channels n e = between-both 1 256 n e

pub within_hosts : (n : ℕ) → within 2 n ≡ true → (1 ≤ n) × (n ≤ 256)
unfolding within pick
within_hosts n e = between-both 1 256 n e

pub systems-within : (n : ℕ) → (1 ≤ n) × (n ≤ 1024) → within 0 n ≡ true
unfolding within pick
systems-within n r = and_both (le-leb 1 n r.0) (le-leb n 1024 r.1)

pub channels-within : (n : ℕ) → (1 ≤ n) × (n ≤ 256) → within 1 n ≡ true
unfolding within pick
channels-within n r = and_both (le-leb 1 n r.0) (le-leb n 256 r.1)

pub hosts-within : (n : ℕ) → (1 ≤ n) × (n ≤ 256) → within 2 n ≡ true
unfolding within pick
hosts-within n r = and_both (le-leb 1 n r.0) (le-leb n 256 r.1)

-- what sound numbers tell of the counts
pub record Counts (c : Cic) : Type 0 where
  pub systems : (1 ≤ c.systems) × (c.systems ≤ 1024)
  pub channels : (1 ≤ c.channels) × (c.channels ≤ 256)
  pub hosts : (1 ≤ c.hosts) × (c.hosts ≤ 256)
  pub global : leb c.global 1 ≡ true

pub numbers-counts : (c : Cic) → numbers_sound c ≡ true → Counts c
unfolding numbers_sound
numbers-counts c e =
    let a = and_right (within 0 c.systems) (within 1 c.channels && (within 2 c.hosts && leb c.global 1)) e in
    let b = and_right (within 1 c.channels) (within 2 c.hosts && leb c.global 1) a in
    record {
      systems = within_systems c.systems (and_left (within 0 c.systems) (within 1 c.channels && (within 2 c.hosts && leb c.global 1)) e);
      channels = within_channels c.channels (and_left (within 1 c.channels) (within 2 c.hosts && leb c.global 1) a);
      hosts = within_hosts c.hosts (and_left (within 2 c.hosts) (leb c.global 1) b);
      global = and_right (within 2 c.hosts) (leb c.global 1) b;
    }
