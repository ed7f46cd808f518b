-- A value and its forms: groups of 0 on top do not count, and the five bytes of a word are worth that word.
use Prim.Native.Nat.{ℕ, zero, suc, ◌+◌, ◌-◌, ◌*◌, ◌/◌, ◌%◌, ◌^◌, ◌<◌, ◌≤◌}
use mathlib.Core.Path.{◌≡◌, sym, ap, ◌∙◌}
use mathlib.Core.List.{List, ◌++◌}
use mathlib.Core.Bool.{Bool, true, false}
use mathlib.Core.Logic.{◌↔◌}
use native.Mathlib.Nat.{div-div-eq-div-mul}
use native.Mathlib.Omega.{arith}
use borrow.Author.Tests.{lt-ltb, le-ltb}
use lib.Dec.{ltb}
use lib.ListN.{length, get_or, length-append}
use lib.Seq.{get_or-append-add}
use Rattle.words.specs.Choice.{pick}
use Rattle.words.specs.Counting.{sum_below}
use Rattle.words.proofs.ChoiceLaws.{pick_true, pick-false}
use Rattle.numbers.specs.Number.{group, size_at, worth_at}
use Rattle.numbers.specs.Promises.{Form, group_of, padded}
use Rattle.numbers.proofs.GroupLaws.{worth, worth-padded, worth-same, same_digits}
use Rattle.numbers.proofs.NumberLaws.{group_at, group_lt}

-- ---- the same value

-- a number is worth its five groups, those beyond its last byte being 0
worth-groups : (s : List ℕ) (at : ℕ) → size_at s at ≤ 5 → worth_at s at (size_at s at) ≡ worth (group_of s at) 5
unfolding worth_at
worth-groups s at short =
    worth-same (group_at s at) (group_of s at) (size_at s at) (λ k l. pick_true 0 (lt-ltb k (size_at s at) l))
    ∙ worth-padded (group_of s at) (size_at s at) (5 - size_at s at) (λ k l. sym (pick-false (group_at s at k) (le-ltb k (size_at s at) l)))
    ∙ ap (worth (group_of s at)) {x = size_at s at + (5 - size_at s at)} {y = 5} (omega arith)

below : (s : List ℕ) (at k : ℕ) → group_of s at k < 128
unfolding pick
below s at k = go (ltb k (size_at s at))
  where
    go : (t : Bool) → pick t (group_at s at k) 0 < 128
    go true = group_lt s at k
    go false = omega arith

pub same-value : (s t : List ℕ) (a b : ℕ) → size_at s a ≤ 5 → size_at t b ≤ 5
    → (worth_at s a (size_at s a) ≡ worth_at t b (size_at t b)) ↔ ((k : ℕ) → k < 5 → group_of s a k ≡ group_of t b k)
same-value s t a b p q = (
  λ e. same_digits (group_of s a) (group_of t b) (below s a) (below t b) 5 (sym (worth-groups s a p) ∙ e ∙ worth-groups t b q),
  λ e. worth-groups s a p ∙ worth-same (group_of s a) (group_of t b) 5 e ∙ sym (worth-groups t b q),
)

-- ---- the five bytes of a word

-- they stand behind what is before them
behind : (before rest : List ℕ) (v k : ℕ) → get_or (before ++ (padded v ++ rest)) (length before + k) 0 ≡ get_or (padded v ++ rest) k 0
behind before rest v k = get_or-append-add before (padded v ++ rest) k 0

pub padded_form : (before rest : List ℕ) (v : ℕ) → v < 2 ^ 32 → Form (before ++ (padded v ++ rest)) (length before) 5
padded_form before rest v l = (
  (omega arith, (λ k h. rw (behind before rest v k) (more k h), rw (behind before rest v 4) (omega arith))),
  (omega arith, omega (arith, length-append before (padded v ++ rest))),
)
  where
    more : (k : ℕ) → k + 1 < 5 → 128 ≤ get_or (padded v ++ rest) k 0
    more zero h = omega arith
    more (suc zero) h = omega arith
    more (suc (suc zero)) h = omega arith
    more (suc (suc (suc zero))) h = omega arith
    more (suc (suc (suc (suc k)))) h = absurd (omega arith)

-- a byte that says that another follows brings its seven bits
bits : (x : ℕ) → (128 + x % 128) % 128 ≡ x % 128
bits x = omega arith

-- what is left of a number after so many groups, a group further
left : (v u w : ℕ) → v / u / 128 ≡ v / w → v / w * 128 + v / u % 128 ≡ v / u
left v u w e = omega (arith, e)

five : (v a b c d p q r s : ℕ) → a * 128 + p ≡ v → b * 128 + q ≡ a → c * 128 + r ≡ b → d * 128 + s ≡ c
    → 0 + p * 1 + q * 128 + r * 16384 + s * 2097152 + d * 268435456 ≡ v
five v a b c d p q r s e f g h = omega arith

digits : (v : ℕ) → v < 2 ^ 32
    → 0 + v % 128 * 1 + v / 128 % 128 * 128 + v / 16384 % 128 * 16384 + v / 2097152 % 128 * 2097152 + v / 268435456 % 128 * 268435456 ≡ v
digits v l =
    let top : v / 268435456 % 128 ≡ v / 268435456 = omega arith in
    rw top (five v (v / 128) (v / 16384) (v / 2097152) (v / 268435456) (v % 128) (v / 128 % 128) (v / 16384 % 128) (v / 2097152 % 128)
    (omega arith) (left v 128 16384 (div-div-eq-div-mul v 128 128)) (left v 16384 2097152 (div-div-eq-div-mul v 16384 128))
    (left v 2097152 268435456 (div-div-eq-div-mul v 2097152 128)))

pub padded-worth : (before rest : List ℕ) (v : ℕ) → v < 2 ^ 32 → worth_at (before ++ (padded v ++ rest)) (length before) 5 ≡ v
unfolding worth_at sum_below
padded-worth before rest v l =
    worth-same (group_at (before ++ (padded v ++ rest)) (length before)) digit 5 (λ k h. ap (λ (x : ℕ). group x) (behind before rest v k)) ∙ whole
  where
    digit : ℕ → ℕ
    digit k = group (get_or (padded v ++ rest) k 0)

    whole : worth digit 5 ≡ v
    whole = rw (bits v, bits (v / 128), bits (v / 16384), bits (v / 2097152)) (digits v l)
