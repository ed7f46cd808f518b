-- Loops that count up, one turn at a time, and what some, all, how many and the lowest of the numbers below n mean.
use mathlib.Core.Path.{◌≡◌, refl, sym, ap, ap₂, ◌∙◌}
use mathlib.Core.Bool.{Bool, true, false, ◌&&◌, ◌||◌, and_assoc, or_assoc, and-true, and-false, or-false, false≢true}
use mathlib.Core.Logic.{⊎_elim}
use Prim.Native.Nat.{ℕ, zero, suc, ◌+◌, ◌≤◌, ◌<◌}
use native.Mathlib.Nat.{add-zero, add-suc, add_assoc, le_of_suc-le-suc, eq-or-lt_of_le}
use native.Mathlib.Numerals.{add-one}
use native.Mathlib.Decide.{dec_lt}
use native.Mathlib.Omega.{arith}
use Rattle.words.specs.Counting.{upto, any_below, all_below, one, count_below, sum_below, lowest_below}
use Rattle.words.proofs.ChoiceLaws.{pick_cases}
use Rattle.words.proofs.TruthLaws.{and_left, and_right, and_both, or-either, or_left, or_right, clash, not-holds}

-- ---- a loop with the invariant `x ≡ upto f z k`

-- before the first turn
pub upto-none : {A : Type 0} (f : A → ℕ → A) (z : A) → z ≡ upto f z 0
unfolding upto
upto-none f z = refl

-- a turn: y is what the turn makes of x
pub upto-more : {A : Type 0} (f : A → ℕ → A) (z : A) (n : ℕ) {x y : A} → x ≡ upto f z n → y ≡ f x n → y ≡ upto f z (n + 1)
unfolding upto
upto-more f z n {x} p q = q ∙ rw (add-one n) (ap (λ (t : _). f t n) p)

-- the end
pub upto_done : {A : Type 0} (f : A → ℕ → A) (z : A) (n m : ℕ) {x : A} → n ≤ m → m ≤ n → x ≡ upto f z n → x ≡ upto f z m
upto_done f z n m p q e =
    let h : n ≡ m = omega arith in
    e ∙ ap (upto f z) h

-- the invariant at the end of any loop that counts to m
pub at_end : {A : Type 0} (g : ℕ → A) (n m : ℕ) {x : A} → n ≤ m → m ≤ n → x ≡ g n → x ≡ g m
at_end g n m p q e =
    let h : n ≡ m = omega arith in
    e ∙ ap g h

-- ---- some number below n passes

pub any-none_yet : (p : ℕ → Bool) → false ≡ any_below 0 p
unfolding any_below
any-none_yet p = refl

-- a turn of a loop that gathers: o so far, q of this one
pub any-more : (p : ℕ → Bool) (n : ℕ) {o q : Bool} → o ≡ any_below n p → q ≡ p n → (o || q) ≡ any_below (n + 1) p
unfolding any_below
any-more p n e f = ap₂ (λ (a b : Bool). a || b) e f ∙ sym (ap (λ (k : ℕ). any_below k p) (add-one n))

-- if some passes there is one
pub any_some : (n : ℕ) (p : ℕ → Bool) → any_below n p ≡ true → (k : ℕ) × (k < n) × (p k ≡ true)
unfolding any_below
any_some zero p e = absurd (false≢true e)
any_some (suc n) p e =
    ⊎_elim
    (λ (h : any_below n p ≡ true). let r = any_some n p h in (r.0, omega (arith, r.1), r.2))
    (λ (h : p n ≡ true). (n, omega arith, h))
    (or-either (any_below n p) (p n) e)

-- if there is one some passes
pub some_any : (n : ℕ) (p : ℕ → Bool) (k : ℕ) → k < n → p k ≡ true → any_below n p ≡ true
unfolding any_below
some_any zero p k l e = absurd (omega arith)
some_any (suc n) p k l e =
    ⊎_elim
    (λ (q : k ≡ n). or_right (any_below n p) (ap p (sym q) ∙ e))
    (λ (q : k < n). or_left (p n) (some_any n p k q e))
    (eq-or-lt_of_le (le_of_suc-le-suc l))

-- if none passes, each fails
pub any_fails : (n : ℕ) (p : ℕ → Bool) → any_below n p ≡ false → (k : ℕ) → k < n → p k ≡ false
any_fails n p e k l = not-holds (p k) (λ h. clash (some_any n p k l h) e)

pub any_none : (n : ℕ) (p : ℕ → Bool) → ((k : ℕ) → k < n → p k ≡ false) → any_below n p ≡ false
any_none n p h = not-holds (any_below n p) (λ e. let r = any_some n p e in clash r.2 (h r.0 r.1))

-- tests that agree below n
pub any_same : (n : ℕ) (p q : ℕ → Bool) → ((k : ℕ) → k < n → p k ≡ q k) → any_below n p ≡ any_below n q
unfolding any_below
any_same zero p q h = refl
any_same (suc n) p q h = rw (any_same n p q (λ k l. h k (omega arith)), h n (omega arith))

-- the numbers below n + m: those below n, then m more
pub any-add : (n m : ℕ) (p : ℕ → Bool) → any_below (n + m) p ≡ (any_below n p || any_below m (λ k. p (n + k)))
unfolding any_below
any-add n zero p = ap (λ (k : ℕ). any_below k p) (add-zero n) ∙ sym (or-false (any_below n p))
any-add n (suc m) p =
    ap (λ (k : ℕ). any_below k p) (add-suc n m) ∙ ap (λ (b : Bool). b || p (n + m)) (any-add n m p)
    ∙ or_assoc (any_below n p) (any_below m (λ k. p (n + k))) (p (n + m))

-- ---- every number below n passes

pub all-none_yet : (p : ℕ → Bool) → true ≡ all_below 0 p
unfolding all_below
all-none_yet p = refl

pub all_more : (p : ℕ → Bool) (n : ℕ) {o q : Bool} → o ≡ all_below n p → q ≡ p n → (o && q) ≡ all_below (n + 1) p
unfolding all_below
all_more p n e f = ap₂ (λ (a b : Bool). a && b) e f ∙ sym (ap (λ (k : ℕ). all_below k p) (add-one n))

pub all_at : (n : ℕ) (p : ℕ → Bool) → all_below n p ≡ true → (k : ℕ) → k < n → p k ≡ true
unfolding all_below
all_at zero p e k l = absurd (omega arith)
all_at (suc n) p e k l =
    ⊎_elim
    (λ (q : k ≡ n). ap p q ∙ and_right (all_below n p) (p n) e)
    (λ (q : k < n). all_at n p (and_left (all_below n p) (p n) e) k q)
    (eq-or-lt_of_le (le_of_suc-le-suc l))

pub at_all : (n : ℕ) (p : ℕ → Bool) → ((k : ℕ) → k < n → p k ≡ true) → all_below n p ≡ true
unfolding all_below
at_all zero p h = refl
at_all (suc n) p h = and_both (at_all n p (λ k l. h k (omega arith))) (h n (omega arith))

pub all_fails : (n : ℕ) (p : ℕ → Bool) (k : ℕ) → k < n → p k ≡ false → all_below n p ≡ false
all_fails n p k l e = not-holds (all_below n p) (λ h. clash (all_at n p h k l) e)

pub all_same : (n : ℕ) (p q : ℕ → Bool) → ((k : ℕ) → k < n → p k ≡ q k) → all_below n p ≡ all_below n q
unfolding all_below
all_same zero p q h = refl
all_same (suc n) p q h = rw (all_same n p q (λ k l. h k (omega arith)), h n (omega arith))

pub all-add : (n m : ℕ) (p : ℕ → Bool) → all_below (n + m) p ≡ (all_below n p && all_below m (λ k. p (n + k)))
unfolding all_below
all-add n zero p = ap (λ (k : ℕ). all_below k p) (add-zero n) ∙ sym (and-true (all_below n p))
all-add n (suc m) p =
    ap (λ (k : ℕ). all_below k p) (add-suc n m) ∙ ap (λ (b : Bool). b && p (n + m)) (all-add n m p)
    ∙ and_assoc (all_below n p) (all_below m (λ k. p (n + k))) (p (n + m))

-- two `and`s of two parts, their inner parts changed over
and_swap : (a b c d : Bool) → ((a && b) && (c && d)) ≡ ((a && c) && (b && d))
and_swap true true c d = refl
and_swap true false c d = sym (and-false c)
and_swap false b c d = refl

-- each number passes both tests exactly if each passes the one and each the other
pub all-and : (n : ℕ) (p q : ℕ → Bool) → all_below n (λ k. p k && q k) ≡ (all_below n p && all_below n q)
unfolding all_below
all-and zero p q = refl
all-and (suc n) p q = ap (λ (b : Bool). b && (p n && q n)) (all-and n p q) ∙ and_swap (all_below n p) (all_below n q) (p n) (q n)

-- ---- how many numbers below n pass

pub one_le : (b : Bool) → one b ≤ 1
one_le true = omega arith
one_le false = omega arith

pub count-none_yet : (p : ℕ → Bool) → ◌≡◌ {A = ℕ} 0 (count_below 0 p)
unfolding count_below
count-none_yet p = refl

pub count_same : (n : ℕ) (p q : ℕ → Bool) → ((k : ℕ) → k < n → p k ≡ q k) → count_below n p ≡ count_below n q
unfolding count_below
count_same zero p q h = refl
count_same (suc n) p q h = ap₂ (λ (a : ℕ) (b : Bool). a + one b) (count_same n p q (λ k l. h k (omega arith))) (h n (omega arith))

pub count_add : (n m : ℕ) (p : ℕ → Bool) → count_below (n + m) p ≡ count_below n p + count_below m (λ k. p (n + k))
unfolding count_below
count_add n zero p = ap (λ (k : ℕ). count_below k p) (add-zero n) ∙ sym (add-zero (count_below n p))
count_add n (suc m) p =
    ap (λ (k : ℕ). count_below k p) (add-suc n m) ∙ ap (λ (k : ℕ). k + one (p (n + m))) (count_add n m p)
    ∙ add_assoc (count_below n p) (count_below m (λ k. p (n + k))) (one (p (n + m)))

pub count_le : (n : ℕ) (p : ℕ → Bool) → count_below n p ≤ n
unfolding count_below
count_le zero p = omega arith
count_le (suc n) p = omega (arith, count_le n p, one_le (p n))

-- ---- sums

pub sum_le : (n : ℕ) (f g : ℕ → ℕ) → ((k : ℕ) → k < n → f k ≤ g k) → sum_below n f ≤ sum_below n g
unfolding sum_below
sum_le zero f g h = omega arith
sum_le (suc n) f g h = omega (arith, sum_le n f g (λ k l. h k (omega arith)), h n (omega arith))

pub sum-add : (n : ℕ) (f g : ℕ → ℕ) → sum_below n (λ k. f k + g k) ≡ sum_below n f + sum_below n g
unfolding sum_below
sum-add zero f g = refl
sum-add (suc n) f g = omega (arith, sum-add n f g)

-- one of the terms is at most the sum
pub sum_at : (n : ℕ) (f : ℕ → ℕ) (j : ℕ) → j < n → f j ≤ sum_below n f
unfolding sum_below
sum_at zero f j l = absurd (omega arith)
sum_at (suc n) f j l = go (dec_lt j n) (sum_at n f j)
  where
    go : Dec (j < n) → (j < n → f j ≤ sum_below n f) → f j ≤ sum_below n f + f n
    go (yes m) ih = omega (arith, ih m)
    go (no g) ih =
        let e : n ≡ j = omega arith in
        omega (arith, ap f e)

-- ---- the lowest number below n that passes

-- r passes if it is below n, and none before it does
pub record Lowest (p : ℕ → Bool) (n r : ℕ) : Type 0 where
  pub within : r ≤ n
  pub before : (k : ℕ) → k < r → p k ≡ false
  pub found : r < n → p r ≡ true

pub lowest_found : (n : ℕ) (p : ℕ → Bool) → Lowest p n (lowest_below n p)
unfolding lowest_below
lowest_found zero p = record { within = omega arith; before = λ k l. absurd (omega arith); found = λ l. absurd (omega arith) }
lowest_found (suc n) p =
    pick_cases (Lowest p (suc n)) (any_below n p) (earlier n p (lowest_below n p) (lowest_found n p))
    (λ e. pick_cases (Lowest p (suc n)) (p n) (λ h. record { within = omega arith; before = any_fails n p e; found = λ l. h }) (λ h. nowhere n p e h))
  where
    earlier : (n : ℕ) (p : ℕ → Bool) (r : ℕ) → Lowest p n r → any_below n p ≡ true → Lowest p (suc n) r
    earlier n p r low e =
        record { within = omega (arith, low.within); before = low.before; found = λ l. low.found (inside (any_some n p e)) }
      where
        inside : (k : ℕ) × (k < n) × (p k ≡ true) → r < n
        inside s = ⊎_elim (λ (q : r ≡ n). clash s.2 (low.before s.0 (omega (arith, s.1)))) (λ (q : r < n). q) (eq-or-lt_of_le low.within)

    nowhere : (n : ℕ) (p : ℕ → Bool) → any_below n p ≡ false → p n ≡ false → Lowest p (suc n) (suc n)
    nowhere n p e h =
        record {
          within = omega arith;
          before = λ k l. ⊎_elim (λ (q : k ≡ n). ap p q ∙ h) (λ (q : k < n). any_fails n p e k q) (eq-or-lt_of_le (le_of_suc-le-suc l));
          found = λ l. absurd (omega arith);
        }

-- there is one lowest number
pub lowest-one : (p : ℕ → Bool) (n a b : ℕ) → Lowest p n a → Lowest p n b → a ≡ b
lowest-one p n a b x y = go (dec_lt a b) (dec_lt b a)
  where
    go : Dec (a < b) → Dec (b < a) → a ≡ b
    go (yes q) s = clash (x.found (omega (arith, y.within))) (y.before a q)
    go (no q) (yes s) = clash (y.found (omega (arith, x.within))) (x.before b s)
    go (no q) (no s) = omega arith

-- tests that agree below n have one lowest number
pub lowest-same : (n : ℕ) (p q : ℕ → Bool) → ((k : ℕ) → k < n → p k ≡ q k) → lowest_below n p ≡ lowest_below n q
unfolding lowest_below
lowest-same zero p q h = refl
lowest-same (suc n) p q h = rw (any_same n p q (λ k l. h k (omega arith)), lowest-same n p q (λ k l. h k (omega arith)), h n (omega arith))
