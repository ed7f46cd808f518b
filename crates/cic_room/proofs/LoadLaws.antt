-- How many of the active system interrupts go where: one more or less, a channel that goes to another host.
use mathlib.Core.Path.{◌≡◌, refl, sym, ap, ap₂, ◌∙◌}
use mathlib.Core.Bool.{Bool, true, false, ◌&&◌, ◌||◌, not, and-false, or-false, or-true}
use mathlib.Core.List.{List}
use Prim.Native.Nat.{ℕ, zero, suc, ◌+◌, ◌<◌, ◌≤◌}
use native.Mathlib.Decide.{dec_lt, ℕ_discrete}
use native.Mathlib.Omega.{arith}
use borrow.Author.Tests.{eq-eqb, ne_eqb}
use lib.Dec.{eqb}
use lib.ListN.{length, length-set}
use Rattle.words.specs.Array.{bit_at, with_bit_at}
use Rattle.words.specs.Choice.{pick}
use Rattle.words.specs.Counting.{any_below, count_below, one}
use Rattle.words.proofs.ArrayLaws.{bit_at-with_bit_at}
use Rattle.words.proofs.ChoiceLaws.{pick_true, pick-false}
use Rattle.words.proofs.CountingLaws.{count_same, count_le}
use Rattle.cic_room.specs.Tables.{load_by, more}

-- ---- one number more

-- a test that holds of one number more
pub count-one-more : (n : ℕ) (p q : ℕ → Bool) (k : ℕ) → k < n → p k ≡ false → q k ≡ true → ((j : ℕ) → j < n → (j ≡ k → ⊥) → q j ≡ p j)
    → count_below n q ≡ count_below n p + 1
unfolding count_below
count-one-more zero p q k l a b h = absurd (omega arith)
count-one-more (suc n) p q k l a b h = go (ℕ_discrete n k) (λ m. count-one-more n p q k m a b (λ j i. h j (omega arith)))
  where
    go : Dec (n ≡ k) → (k < n → count_below n q ≡ count_below n p + 1) → count_below n q + one (q n) ≡ count_below n p + one (p n) + 1
    go (yes e) r =
        ap₂ (λ (x y : ℕ). x + y) (count_same n q p (λ j m. h j (omega arith) (λ f. absurd (omega (arith, e, f, m))))) (ap (λ (i : ℕ). one (q i)) e ∙ ap one b)
        ∙ (omega arith ∙ sym (ap (λ (x : ℕ). count_below n p + x + 1) (ap (λ (i : ℕ). one (p i)) e ∙ ap one a)))
    go (no e) r = ap₂ (λ (x y : ℕ). x + y) (r (omega (arith, l, e))) (ap one (h n (omega arith) e)) ∙ omega arith

-- a test that holds of none
pub count-nothing : (n : ℕ) (p : ℕ → Bool) → ((k : ℕ) → k < n → p k ≡ false) → count_below n p ≡ 0
unfolding count_below
count-nothing zero p h = refl
count-nothing (suc n) p h = ap₂ (λ (x : ℕ) (b : Bool). x + one b) (count-nothing n p (λ k l. h k (omega arith))) (h n (omega arith))

-- numbers that do not pass are not counted
pub count_cut : (m n : ℕ) (p : ℕ → Bool) → n ≤ m → ((k : ℕ) → n ≤ k → k < m → p k ≡ false) → count_below m p ≡ count_below n p
unfolding count_below
count_cut zero zero p l h = refl
count_cut zero (suc n) p l h = absurd (omega arith)
count_cut (suc m) n p l h = go (dec_lt m n) (λ i. count_cut m n p i (λ k a b. h k a (omega arith)))
  where
    go : Dec (m < n) → (n ≤ m → count_below m p ≡ count_below n p) → count_below m p + one (p m) ≡ count_below n p
    go (yes i) r = let e : suc m ≡ n = omega (arith, i, l) in ap (λ (k : ℕ). count_below k p) e
    go (no i) r = ap (λ (b : Bool). count_below m p + one b) (h m (omega (arith, i)) (omega arith)) ∙ (omega arith ∙ r (omega (arith, i)))

-- some pass exactly if their number is not 0
pub any-count : (n : ℕ) (p : ℕ → Bool) → not (eqb (count_below n p) 0) ≡ any_below n p
unfolding count_below any_below
any-count zero p = refl
any-count (suc n) p = go (p n) (any-count n p)
  where
    go : (b : Bool) → not (eqb (count_below n p) 0) ≡ any_below n p → not (eqb (count_below n p + one b) 0) ≡ (any_below n p || b)
    go true e = ap not (ne_eqb (count_below n p + 1) 0 (λ q. absurd (omega (arith, q)))) ∙ sym (or-true (any_below n p))
    go false e = let f : count_below n p + 0 ≡ count_below n p = omega arith in ap (λ (x : ℕ). not (eqb x 0)) f ∙ e ∙ sym (or-false (any_below n p))

-- ---- what is counted

-- one system interrupt more is one more where it goes
pub one_more : (t : ℕ → ℕ) (ws ws' : List ℕ) (s : ℕ) → s < 1024 → bit_at ws s ≡ false → bit_at ws' s ≡ true → ((j : ℕ) → (j ≡ s → ⊥) → bit_at ws' j ≡ bit_at ws j)
    → (h : ℕ) → load_by t ws' h ≡ more (load_by t ws) (t s) 1 h
one_more t ws ws' s l a b o h = go (ℕ_discrete h (t s))
  where
    old : ℕ → Bool
    old j = bit_at ws j && eqb (t j) h

    new : ℕ → Bool
    new j = bit_at ws' j && eqb (t j) h

    nowhere : (j : ℕ) (x : Bool) → (h ≡ t s → ⊥) → j ≡ s → (x && eqb (t j) h) ≡ false
    nowhere j x e p = ap (λ (y : Bool). x && y) (ne_eqb (t j) h (λ q. e (sym q ∙ ap t p))) ∙ and-false x

    same : (h ≡ t s → ⊥) → (j : ℕ) → Dec (j ≡ s) → new j ≡ old j
    same e j (yes p) = nowhere j (bit_at ws' j) e p ∙ sym (nowhere j (bit_at ws j) e p)
    same e j (no p) = ap (λ (x : Bool). x && eqb (t j) h) (o j p)

    go : Dec (h ≡ t s) → load_by t ws' h ≡ load_by t ws h + pick (eqb h (t s)) 1 0
    go (yes e) =
        count-one-more 1024 old new s l (ap (λ (x : Bool). x && eqb (t s) h) a) (ap₂ (λ (x y : Bool). x && y) b (eq-eqb (t s) h (sym e)))
        (λ j _ n. ap (λ (x : Bool). x && eqb (t j) h) (o j n))
        ∙ ap (λ (x : ℕ). load_by t ws h + x) (pick_true 0 (eq-eqb h (t s) e))
    go (no e) =
        count_same 1024 new old (λ j _. same e j (ℕ_discrete j s))
        ∙ omega arith ∙ ap (λ (x : ℕ). load_by t ws h + x) (pick-false 1 (ne_eqb h (t s) e))

-- none has more than there are
pub load-most : (t : ℕ → ℕ) (ws : List ℕ) (h : ℕ) → load_by t ws h ≤ 1024
load-most t ws h = count_le 1024 (λ s. bit_at ws s && eqb (t s) h)

-- n more at h, and elsewhere none
pub more_at : (g : ℕ → ℕ) (h n : ℕ) → g h + n ≡ more g h n h
more_at g h n = ap (λ (x : ℕ). g h + x) (pick_true 0 (eq-eqb h h refl))

pub more-off : (g : ℕ → ℕ) (h n i : ℕ) → (i ≡ h → ⊥) → g i ≡ more g h n i
more-off g h n i o = omega arith ∙ ap (λ (x : ℕ). g i + x) (pick-false n (ne_eqb i h o))

-- the bit that is put, and another
pub bit_at_lem : (ws : List ℕ) (s : ℕ) (t : Bool) → length ws ≡ 32 → s < 1024 → bit_at (with_bit_at ws s t) s ≡ t
bit_at_lem ws s t e l = bit_at-with_bit_at ws s t s (omega arith) ∙ sym (pick_true (bit_at ws s) (eq-eqb s s refl))

pub bit-off : (ws : List ℕ) (s : ℕ) (t : Bool) → length ws ≡ 32 → s < 1024 → (j : ℕ) → (j ≡ s → ⊥) → bit_at (with_bit_at ws s t) j ≡ bit_at ws j
bit-off ws s t e l j n = bit_at-with_bit_at ws s t j (omega arith) ∙ sym (pick-false t (ne_eqb j s n))

pub long-put : (ws : List ℕ) (s : ℕ) (t : Bool) → length ws ≡ 32 → length (with_bit_at ws s t) ≡ 32
unfolding with_bit_at
long-put ws s t e = simp length-set e

-- one more and one less
pub load_on : (t : ℕ → ℕ) (ws : List ℕ) (s : ℕ) → length ws ≡ 32 → s < 1024 → bit_at ws s ≡ false → (h : ℕ) → load_by t (with_bit_at ws s true) h ≡ more (load_by t ws) (t s) 1 h
load_on t ws s e l b = one_more t ws (with_bit_at ws s true) s l b (bit_at_lem ws s true e l) (bit-off ws s true e l)

pub load-off : (t : ℕ → ℕ) (ws : List ℕ) (s : ℕ) → length ws ≡ 32 → s < 1024 → bit_at ws s ≡ true → (h : ℕ) → load_by t ws h ≡ more (load_by t (with_bit_at ws s false)) (t s) 1 h
load-off t ws s e l b = one_more t (with_bit_at ws s false) ws s l (bit_at_lem ws s false e l) b (λ j n. sym (bit-off ws s false e l j n))

-- system interrupts that are not active count for nothing, wherever they go
pub load_stays : (t t' : ℕ → ℕ) (ws : List ℕ) (h : ℕ) → ((s : ℕ) → s < 1024 → bit_at ws s ≡ true → t s ≡ t' s) → load_by t ws h ≡ load_by t' ws h
load_stays t t' ws h e = count_same 1024 (λ s. bit_at ws s && eqb (t s) h) (λ s. bit_at ws s && eqb (t' s) h) (λ s l. go s l (bit_at ws s) refl)
  where
    go : (s : ℕ) → s < 1024 → (b : Bool) → bit_at ws s ≡ b → (b && eqb (t s) h) ≡ (b && eqb (t' s) h)
    go s l true f = ap (λ (n : ℕ). eqb n h) (e s l f)
    go s l false f = refl

-- numbers of which one of two tests holds
count-either : (n : ℕ) (p q r : ℕ → Bool) → ((k : ℕ) → one (r k) ≡ one (p k) + one (q k)) → count_below n r ≡ count_below n p + count_below n q
unfolding count_below
count-either zero p q r e = refl
count-either (suc n) p q r e = omega (arith, count-either n p q r e, e n)

-- where the system interrupts of channel k are left out
abbrev elsewhere : (ℕ → ℕ) → (ℕ → ℕ) → List ℕ → ℕ → ℕ → ℕ
elsewhere chan to ws k h = count_below 1024 (λ s. (bit_at ws s && eqb (to (chan s)) h) && not (eqb (chan s) k))

-- the host of channel k has all of the channel, beside those of other channels
split : (chan to : ℕ → ℕ) (ws : List ℕ) (k h : ℕ) → load_by (λ s. to (chan s)) ws h ≡ more (elsewhere chan to ws k) (to k) (load_by chan ws k) h
split chan to ws k h = go (ℕ_discrete h (to k))
  where
    all : ℕ → Bool
    all s = bit_at ws s && eqb (to (chan s)) h

    here : (s : ℕ) (b : Bool) → h ≡ to k → Dec (chan s ≡ k) → one (b && eqb (to (chan s)) h) ≡ one ((b && eqb (to (chan s)) h) && not (eqb (chan s) k)) + one (b && eqb (chan s) k)
    here s b e (yes p) = rw (eq-eqb (chan s) k p, eq-eqb (to (chan s)) h (ap to p ∙ sym e)) (both_ways b)
      where
        both_ways : (b : Bool) → one (b && true) ≡ one ((b && true) && not true) + one (b && true)
        both_ways true = refl
        both_ways false = refl
    here s b e (no p) = rw (ne_eqb (chan s) k p) (both_ways b (eqb (to (chan s)) h))
      where
        both_ways : (b x : Bool) → one (b && x) ≡ one ((b && x) && not false) + one (b && false)
        both_ways true true = refl
        both_ways true false = refl
        both_ways false x = refl

    off : (s : ℕ) (b : Bool) → (h ≡ to k → ⊥) → Dec (chan s ≡ k) → (b && eqb (to (chan s)) h) ≡ ((b && eqb (to (chan s)) h) && not (eqb (chan s) k))
    off s b e (yes p) = rw (ne_eqb (to (chan s)) h (λ q. e (sym q ∙ ap to p))) (both_ways b (not (eqb (chan s) k)))
      where
        both_ways : (b x : Bool) → (b && false) ≡ ((b && false) && x)
        both_ways true x = refl
        both_ways false x = refl
    off s b e (no p) = rw (ne_eqb (chan s) k p) (both_ways b (eqb (to (chan s)) h))
      where
        both_ways : (b x : Bool) → (b && x) ≡ ((b && x) && not false)
        both_ways true true = refl
        both_ways true false = refl
        both_ways false x = refl

    go : Dec (h ≡ to k) → load_by (λ s. to (chan s)) ws h ≡ elsewhere chan to ws k h + pick (eqb h (to k)) (load_by chan ws k) 0
    go (yes e) =
        count-either 1024 (λ s. all s && not (eqb (chan s) k)) (λ s. bit_at ws s && eqb (chan s) k) all (λ s. here s (bit_at ws s) e (ℕ_discrete (chan s) k))
        ∙ ap (λ (x : ℕ). elsewhere chan to ws k h + x) (pick_true 0 (eq-eqb h (to k) e))
    go (no e) =
        count_same 1024 all (λ s. all s && not (eqb (chan s) k)) (λ s _. off s (bit_at ws s) e (ℕ_discrete (chan s) k))
        ∙ omega arith ∙ ap (λ (x : ℕ). elsewhere chan to ws k h + x) (pick-false (load_by chan ws k) (ne_eqb h (to k) e))

-- channel k goes to another host, and no other channel does
pub record Moves (chan to to' : ℕ → ℕ) (ws : List ℕ) (k : ℕ) : Type 0 where
  pub rest : ℕ → ℕ
  pub was : (h : ℕ) → load_by (λ s. to (chan s)) ws h ≡ more rest (to k) (load_by chan ws k) h
  pub is : (h : ℕ) → more rest (to' k) (load_by chan ws k) h ≡ load_by (λ s. to' (chan s)) ws h

pub moves : (chan to to' : ℕ → ℕ) (ws : List ℕ) (k : ℕ) → ((x : ℕ) → (x ≡ k → ⊥) → to x ≡ to' x) → Moves chan to to' ws k
moves chan to to' ws k e = record { rest = elsewhere chan to ws k; was = split chan to ws k; is = λ h. ap (λ (x : ℕ). x + pick (eqb h (to' k)) (load_by chan ws k) 0) (same h) ∙ sym (split chan to' ws k h) }
  where
    one-system : (h s : ℕ) → Dec (chan s ≡ k) → ((bit_at ws s && eqb (to (chan s)) h) && not (eqb (chan s) k)) ≡ ((bit_at ws s && eqb (to' (chan s)) h) && not (eqb (chan s) k))
    one-system h s (yes p) =
        ap (λ (b : Bool). (bit_at ws s && eqb (to (chan s)) h) && not b) (eq-eqb (chan s) k p) ∙ and-false (bit_at ws s && eqb (to (chan s)) h)
        ∙ sym (ap (λ (b : Bool). (bit_at ws s && eqb (to' (chan s)) h) && not b) (eq-eqb (chan s) k p) ∙ and-false (bit_at ws s && eqb (to' (chan s)) h))
    one-system h s (no p) = ap (λ (x : ℕ). (bit_at ws s && eqb x h) && not (eqb (chan s) k)) (e (chan s) p)

    same : (h : ℕ) → elsewhere chan to ws k h ≡ elsewhere chan to' ws k h
    same h = count_same 1024 (λ s. (bit_at ws s && eqb (to (chan s)) h) && not (eqb (chan s) k)) (λ s. (bit_at ws s && eqb (to' (chan s)) h) && not (eqb (chan s) k)) (λ s _. one-system h s (ℕ_discrete (chan s) k))
