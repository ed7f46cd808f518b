-- No source is shown twice: one has one level, and is normal or fast.
use Prim.Native.Nat.{ℕ, zero, suc, ◌+◌, ◌<◌, ◌≤◌}
use mathlib.Core.Path.{◌≡◌, refl, ap, ◌∙◌}
use mathlib.Core.Bool.{Bool, true, false, not, ◌&&◌}
use mathlib.Core.List.{List, [], ◌∷◌, ◌++◌}
use native.Mathlib.Decide.{dec_lt}
use native.Mathlib.Omega.{arith}
use lib.Dec.{eqb}
use lib.ListN.{length, get_or, length-append}
use borrow.Author.Tests.{eq-eqb, ne_eqb}
use Rattle.words.specs.Choice.{pick}
use Rattle.words.specs.Counting.{one, sum_below}
use Rattle.stack.specs.declared.Table.{Table}
use Rattle.stack.specs.Bytes.{normal}
use Rattle.sheet.specs.Texts.{down}
use Rattle.sheet.specs.Order.{shown, stands, chosen, by_level, in_order}
use Rattle.sheet.specs.Promises.{occurs}

-- ---- how many are listed

many_if : (b : Bool) (n : ℕ) → length (pick b (n ∷ []) []) ≡ one b
unfolding pick
many_if true n = refl
many_if false n = refl

none_listed : (p : ℕ → ℕ → Bool) (l : ℕ) → length (down (λ l. chosen (p l) 0) l) ≡ 0
unfolding down chosen
none_listed p zero = refl
none_listed p (suc l) = none_listed p l

-- one more source is listed once for each level at which it passes
one_listed : (p : ℕ → ℕ → Bool) (n l : ℕ)
    → length (down (λ l. chosen (p l) (suc n)) l) ≡ length (down (λ l. chosen (p l) n) l) + sum_below l (λ l. one (p l n))
unfolding down chosen sum_below
one_listed p n zero = refl
one_listed p n (suc l) = simp length-append (omega (arith, one_listed p n l, many_if (p l n) n))

-- ---- at how many levels it passes

off : (s x : Bool) → one (s && (x && false)) ≡ 0
off true true = refl
off true false = refl
off false x = refl

at_most : (s x b : Bool) → one (s && (x && b)) ≤ one x
at_most true true true = omega arith
at_most true true false = omega arith
at_most true false b = omega arith
at_most false true b = omega arith
at_most false false b = omega arith

either-one : (b : Bool) → one b + one (not b) ≡ 1
either-one true = refl
either-one false = refl

-- at none below its own
below_own : (s x : Bool) (k l : ℕ) → l ≤ k → sum_below l (λ l. one (s && (x && eqb k l))) ≡ 0
unfolding sum_below
below_own s x k zero h = refl
below_own s x k (suc l) h =
    let e : eqb k l ≡ false = ne_eqb k l (λ (q : k ≡ l). omega arith) in
    let z : one (s && (x && eqb k l)) ≡ 0 = ap (λ (b : Bool). one (s && (x && b))) e ∙ off s x in
    omega (arith, below_own s x k l (omega arith))

once : (s x : Bool) (k l : ℕ) → sum_below l (λ l. one (s && (x && eqb k l))) ≤ one x
unfolding sum_below
once s x k zero = omega arith
once s x k (suc l) = go (dec_lt k l) (dec_lt l k) (once s x k l)
  where
    apart : (k ≡ l → ⊥) → sum_below l (λ l. one (s && (x && eqb k l))) ≤ one x → sum_below l (λ l. one (s && (x && eqb k l))) + one (s && (x && eqb k l)) ≤ one x
    apart d h =
        let z : one (s && (x && eqb k l)) ≡ 0 = ap (λ (b : Bool). one (s && (x && b))) (ne_eqb k l d) ∙ off s x in
        omega arith

    go : Dec (k < l) → Dec (l < k) → sum_below l (λ l. one (s && (x && eqb k l))) ≤ one x
        → sum_below l (λ l. one (s && (x && eqb k l))) + one (s && (x && eqb k l)) ≤ one x
    go (yes a) b h = apart (λ (q : k ≡ l). omega arith) h
    go (no a) (yes b) h = apart (λ (q : k ≡ l). omega arith) h
    go (no a) (no b) h = omega (arith, below_own s x k l (omega arith), at_most s x (eqb k l))

one_place : (t : Table) (used n l : ℕ) → sum_below l (λ l. one (stands t used false l n)) + sum_below l (λ l. one (stands t used true l n)) ≤ 1
unfolding stands pick
one_place t used n l =
    omega (
      arith,
      once (shown t used n) (normal t n) (get_or t.priority n 0) l,
      once (shown t used n) (not (normal t n)) (get_or t.priority n 0) l,
      either-one (normal t n),
    )

-- ---- all of them

listed_below : (t : Table) (used n : ℕ)
    → length (down (λ l. chosen (stands t used false l) n) 8) + length (down (λ l. chosen (stands t used true l) n) 8) ≤ n
listed_below t used zero = omega (arith, none_listed (stands t used false) 8, none_listed (stands t used true) 8)
listed_below t used (suc n) =
    omega (arith, one_listed (stands t used false) n 8, one_listed (stands t used true) n 8, one_place t used n 8, listed_below t used n)

pub order-fits : (t : Table) (used : ℕ) → length (in_order t used) ≤ 32
unfolding in_order by_level
order-fits t used = simp length-append (listed_below t used 32)

-- ---- how often one stands there

occurs_append : (i : ℕ) (a b : List ℕ) → occurs i (a ++ b) ≡ occurs i a + occurs i b
unfolding occurs
occurs_append i [] b = omega arith
occurs_append i (x ∷ a) b = omega (arith, occurs_append i a b)

occurs_if : (b : Bool) (n i : ℕ) → occurs i (pick b (n ∷ []) []) ≡ one (b && eqb n i)
unfolding occurs pick
occurs_if true n i = omega arith
occurs_if false n i = refl

absent : (b : Bool) → one (b && false) ≡ 0
absent true = refl
absent false = refl

whole : (b : Bool) → one (b && true) ≡ one b
whole true = refl
whole false = refl

chosen_far : (p : ℕ → Bool) (n i : ℕ) → n ≤ i → occurs i (chosen p n) ≡ 0
unfolding chosen
chosen_far p zero i h = unfold occurs in refl
chosen_far p (suc n) i h =
    let z : one (p n && eqb n i) ≡ 0 = ap (λ (b : Bool). one (p n && b)) (ne_eqb n i (λ (q : n ≡ i). omega arith)) ∙ absent (p n) in
    omega (arith, occurs_append i (chosen p n) (pick (p n) (n ∷ []) []), occurs_if (p n) n i, chosen_far p n i (omega arith))

chosen_near : (p : ℕ → Bool) (n i : ℕ) → i < n → occurs i (chosen p n) ≡ one (p i)
unfolding chosen
chosen_near p zero i h = absurd (omega arith)
chosen_near p (suc n) i h = go (dec_lt i n) (chosen_near p n i)
  where
    go : Dec (i < n) → (i < n → occurs i (chosen p n) ≡ one (p i)) → occurs i (chosen p n ++ pick (p n) (n ∷ []) []) ≡ one (p i)
    go (yes l) ih =
        let z : one (p n && eqb n i) ≡ 0 = ap (λ (b : Bool). one (p n && b)) (ne_eqb n i (λ (q : n ≡ i). omega arith)) ∙ absent (p n) in
        omega (arith, occurs_append i (chosen p n) (pick (p n) (n ∷ []) []), occurs_if (p n) n i, ih l)
    go (no l) ih =
        let e : n ≡ i = omega arith in
        let z : one (p n && eqb n i) ≡ one (p i) = ap (λ (b : Bool). one (p n && b)) (eq-eqb n i e) ∙ whole (p n) ∙ ap (λ (k : ℕ). one (p k)) e in
        omega (arith, occurs_append i (chosen p n) (pick (p n) (n ∷ []) []), occurs_if (p n) n i, chosen_far p n i (omega arith))

levels_near : (p : ℕ → ℕ → Bool) (i l : ℕ) → i < 32 → occurs i (down (λ l. chosen (p l) 32) l) ≡ sum_below l (λ l. one (p l i))
unfolding down sum_below
levels_near p i zero h = unfold occurs in refl
levels_near p i (suc l) h =
    omega (arith, occurs_append i (chosen (p l) 32) (down (λ l. chosen (p l) 32) l), chosen_near (p l) 32 i h, levels_near p i l h)

-- at its own level, and no other
own_level : (s x : Bool) (k l : ℕ) → k < l → sum_below l (λ l. one (s && (x && eqb k l))) ≡ one (s && x)
unfolding sum_below
own_level s x k zero h = absurd (omega arith)
own_level s x k (suc l) h = go (dec_lt k l) (own_level s x k l)
  where
    same : (s x : Bool) → one (s && (x && true)) ≡ one (s && x)
    same true x = whole x
    same false x = refl

    go : Dec (k < l) → (k < l → sum_below l (λ l. one (s && (x && eqb k l))) ≡ one (s && x))
        → sum_below l (λ l. one (s && (x && eqb k l))) + one (s && (x && eqb k l)) ≡ one (s && x)
    go (yes a) ih =
        let z : one (s && (x && eqb k l)) ≡ 0 = ap (λ (b : Bool). one (s && (x && b))) (ne_eqb k l (λ (q : k ≡ l). omega arith)) ∙ off s x in
        omega (arith, ih a)
    go (no a) ih =
        let z : one (s && (x && eqb k l)) ≡ one (s && x) = ap (λ (b : Bool). one (s && (x && b))) (eq-eqb k l (omega arith)) ∙ same s x in
        omega (arith, below_own s x k l (omega arith))

either_way : (s n : Bool) → one (s && n) + one (s && not n) ≡ one s
either_way true n = either-one n
either_way false n = refl

pub stands_once : (t : Table) (used i : ℕ) → i < 32 → get_or t.priority i 0 ≤ 7 → occurs i (in_order t used) ≡ one (shown t used i)
unfolding in_order by_level stands pick
stands_once t used i h l =
    omega (
      arith,
      occurs_append i (down (λ l. chosen (stands t used false l) 32) 8) (down (λ l. chosen (stands t used true l) 32) 8),
      levels_near (stands t used false) i 8 h,
      levels_near (stands t used true) i 8 h,
      own_level (shown t used i) (normal t i) (get_or t.priority i 0) 8 (omega arith),
      own_level (shown t used i) (not (normal t i)) (get_or t.priority i 0) 8 (omega arith),
      either_way (shown t used i) (normal t i),
    )
