-- The columns of the book: what one number put anew is of them, and what they are of rows.
use Prim.Native.Nat.{ℕ, ◌+◌, ◌≤◌, ◌<◌, ◌^◌}
use mathlib.Core.Path.{◌≡◌, refl, sym, ap, ap₂, ◌∙◌, subst}
use mathlib.Core.Bool.{Bool, true, false, ◌&&◌, ◌||◌, and-true, and-false}
use mathlib.Core.List.{List, []}
use native.Mathlib.Omega.{arith}
use native.Mathlib.Decide.{ℕ_discrete, dec_lt}
use lib.Dec.{eqb, ltb}
use lib.ListN.{get_or, set, length, length-set}
use lib.Seq.{get_or-set_same, get_or-set_other, ext_get_or}
use borrow.Author.Tests.{eq-eqb, ne_eqb, lt-ltb, le-ltb}
use Rattle.words.specs.Choice.{pick}
use Rattle.words.specs.Counting.{one}
use Rattle.words.specs.Word.{bit, without, with_bit}
use Rattle.words.proofs.ChoiceLaws.{pick_true, pick-false}
use Rattle.words.proofs.WordLaws.{bit_alone}
use Rattle.rooms.proofs.PartLaws.{made-length, made_get, made-same}
use Rattle.aic_waits.specs.Following.{capped}
use Rattle.aic_bounds.specs.Following.{plus}
use Rattle.aic_figures.specs.WaitsBook.{cell_in, row_at, Columns, Cells, Rows, Worded}
use Rattle.aic_figures.proofs.RowLaws.{plus-bit, plus-none_yet, plus_last}

-- ---- one number

module _ (book : List (List ℕ)) (j i v : ℕ) (h : Columns book) (lj : j < 19) (li : i < 32) where
  abbrev column : List ℕ
  column = set (get_or book j []) i v

  pub put-size : Columns (set book j (set (get_or book j []) i v))
  put-size = (length-set book j column ∙ h.0, λ a l. go a l (ℕ_discrete a j))
    where
      go : (a : ℕ) → a < 19 → Dec (a ≡ j) → length (get_or (set book j (set (get_or book j []) i v)) a []) ≡ 32
      go a l (yes p) = rw p (ap length (get_or-set_same book j column [] (omega (arith, h.0, lj))) ∙ length-set (get_or book j []) i v ∙ h.1 j lj)
      go a l (no n) = ap length (get_or-set_other book j a column [] n) ∙ h.1 a l

  pub put_here : cell_in (set book j (set (get_or book j []) i v)) j i ≡ v
  put_here =
      ap (λ (c : List ℕ). get_or c i 0) (get_or-set_same book j column [] (omega (arith, h.0, lj))) ∙ get_or-set_same (get_or book j []) i v 0 (omega (arith, h.1 j lj, li))

  pub put_there : (a b : ℕ) → (a ≡ j → b ≡ i → ⊥) → cell_in (set book j (set (get_or book j []) i v)) a b ≡ cell_in book a b
  put_there a b n = go (ℕ_discrete a j)
    where
      go : Dec (a ≡ j) → cell_in (set book j (set (get_or book j []) i v)) a b ≡ cell_in book a b
      go (yes p) = rw p (ap (λ (c : List ℕ). get_or c b 0) (get_or-set_same book j column [] (omega (arith, h.0, lj))) ∙ get_or-set_other (get_or book j []) i b v 0 (λ q. n p q))
      go (no q) = ap (λ (c : List ℕ). get_or c b 0) (get_or-set_other book j a column [] q)

-- ---- one after another

pub cells-none : (some : ℕ → ℕ → Bool) (g : ℕ → ℕ → ℕ) (old : List (List ℕ)) → Columns old → ((j i : ℕ) → some j i ≡ false) → Cells some g old old
cells-none some g old h n = record { size = h; each = λ j i lj li. pick-false (g j i) (n j i) }

pub cells-more : (some more : ℕ → ℕ → Bool) (g : ℕ → ℕ → ℕ) (old new : List (List ℕ)) (j i v : ℕ) → j < 19 → i < 32
    → ((a b : ℕ) → more a b ≡ (some a b || (eqb a j && eqb b i))) → v ≡ g j i → Cells some g old new → Cells more g old (set new j (set (get_or new j []) i v))
cells-more some more g old new j i v lj li m e d =
    record { size = put-size new j i v d.size lj li; each = λ a b la lb. go a b la lb (ℕ_discrete a j) (ℕ_discrete b i) }
  where
    last : (x : Bool) → (x || (true && true)) ≡ true
    last true = refl
    last false = refl

    same : (x y z : Bool) → (y && z) ≡ false → x ≡ (x || (y && z))
    same true y z p = refl
    same false y z p = sym p

    go : (a b : ℕ) → a < 19 → b < 32 → Dec (a ≡ j) → Dec (b ≡ i) → cell_in (set new j (set (get_or new j []) i v)) a b ≡ pick (more a b) (g a b) (cell_in old a b)
    go a b la lb (yes p) (yes q) =
        rw (p, q) (put_here new j i v d.size lj li ∙ e
        ∙ pick_true (cell_in old j i) (m j i ∙ ap₂ (λ (x y : Bool). some j i || (x && y)) (eq-eqb j j refl) (eq-eqb i i refl) ∙ last (some j i)))
    go a b la lb (yes p) (no q) =
        put_there new j i v d.size lj li a b (λ x y. q y) ∙ d.each a b la lb
        ∙ ap (λ (x : Bool). pick x (g a b) (cell_in old a b)) (same (some a b) (eqb a j) (eqb b i) (ap (λ (x : Bool). eqb a j && x) (ne_eqb b i q) ∙ and-false (eqb a j)) ∙ sym (m a b))
    go a b la lb (no p) q =
        put_there new j i v d.size lj li a b (λ x y. p x) ∙ d.each a b la lb
        ∙ ap (λ (x : Bool). pick x (g a b) (cell_in old a b)) (same (some a b) (eqb a j) (eqb b i) (ap (λ (x : Bool). x && eqb b i) (ne_eqb a j p)) ∙ sym (m a b))

-- one number more below n
pub below_more : (a n : ℕ) → ltb a (n + 1) ≡ (ltb a n || eqb a n)
below_more a n = go (dec_lt a n) (ℕ_discrete a n)
  where
    go : Dec (a < n) → Dec (a ≡ n) → ltb a (n + 1) ≡ (ltb a n || eqb a n)
    go (yes l) e = rw (lt-ltb a n l, lt-ltb a (n + 1) (omega (arith, l)))
    go (no l) (yes e) = rw (le-ltb a n (omega (arith, l)), lt-ltb a (n + 1) (omega (arith, e)), eq-eqb a n e)
    go (no l) (no e) = rw (le-ltb a n (omega (arith, l)), le-ltb a (n + 1) (omega (arith, l, e)), ne_eqb a n e)

-- the same numbers
pub cells_same : (some other : ℕ → ℕ → Bool) (g : ℕ → ℕ → ℕ) (old new : List (List ℕ)) → ((j i : ℕ) → j < 19 → i < 32 → some j i ≡ other j i) → Cells some g old new
    → Cells other g old new
cells_same some other g old new e d =
    record { size = d.size; each = λ j i lj li. d.each j i lj li ∙ ap (λ (x : Bool). pick x (g j i) (cell_in old j i)) (e j i lj li) }

-- a number that is still to be done
pub cells_old : (some : ℕ → ℕ → Bool) (g : ℕ → ℕ → ℕ) (old new : List (List ℕ)) (j i : ℕ) → j < 19 → i < 32 → some j i ≡ false → Cells some g old new
    → cell_in new j i ≡ cell_in old j i
cells_old some g old new j i lj li e d = d.each j i lj li ∙ sym (pick-false (g j i) e)

-- one source more of a column, and one number more of a row
pub next_source : (j k a b : ℕ) → (eqb a j && ltb b (k + 1)) ≡ ((eqb a j && ltb b k) || (eqb a j && eqb b k))
next_source j k a b = ap (λ (x : Bool). eqb a j && x) (below_more b k) ∙ go (eqb a j)
  where
    go : (x : Bool) → (x && (ltb b k || eqb b k)) ≡ ((x && ltb b k) || (x && eqb b k))
    go true = refl
    go false = refl

pub next_number : (j k a b : ℕ) → (ltb a (j + 1) && eqb b k) ≡ ((ltb a j && eqb b k) || (eqb a j && eqb b k))
next_number j k a b = ap (λ (x : Bool). x && eqb b k) (below_more a j) ∙ go (ltb a j) (eqb a j) (eqb b k)
  where
    go : (x y z : Bool) → ((x || y) && z) ≡ ((x && z) || (y && z))
    go true true true = refl
    go true true false = refl
    go true false true = refl
    go true false false = refl
    go false y z = refl

-- the words are as they were
pub cells_last : (some : ℕ → ℕ → Bool) (g : ℕ → ℕ → ℕ) (old new : List (List ℕ)) → Columns old → ((i : ℕ) → some 18 i ≡ false) → Cells some g old new → get_or new 18 [] ≡ get_or old 18 []
cells_last some g old new h n d =
    ext_get_or 0 (get_or new 18 []) (get_or old 18 []) (d.size.1 18 (omega arith) ∙ sym (h.1 18 (omega arith)))
    (λ i l. d.each 18 i (omega arith) (omega (arith, l, d.size.1 18 (omega arith))) ∙ sym (pick-false (g 18 i) (n i)))

-- ---- rows

pub row-cells : (new old : List (List ℕ)) (i k : ℕ) → ((j : ℕ) → j < 18 → cell_in new j i ≡ cell_in old j k) → row_at new i ≡ row_at old k
unfolding row_at
row-cells new old i k h = made-same 18 (λ j. cell_in new j i) (λ j. cell_in old j k) h

pub row-length : (book : List (List ℕ)) (i : ℕ) → length (row_at book i) ≡ 18
unfolding row_at
row-length book i = made-length 18 (λ j. cell_in book j i)

pub row_get : (book : List (List ℕ)) (i j : ℕ) → j < 18 → get_or (row_at book i) j 0 ≡ cell_in book j i
unfolding row_at
row_get book i j l = made_get 18 (λ k. cell_in book k i) j l

pub row_told : (book : List (List ℕ)) (i : ℕ) (r : List ℕ) → length r ≡ 18 → ((j : ℕ) → j < 18 → get_or r j 0 ≡ cell_in book j i) → r ≡ row_at book i
row_told book i r e h =
    ext_get_or 0 r (row_at book i) (e ∙ sym (row-length book i)) (λ j l. let q : j < 18 = omega (arith, e, l) in h j q ∙ sym (row_get book i j q))

-- one row put anew
pub row_put : (old new : List (List ℕ)) (k : ℕ) (row : List ℕ) → Columns old → length row ≡ 18 → Cells (λ j i. ltb j 18 && eqb i k) (λ j i. get_or row j 0) old new
    → Rows (λ i. row) (2 ^ k) old new
row_put old new k row h e d =
    record {
      size = d.size;
      each = λ i l. go i l (ℕ_discrete i k);
      last = cells_last (λ j i. ltb j 18 && eqb i k) (λ j i. get_or row j 0) old new h (λ i. ap (λ (x : Bool). x && eqb i k) (le-ltb 18 18 (omega arith))) d;
    }
  where
    cell : (i j : ℕ) → i < 32 → j < 18 → (x : Bool) → eqb i k ≡ x → cell_in new j i ≡ pick x (get_or row j 0) (cell_in old j i)
    cell i j l m x p = d.each j i (omega (arith, m)) l ∙ ap₂ (λ (a b : Bool). pick (a && b) (get_or row j 0) (cell_in old j i)) (lt-ltb j 18 m) p

    go : (i : ℕ) → i < 32 → Dec (i ≡ k) → row_at new i ≡ pick (bit (2 ^ k) i) row (row_at old i)
    go i l (yes p) =
        sym (row_told new i row e (λ j m. unfold pick in (sym (cell i j l m true (eq-eqb i k p))))) ∙ pick_true (row_at old i) (bit_alone k i ∙ eq-eqb i k p)
    go i l (no p) =
        row-cells new old i i (λ j m. unfold pick in (cell i j l m false (ne_eqb i k p))) ∙ pick-false row (bit_alone k i ∙ ne_eqb i k p)

-- one column put anew, of a row that is known
pub row-column : (old new : List (List ℕ)) (j : ℕ) (g : ℕ → ℕ → ℕ) → j < 18 → Cells (λ a b. eqb a j) g old new → (i : ℕ) → i < 32 → row_at new i ≡ set (row_at old i) j (g j i)
row-column old new j g lj d i l =
    sym (row_told new i (set (row_at old i) j (g j i)) (length-set (row_at old i) j (g j i) ∙ row-length old i) (λ a la. go a la (ℕ_discrete a j)))
  where
    go : (a : ℕ) → a < 18 → Dec (a ≡ j) → get_or (set (row_at old i) j (g j i)) a 0 ≡ cell_in new a i
    go a la (yes p) =
        rw p (get_or-set_same (row_at old i) j (g j i) 0 (omega (arith, lj, row-length old i)) ∙ pick_true (cell_in old j i) (eq-eqb j j refl) ∙ sym (d.each j i (omega (arith, lj)) l))
    go a la (no p) =
        get_or-set_other (row_at old i) j a (g j i) 0 p ∙ row_get old i a la ∙ pick-false (g a i) (ne_eqb a j p) ∙ sym (d.each a i (omega (arith, la)) l)

-- a number of a row that is known
pub cell_row : (book : List (List ℕ)) (i j : ℕ) {r : List ℕ} → j < 18 → row_at book i ≡ r → cell_in book j i ≡ get_or r j 0
cell_row book i j l e = sym (row_get book i j l) ∙ ap (λ (r : List ℕ). get_or r j 0) e

-- as many more in one column as of the sources of w count
abbrev pub Grown : ℕ → ℕ → List (List ℕ) → List (List ℕ) → Type 0
Grown j w old new = Cells (λ a b. eqb a j) (λ a b. plus (cell_in old j b) (cell_in old 1 b) w) old new

pub words_stay : (j w : ℕ) (old new : List (List ℕ)) → j < 18 → Columns old → Grown j w old new → get_or new 18 [] ≡ get_or old 18 []
words_stay j w old new l h d =
    cells_last (λ a b. eqb a j) (λ a b. plus (cell_in old j b) (cell_in old 1 b) w) old new h (λ i. ne_eqb 18 j (λ q. omega (arith, q, l))) d

pub row-grown : (old new : List (List ℕ)) (j w : ℕ) → j < 18 → Grown j w old new
    → (i : ℕ) → i < 32 → {r : List ℕ} → row_at old i ≡ r → row_at new i ≡ set r j (plus (get_or r j 0) (get_or r 1 0) w)
row-grown old new j w lj d i l {r} e =
    row-column old new j (λ a b. plus (cell_in old j b) (cell_in old 1 b) w) lj d i l
    ∙ ap₂ (λ (x y : ℕ). set (row_at old i) j (plus x y w)) (cell_row old i j lj e) (cell_row old i 1 (omega arith) e)
    ∙ ap (λ (q : List ℕ). set q j (plus (get_or r j 0) (get_or r 1 0) w)) e

-- ---- a column, source by source

-- what the event of source i makes of number j of a source
abbrev pub bumped : List (List ℕ) → ℕ → ℕ → ℕ → ℕ → ℕ
bumped old j i a b = capped (cell_in old j b + one (bit (cell_in old 1 b) i))

module _ (old : List (List ℕ)) (j i : ℕ) (lj : j < 18) where
  pub bump-more : (new : List (List ℕ)) (k v : ℕ) → k < 32 → v ≡ capped (cell_in new j k + one (bit (cell_in new 1 k) i))
      → Cells (λ a b. eqb a j && ltb b k) (bumped old j i) old new
      → Cells (λ a b. eqb a j && ltb b (k + 1)) (bumped old j i) old (set new j (set (get_or new j []) k v))
  bump-more new k v l e d =
      cells-more (λ a b. eqb a j && ltb b k) (λ a b. eqb a j && ltb b (k + 1)) (bumped old j i) old new j k v (omega (arith, lj)) l (next_source j k)
      (e ∙ ap₂ (λ (x y : ℕ). capped (x + one (bit y i))) (still j (omega (arith, lj))) (still 1 (omega arith))) d
    where
      still : (a : ℕ) → a < 19 → cell_in new a k ≡ cell_in old a k
      still a la =
          cells_old (λ a b. eqb a j && ltb b k) (bumped old j i) old new a k la l (ap (λ (x : Bool). eqb a j && x) (le-ltb k k (omega arith)) ∙ and-false (eqb a j)) d

  pub bump-done : (new : List (List ℕ)) (k : ℕ) → 32 ≤ k → Cells (λ a b. eqb a j && ltb b k) (bumped old j i) old new → Cells (λ a b. eqb a j) (bumped old j i) old new
  bump-done new k l d =
      cells_same (λ a b. eqb a j && ltb b k) (λ a b. eqb a j) (bumped old j i) old new
      (λ a b la lb. ap (λ (x : Bool). eqb a j && x) (lt-ltb b k (omega (arith, lb, l))) ∙ and-true (eqb a j)) d

-- one event after another: those of w but for those that are left
module _ (old : List (List ℕ)) (j w : ℕ) (lj : 1 < j) (mj : j < 18) where
  pub grow-none : Columns old → ((i : ℕ) → i < 32 → cell_in old j i ≤ 4294967295) → Grown j (without w w) old old
  grow-none h s = record { size = h; each = λ a b la lb. go a b lb (ℕ_discrete a j) }
    where
      go : (a b : ℕ) → b < 32 → Dec (a ≡ j) → cell_in old a b ≡ pick (eqb a j) (plus (cell_in old j b) (cell_in old 1 b) (without w w)) (cell_in old a b)
      go a b l (yes p) = rw p (plus-none_yet (cell_in old j b) (cell_in old 1 b) w (s b l) ∙ pick_true (cell_in old j b) (eq-eqb j j refl))
      go a b l (no p) = pick-false (plus (cell_in old j b) (cell_in old 1 b) (without w w)) (ne_eqb a j p)

  pub grow-more : (left next i : ℕ) (mid new : List (List ℕ)) → i < 32 → bit w i ≡ true → bit left i ≡ true → next ≡ with_bit left i false → Grown j (without w left) old mid
      → Cells (λ a b. eqb a j) (bumped mid j i) mid new → Grown j (without w next) old new
  grow-more left next i mid new l y b e d g =
      record { size = g.size; each = λ a c la lc. g.each a c la lc ∙ go a c la lc (ℕ_discrete a j) }
    where
      here : (c : ℕ) → c < 32 → cell_in mid j c ≡ plus (cell_in old j c) (cell_in old 1 c) (without w left)
      here c lc = d.each j c (omega (arith, mj)) lc ∙ sym (pick_true (cell_in old j c) (eq-eqb j j refl))

      on : (c : ℕ) → c < 32 → cell_in mid 1 c ≡ cell_in old 1 c
      on c lc = d.each 1 c (omega arith) lc ∙ sym (pick-false (plus (cell_in old j c) (cell_in old 1 c) (without w left)) (ne_eqb 1 j (λ q. omega (arith, q, lj))))

      go : (a c : ℕ) → a < 19 → c < 32 → Dec (a ≡ j) → pick (eqb a j) (bumped mid j i a c) (cell_in mid a c)
          ≡ pick (eqb a j) (plus (cell_in old j c) (cell_in old 1 c) (without w next)) (cell_in old a c)
      go a c la lc (yes p) =
          ap (λ (x : ℕ). pick (eqb a j) x (cell_in mid a c))
          (ap₂ (λ (x y : ℕ). capped (x + one (bit y i))) (here c lc) (on c lc) ∙ plus-bit (cell_in old j c) (cell_in old 1 c) w left i l y b e)
          ∙ sym (pick_true (cell_in mid a c) (eq-eqb a j p)) ∙ pick_true (cell_in old a c) (eq-eqb a j p)
      go a c la lc (no p) =
          sym (pick-false (bumped mid j i a c) (ne_eqb a j p)) ∙ d.each a c la lc
          ∙ sym (pick-false (plus (cell_in old j c) (cell_in old 1 c) (without w left)) (ne_eqb a j p)) ∙ pick-false (plus (cell_in old j c) (cell_in old 1 c) (without w next)) (ne_eqb a j p)

  pub grow-done : (left : ℕ) (new : List (List ℕ)) → left ≡ 0 → Grown j (without w left) old new → Grown j w old new
  grow-done left new z d =
      record {
        size = d.size;
        each = λ a b la lb. d.each a b la lb ∙ ap (λ (x : ℕ). pick (eqb a j) x (cell_in old a b)) (plus_last (cell_in old j b) (cell_in old 1 b) w left z);
      }

-- ---- the words

pub words-put : (asks is enabled : ℕ) (old : List (List ℕ)) → Columns old → {one two : List (List ℕ)} → one ≡ set old 18 (set (get_or old 18 []) 0 asks)
    → two ≡ set one 18 (set (get_or one 18 []) 1 is) → Worded asks is enabled old (set two 18 (set (get_or two 18 []) 2 enabled))
words-put asks is enabled old h {one} {two} e₁ e₂ =
    record {
      size = put-size two 18 2 enabled c₂ (omega arith) (omega arith);
      words = (
        put_there two 18 2 enabled c₂ (omega arith) (omega arith) 18 0 (λ p q. absurd (omega (arith, q))) ∙ ap (λ (b : List (List ℕ)). cell_in b 18 0) e₂
            ∙ put_there one 18 1 is c₁ (omega arith) (omega arith) 18 0 (λ p q. absurd (omega (arith, q))) ∙ ap (λ (b : List (List ℕ)). cell_in b 18 0) e₁
            ∙ put_here old 18 0 asks h (omega arith) (omega arith),
        put_there two 18 2 enabled c₂ (omega arith) (omega arith) 18 1 (λ p q. absurd (omega (arith, q))) ∙ ap (λ (b : List (List ℕ)). cell_in b 18 1) e₂
            ∙ put_here one 18 1 is c₁ (omega arith) (omega arith),
        put_here two 18 2 enabled c₂ (omega arith) (omega arith),
      );
      rows = λ i l. row-cells _ old i i (λ j m.
          put_there two 18 2 enabled c₂ (omega arith) (omega arith) j i (λ p q. absurd (omega (arith, p, m))) ∙ ap (λ (b : List (List ℕ)). cell_in b j i) e₂
          ∙ put_there one 18 1 is c₁ (omega arith) (omega arith) j i (λ p q. absurd (omega (arith, p, m))) ∙ ap (λ (b : List (List ℕ)). cell_in b j i) e₁
          ∙ put_there old 18 0 asks h (omega arith) (omega arith) j i (λ p q. absurd (omega (arith, p, m))));
    }
  where
    c₁ : Columns one
    c₁ = subst Columns (sym e₁) (put-size old 18 0 asks h (omega arith) (omega arith))

    c₂ : Columns two
    c₂ = subst Columns (sym e₂) (put-size one 18 1 is c₁ (omega arith) (omega arith))
