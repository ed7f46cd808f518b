-- Words of the book put anew one after another, by the bits of a word.
use Prim.Native.Nat.{ℕ, ◌+◌, ◌≤◌, ◌<◌, ◌^◌}
use mathlib.Core.Path.{◌≡◌, refl, sym, ap, ap₂, ◌∙◌, subst}
use mathlib.Core.Bool.{Bool, true, false, not, ◌&&◌, ◌||◌}
use mathlib.Core.List.{List}
use mathlib.Core.Logic.{◌⊎◌, inl, inr}
use native.Mathlib.Omega.{arith}
use native.Mathlib.Decide.{ℕ_discrete}
use lib.Dec.{eqb}
use lib.ListN.{get_or, set, length, length-set}
use lib.Seq.{get_or-set_other, get_or-set_same}
use borrow.Author.Tests.{eq-eqb, ne_eqb}
use Rattle.words.specs.Choice.{pick}
use Rattle.words.specs.Word.{bit, with_bit, either, both, without}
use Rattle.words.proofs.ChoiceLaws.{pick_true, pick-false}
use Rattle.words.proofs.WordLaws.{bit-cleared, bit-none, bit-either, bit-both, bit-without, either_lt}
use Rattle.aic_figures.specs.Book.{Put, settled_at}

-- ---- one law for a store

pub here : (book : List ℕ) (at i v : ℕ) → at + i < length book → get_or (set book (at + i) v) (at + i) 0 ≡ v
here book at i v l = get_or-set_same book (at + i) v 0 l

pub there : (book : List ℕ) (p k v : ℕ) → (k ≡ p → ⊥) → get_or (set book p v) k 0 ≡ get_or book k 0
there book p k v n = get_or-set_other book p k v 0 n

-- ---- by the bits of a word

-- what is done of `some` where `left` is still to be done
abbrev pub Done : ℕ → (ℕ → ℕ) → ℕ → ℕ → List ℕ → List ℕ → Type 0
Done at h some left old new = Put at (λ i. pick (bit some i && not (bit left i)) (h i) (get_or old (at + i) 0)) old new

and-not : (b : Bool) → (b && not b) ≡ false
and-not true = refl
and-not false = refl

pub done_none : (at : ℕ) (h : ℕ → ℕ) (some : ℕ) (old : List ℕ) → Done at h some some old old
done_none at h some old = record { size = refl; inside = λ i l. pick-false (h i) (and-not (bit some i)); outside = λ k o. refl }

and-true : (b c : Bool) → c ≡ false → (b && not c) ≡ b
and-true true c e = rw e
and-true false c e = refl

pub done_all : (at : ℕ) (h : ℕ → ℕ) (some left : ℕ) (old new : List ℕ) → left ≡ 0 → Done at h some left old new
    → Put at (λ i. pick (bit some i) (h i) (get_or old (at + i) 0)) old new
done_all at h some left old new z d =
    record {
      size = d.size;
      inside = λ i l. d.inside i l ∙ ap (λ (b : Bool). pick b (h i) (get_or old (at + i) 0)) (and-true (bit some i) (bit left i) (ap (λ (w : ℕ). bit w i) z ∙ bit-none i));
      outside = d.outside;
    }

-- a place that is still to be done is as it was
pub still : (at : ℕ) (h : ℕ → ℕ) (some left : ℕ) (old new : List ℕ) (i : ℕ) → i < 32 → bit left i ≡ true → Done at h some left old new
    → get_or new (at + i) 0 ≡ get_or old (at + i) 0
still at h some left old new i l b d = d.inside i l ∙ sym (pick-false (h i) (off (bit some i) (bit left i) b))
  where
    off : (x y : Bool) → y ≡ true → (x && not y) ≡ false
    off true y e = rw e
    off false y e = refl

pub done_more : (at : ℕ) (h : ℕ → ℕ) (some left next : ℕ) (old new : List ℕ) (i v : ℕ) → at + 32 ≤ length old → i < 32 → bit some i ≡ true
    → next ≡ with_bit left i false → v ≡ h i → Done at h some left old new → Done at h some next old (set new (at + i) v)
done_more at h some left next old new i v m l b e f d =
    record {
      size = length-set new (at + i) v ∙ d.size;
      inside = λ j n. go j n (ℕ_discrete j i);
      outside = λ k o. there new (at + i) k v (λ q. away k o q) ∙ d.outside k o;
    }
  where
    away : (k : ℕ) → (k < at) ⊎ (at + 32 ≤ k) → k ≡ at + i → ⊥
    away k (inl a) q = absurd (omega (arith, a, q))
    away k (inr a) q = absurd (omega (arith, a, q, l))

    kept : (j : ℕ) → j < 32 → bit next j ≡ (bit left j && not (eqb j i))
    kept j n = ap (λ (w : ℕ). bit w j) e ∙ bit-cleared left i j n

    on : (x y : Bool) → x ≡ true → y ≡ true → (x && not (y && not true)) ≡ true
    on true true p q = refl
    on true false p q = refl
    on false y p q = p

    same : (x y : Bool) → (x && not y) ≡ (x && not (y && not false))
    same true true = refl
    same true false = refl
    same false y = refl

    go : (j : ℕ) → j < 32 → Dec (j ≡ i) → get_or (set new (at + i) v) (at + j) 0 ≡ pick (bit some j && not (bit next j)) (h j) (get_or old (at + j) 0)
    go j n (yes q) =
        rw q (here new at i v (omega (arith, d.size, m, l)) ∙ f
        ∙ pick_true (get_or old (at + i) 0) (ap (λ (c : Bool). bit some i && not c) (kept i l ∙ ap (λ (c : Bool). bit left i && not c) (eq-eqb i i refl)) ∙ off (bit some i) (bit left i) b))
      where
        off : (x y : Bool) → x ≡ true → (x && not (y && not true)) ≡ true
        off true true p = refl
        off true false p = refl
        off false y p = p
    go j n (no q) =
        there new (at + i) (at + j) v (λ r. q (omega (arith, r))) ∙ d.inside j n
        ∙ ap (λ (c : Bool). pick c (h j) (get_or old (at + j) 0))
        (same (bit some j) (bit left j) ∙ ap (λ (c : Bool). bit some j && not c) (ap (λ (c : Bool). bit left j && not c) (sym (ne_eqb j i q)) ∙ sym (kept j n)))

-- what is left is some of it
pub within : (some left next i : ℕ) → next ≡ with_bit left i false → ((j : ℕ) → j < 32 → bit left j ≡ true → bit some j ≡ true)
    → (j : ℕ) → j < 32 → bit next j ≡ true → bit some j ≡ true
within some left next i e w j n b = w j n (first (bit left j) (eqb j i) (sym (ap (λ (x : ℕ). bit x j) e ∙ bit-cleared left i j n) ∙ b))
  where
    first : (x y : Bool) → (x && not y) ≡ true → x ≡ true
    first true y p = refl
    first false y p = p

-- ---- a wait that ends

pub settled-still : (h : ℕ → ℕ) (some left : ℕ) (old new : List ℕ) (i : ℕ) → i < 32 → bit left i ≡ true → Done 96 h some left old new → settled_at new i ≡ settled_at old i
settled-still h some left old new i l b d =
    rw (still 96 h some left old new i l b d, d.outside 2 (inl (omega arith)), d.outside (64 + i) (inl (omega (arith, l))))

-- ---- those that wait

pub waits-from : (asks by asked waiting others m d r : ℕ) → others ≡ with_bit asks by false → m ≡ both others waiting → d ≡ without others asked → r ≡ either m d
    → ((i : ℕ) → i < 32 → bit r i ≡ ((bit asks i && not (eqb i by)) && (bit waiting i || not (bit asked i)))) × (r < 2 ^ 32)
waits-from asks by asked waiting others m d r e f g h = ((λ i l. at i l), subst (λ (x : ℕ). x < 2 ^ 32) (sym h) (either_lt m d))
  where
    spread : (o w a : Bool) → ((o && w) || (o && not a)) ≡ (o && (w || not a))
    spread true w a = refl
    spread false w a = refl

    at : (i : ℕ) → i < 32 → bit r i ≡ ((bit asks i && not (eqb i by)) && (bit waiting i || not (bit asked i)))
    at i l =
        ap (λ (x : ℕ). bit x i) (h ∙ ap₂ either f g) ∙ bit-either _ _ i l ∙ ap₂ ◌||◌ (bit-both others waiting i l) (bit-without others asked i l)
        ∙ spread (bit others i) (bit waiting i) (bit asked i)
        ∙ ap (λ (b : Bool). b && (bit waiting i || not (bit asked i))) (ap (λ (x : ℕ). bit x i) e ∙ bit-cleared asks by i l)
