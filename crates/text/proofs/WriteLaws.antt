-- Appending to a lent buffer: texts one after the other, and what they leave in it.
use Prim.Native.Nat.{ℕ, suc, ◌+◌, ◌<◌, ◌≤◌, min}
use mathlib.Core.Path.{◌≡◌, refl, sym, ap, ◌∙◌}
use mathlib.Core.List.{List, [], ◌∷◌, ◌++◌, append-nil}
use native.Mathlib.Nat.{add-zero, zero-add, zero-min, min-zero, min-le_right, suc-min-suc}
use native.Mathlib.Numerals.{add-one}
use native.Mathlib.Omega.{arith}
use lib.ListN.{length, get_or, set, take, drop, length-set, length-append, drop_of_length-le}
use lib.Seq.{drop-cons, set_out, set-append_seam, append_snoc, take-nil}
use lib.Dec.{ltb}
use borrow.Author.Tests.{lt-ltb, le-ltb}
use Rattle.words.proofs.ChoiceLaws.{pick_true, pick-false, pick_cases}
use Rattle.text.specs.Text.{push, write, laid}

-- ---- texts one after the other

pub write_append : (o : List ℕ × ℕ) (a b : List ℕ) → write o (a ++ b) ≡ write (write o a) b
unfolding write
write_append o [] b = refl
write_append o (x ∷ a) b = write_append (push o x) a b

-- a text and then another
pub and_then : (o : List ℕ × ℕ) {p q : List ℕ × ℕ} (a b : List ℕ) → p ≡ write o a → q ≡ write p b → q ≡ write o (a ++ b)
and_then o a b e f = f ∙ ap (λ (x : List ℕ × ℕ). write x b) e ∙ sym (write_append o a b)

-- what is left to write after a part of it
pub rest_of : (o p : List ℕ × ℕ) (a b : List ℕ) → p ≡ write o a → write p b ≡ write o (a ++ b)
rest_of o p a b e = ap (λ (x : List ℕ × ℕ). write x b) e ∙ sym (write_append o a b)

-- eight bytes, one after the other
pub eight-bytes : (o : List ℕ × ℕ) {p q r s t u v w : List ℕ × ℕ} (a b c d e f g h : ℕ) → p ≡ write o (a ∷ []) → q ≡ write p (b ∷ []) → r ≡ write q (c ∷ [])
    → s ≡ write r (d ∷ []) → t ≡ write s (e ∷ []) → u ≡ write t (f ∷ []) → v ≡ write u (g ∷ []) → w ≡ write v (h ∷ [])
    → w ≡ write o (a ∷ b ∷ c ∷ d ∷ e ∷ f ∷ g ∷ h ∷ [])
unfolding write
eight-bytes o a b c d e f g h i j k l m n x y = rw (y, x, n, m, l, k, j, i)

pub nothing : (o : List ℕ × ℕ) → o ≡ write o []
unfolding write
nothing o = refl

-- ---- a byte

pub room : (l : List ℕ) (at b : ℕ) → at < length l → (set l at b, at + 1) ≡ write (l, at) (b ∷ [])
unfolding write
room l at b h = ap (λ (n : ℕ). (set l at b, n)) (pick_true at (lt-ltb at (length l) h))

pub full : (l : List ℕ) (at b : ℕ) → length l ≤ at → (l, at) ≡ write (l, at) (b ∷ [])
unfolding write
full l at b h = rw (set_out l at b h) (ap (λ (n : ℕ). (l, n)) (pick-false (at + 1) (le-ltb at (length l) h)))

-- ---- lengths

pub length-write : (o : List ℕ × ℕ) (a : List ℕ) → length (write o a).0 ≡ length o.0
unfolding write
length-write o [] = refl
length-write o (x ∷ a) = length-write (push o x) a ∙ length-set o.0 o.1 x

pub same_length : (o p : List ℕ × ℕ) (a : List ℕ) → p ≡ write o a → length p.0 ≡ length o.0
same_length o p a e = ap (λ (x : List ℕ × ℕ). length x.0) e ∙ length-write o a

-- a text goes no farther than it is long
pub write_reach : (o : List ℕ × ℕ) (a : List ℕ) → (write o a).1 ≤ o.1 + length a
unfolding write
write_reach o [] = omega arith
write_reach o (x ∷ a) =
    let h : (push o x).1 ≤ o.1 + 1 = pick_cases (λ (n : ℕ). n ≤ o.1 + 1) (ltb o.1 (length o.0)) (λ e. omega arith) (λ e. omega arith) in
    omega (arith, write_reach (push o x) a)

pub reach : (o p : List ℕ × ℕ) (a : List ℕ) (k : ℕ) → p ≡ write o a → length a ≤ k → p.1 ≤ o.1 + k
reach o p a k e h = rw e (omega (arith, write_reach o a))

-- ---- what a text leaves in a buffer

-- a full buffer takes nothing
pub write_full : (bs l : List ℕ) (at : ℕ) → length l ≤ at → write (l, at) bs ≡ (l, at)
unfolding write
write_full [] l at h = refl
write_full (b ∷ bs) l at h = sym (ap (λ (o : List ℕ × ℕ). write o bs) (full l at b h)) ∙ write_full bs l at h

pushed : (p q : List ℕ) (x b : ℕ) → push (p ++ x ∷ q, length p) b ≡ (p ++ b ∷ q, length p + 1)
pushed p q x b =
    let h : length p < length (p ++ x ∷ q) = simp length-append (omega arith) in
    rw (set-append_seam p x q b) (ap (λ (n : ℕ). (p ++ b ∷ q, n)) (sym (pick_true (length p) (lt-ltb (length p) (length (p ++ x ∷ q)) h))))

-- p has been written; q is the rest of the buffer
from_seam : (bs p q : List ℕ) → write (p ++ q, length p) bs ≡ (p ++ (take (length q) bs ++ drop (length bs) q), length p + min (length bs) (length q))
unfolding write
from_seam [] p q = simp (take-nil, zero-min, add-zero)
from_seam (b ∷ bs) p [] = simp (append-nil, min-zero, add-zero) (write_full (b ∷ bs) p (length p) (omega arith))
from_seam (b ∷ bs) p (x ∷ q) =
    let e : length (p ++ (b ∷ [])) ≡ length p + 1 = length-append p (b ∷ []) in
    let m : length p + 1 + min (length bs) (length q) ≡ length p + suc (min (length bs) (length q)) = omega arith in
    simp (pushed p q x b, suc-min-suc) (simp (append_snoc, e, m) at (from_seam bs (p ++ (b ∷ [])) q))

-- what appending from the start of a buffer comes to
pub write-laid : (l bs : List ℕ) → write (l, 0) bs ≡ laid l bs
unfolding laid
write-laid l bs = from_seam bs [] l ∙ simp zero-add

-- what was laid counts bytes of the buffer, as `&out[..n]` asks
pub laid-fits : (p : List ℕ × ℕ) (l bs : List ℕ) → p ≡ laid l bs → p.1 ≤ length p.0
unfolding laid
laid-fits p l bs e =
    let n : p.1 ≡ min (length bs) (length l) = ap (λ (x : List ℕ × ℕ). x.1) e in
    let k : length p.0 ≡ length l = same_length (l, 0) p bs (e ∙ sym (write-laid l bs)) in
    omega (arith, min-le_right (length bs) (length l))

-- ---- a text that is written byte by byte

-- a turn: q is what the byte at k makes of p
pub write-turn : (l : List ℕ) (k : ℕ) (o p q : List ℕ × ℕ) → k < length l → q ≡ write p (get_or l k 0 ∷ []) → write p (drop k l) ≡ o → write q (drop (k + 1) l) ≡ o
write-turn l k o p q h e f =
    rest_of p q (get_or l k 0 ∷ []) (drop (k + 1) l) e
    ∙ ap (write p) (sym (drop-cons l k 0 h ∙ ap (λ (n : ℕ). get_or l k 0 ∷ drop n l) (sym (add-one k)))) ∙ f

-- the end
pub write_done : (l : List ℕ) (k : ℕ) (o p : List ℕ × ℕ) → length l ≤ k → write p (drop k l) ≡ o → p ≡ o
write_done l k o p h e = nothing p ∙ ap (write p) (sym (drop_of_length-le l h)) ∙ e
