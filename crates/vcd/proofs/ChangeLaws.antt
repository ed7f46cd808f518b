-- The values of signals, written one after the other.
use Prim.Native.Nat.{ℕ, ◌+◌, ◌%◌, ◌<◌, ◌≤◌}
use mathlib.Core.Path.{◌≡◌, sym, ap, ◌∙◌}
use mathlib.Core.List.{List, [], ◌∷◌, ◌++◌}
use native.Mathlib.Numerals.{add-one}
use native.Mathlib.Omega.{arith}
use lib.Dec.{eqb}
use lib.ListN.{length, get_or, drop, drop_of_length-le}
use lib.Seq.{drop-cons}
use Rattle.words.specs.Choice.{pick}
use Rattle.text.specs.Text.{write}
use Rattle.text.proofs.WriteLaws.{nothing, rest_of}
use Rattle.vcd.specs.Dump.{binary_of, change, values_from, changes_from}

-- identifiers begin anew after 94
pub change_anew : (w k v : ℕ) → change w (k % 94) v ≡ change w k v
unfolding change
change_anew w k v =
    let e : k % 94 % 94 ≡ k % 94 = omega arith in
    ap (λ (x : ℕ). pick (eqb w 1) ((48 + v % 2) ∷ (33 + x) ∷ 10 ∷ []) ((98 ∷ []) ++ binary_of w v ++ (32 ∷ (33 + x) ∷ 10 ∷ []))) e

-- ---- all values

values_here : (ws now : List ℕ) (k : ℕ) → k < length ws
    → values_from k (drop k ws) now ≡ change (get_or ws k 0) k (get_or now k 0) ++ values_from (k + 1) (drop (k + 1) ws) now
unfolding values_from
values_here ws now k h =
    ap (λ (l : List ℕ). values_from k l now) (drop-cons ws k 0 h)
    ∙ ap (λ (n : ℕ). change (get_or ws k 0) k (get_or now k 0) ++ values_from (k + 1) (drop n ws) now) (sym (add-one k))

-- a turn: q is what the kth value makes of p
pub values-turn : (ws now : List ℕ) (k v : ℕ) (o p q : List ℕ × ℕ) → k < length ws → v ≡ get_or now k 0 → q ≡ write p (change (get_or ws k 0) (k % 94) v)
    → write p (values_from k (drop k ws) now) ≡ o → write q (values_from (k + 1) (drop (k + 1) ws) now) ≡ o
values-turn ws now k v o p q h i e f =
    rest_of p q (change (get_or ws k 0) k (get_or now k 0)) (values_from (k + 1) (drop (k + 1) ws) now) (e ∙ ap (write p) (ap (change (get_or ws k 0) (k % 94)) i ∙ change_anew (get_or ws k 0) k (get_or now k 0)))
    ∙ ap (write p) (sym (values_here ws now k h)) ∙ f

-- the end
pub values-done : (ws now : List ℕ) (k : ℕ) (o p : List ℕ × ℕ) → length ws ≤ k → write p (values_from k (drop k ws) now) ≡ o → p ≡ o
unfolding values_from
values-done ws now k o p h e = nothing p ∙ ap (λ (l : List ℕ). write p (values_from k l now)) (sym (drop_of_length-le ws h)) ∙ e

-- ---- those that changed

changes_here : (ws before now : List ℕ) (k : ℕ) → k < length ws
    → changes_from k (drop k ws) before now
    ≡ pick (eqb (get_or before k 0) (get_or now k 0)) [] (change (get_or ws k 0) k (get_or now k 0)) ++ changes_from (k + 1) (drop (k + 1) ws) before now
unfolding changes_from
changes_here ws before now k h =
    ap (λ (l : List ℕ). changes_from k l before now) (drop-cons ws k 0 h)
    ∙ ap (λ (n : ℕ). pick (eqb (get_or before k 0) (get_or now k 0)) [] (change (get_or ws k 0) k (get_or now k 0)) ++ changes_from (k + 1) (drop n ws) before now) (sym (add-one k))

pub changes-turn : (ws before now : List ℕ) (k u v : ℕ) (o p q : List ℕ × ℕ) → k < length ws → u ≡ get_or before k 0 → v ≡ get_or now k 0
    → q ≡ write p (pick (eqb u v) [] (change (get_or ws k 0) (k % 94) v))
    → write p (changes_from k (drop k ws) before now) ≡ o → write q (changes_from (k + 1) (drop (k + 1) ws) before now) ≡ o
changes-turn ws before now k u v o p q h i j e f =
    rest_of p q (pick (eqb (get_or before k 0) (get_or now k 0)) [] (change (get_or ws k 0) k (get_or now k 0))) (changes_from (k + 1) (drop (k + 1) ws) before now)
    (e ∙ rw (i, j) (ap (λ (l : List ℕ). write p (pick (eqb (get_or before k 0) (get_or now k 0)) [] l)) (change_anew (get_or ws k 0) k (get_or now k 0))))
    ∙ ap (write p) (sym (changes_here ws before now k h)) ∙ f

pub changes-done : (ws before now : List ℕ) (k : ℕ) (o p : List ℕ × ℕ) → length ws ≤ k → write p (changes_from k (drop k ws) before now) ≡ o → p ≡ o
unfolding changes_from
changes-done ws before now k o p h e = nothing p ∙ ap (λ (l : List ℕ). write p (changes_from k l before now)) (sym (drop_of_length-le ws h)) ∙ e
