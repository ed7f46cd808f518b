-- Comments made into spaces, byte by byte and part by part.
use Prim.Native.Nat.{ℕ, zero, suc, ◌+◌, ◌≤◌, ◌<◌}
use mathlib.Core.Path.{◌≡◌, refl, sym, ap, ◌∙◌}
use mathlib.Core.Bool.{Bool, true, false, not, ◌&&◌}
use mathlib.Core.List.{List, [], ◌∷◌, ◌++◌, append-nil}
use native.Mathlib.Numerals.{add-one}
use native.Mathlib.Omega.{arith}
use lib.Dec.{eqb}
use lib.ListN.{length, get_or, take, drop, replicate, drop_of_length-le}
use lib.Seq.{drop-cons, take-append_seam}
use borrow.Author.Tests.{ne_eqb}
use Rattle.words.specs.Choice.{pick}
use Rattle.text.specs.Text.{write}
use Rattle.text.proofs.WriteLaws.{rest_of, nothing, write-laid, laid-fits}
use Rattle.tables.specs.Typed.{covered, bare_from, bare}
use Rattle.tables.specs.Layout.{Without}
use Rattle.text.proofs.Promises as Text

pub length-bare : (inside : Bool) (s : List ℕ) → length (bare_from inside s) ≡ length s
unfolding bare_from
length-bare inside [] = refl
length-bare inside (b ∷ bs) = ap suc (length-bare (covered inside b && not (eqb b 10)) bs)

-- ---- as the code takes them

-- a turn: q is what the byte at k makes of p
pub bare-turn : (s : List ℕ) (k : ℕ) (inside : Bool) (o p q : List ℕ × ℕ) (x : ℕ) → k < length s → x ≡ pick (covered inside (get_or s k 0)) 32 (get_or s k 0)
    → q ≡ write p (x ∷ []) → write p (bare_from inside (drop k s)) ≡ o
    → write q (bare_from (covered inside (get_or s k 0) && not (eqb (get_or s k 0) 10)) (drop (k + 1) s)) ≡ o
bare-turn s k inside o p q x h e f g = rest_of p q (x ∷ []) _ f ∙ ap (write p) (rw (e, whole)) ∙ g
  where
    whole : bare_from inside (drop k s)
        ≡ pick (covered inside (get_or s k 0)) 32 (get_or s k 0) ∷ bare_from (covered inside (get_or s k 0) && not (eqb (get_or s k 0) 10)) (drop (k + 1) s)
    whole = rw (drop-cons s k 0 h, add-one k) (unfold bare_from in refl)

-- the end
pub bare-done : (s : List ℕ) (k : ℕ) (inside : Bool) (o p : List ℕ × ℕ) → length s ≤ k → write p (bare_from inside (drop k s)) ≡ o → p ≡ o
bare-done s k inside o p h g = nothing p ∙ ap (write p) (sym none) ∙ g
  where
    none : bare_from inside (drop k s) ≡ []
    none = rw (drop_of_length-le s h) (unfold bare_from in refl)

-- in room enough stands all of it
pub bare-whole : (s l : List ℕ) (p : List ℕ × ℕ) → length s ≤ length l → p ≡ write (l, 0) (bare s) → take p.1 p.0 ≡ bare s
bare-whole s l p h e =
    let f = e ∙ (Text.kept).fits l (bare s) (omega (arith, length-bare false s)) in
    rw f (take-append_seam (bare s) (drop (length (bare s)) l))

pub bare-fits : (s l : List ℕ) (p : List ℕ × ℕ) → p ≡ write (l, 0) (bare s) → p.1 ≤ length p.0
bare-fits s l p e = laid-fits p l (bare s) (e ∙ write-laid l (bare s))

-- ---- part by part

-- what stands before a comment is as it was
pub bare-plain : (w s : List ℕ) → Without 35 w → bare (w ++ s) ≡ w ++ bare s
unfolding bare_from pick
bare-plain [] s h = refl
bare-plain (b ∷ w) s h = rw (ne_eqb b 35 (h 0 (omega arith))) (ap (λ (r : List ℕ). b ∷ r) (bare-plain w s (λ k l. h (suc k) (omega arith))))

-- a comment is spaces, up to the byte behind its line feed
pub bare-inside : (c s : List ℕ) → Without 10 c → bare_from true (c ++ s) ≡ replicate (length c) 32 ++ bare_from true s
unfolding bare_from pick
bare-inside [] s h = refl
bare-inside (b ∷ c) s h = rw (ne_eqb b 10 (h 0 (omega arith))) (ap (λ (r : List ℕ). 32 ∷ r) (bare-inside c s (λ k l. h (suc k) (omega arith))))

pub bare_comment : (c s : List ℕ) → Without 10 c → bare (35 ∷ (c ++ (10 ∷ s))) ≡ 32 ∷ (replicate (length c) 32 ++ (32 ∷ bare s))
bare_comment c s h = begun ∙ ap (λ (r : List ℕ). 32 ∷ r) (bare-inside c (10 ∷ s) h ∙ ap (λ (r : List ℕ). replicate (length c) 32 ++ r) ended)
  where
    begun : bare (35 ∷ (c ++ (10 ∷ s))) ≡ 32 ∷ bare_from true (c ++ (10 ∷ s))
    begun = unfold bare_from pick in refl

    ended : bare_from true (10 ∷ s) ≡ 32 ∷ bare s
    ended = unfold bare_from pick in refl

pub bare_open : (c : List ℕ) → Without 10 c → bare (35 ∷ c) ≡ 32 ∷ replicate (length c) 32
bare_open c h = begun ∙ ap (λ (r : List ℕ). 32 ∷ r) (ap (bare_from true) (sym (append-nil c)) ∙ bare-inside c [] h ∙ rest)
  where
    begun : bare (35 ∷ c) ≡ 32 ∷ bare_from true c
    begun = unfold bare_from pick in refl

    rest : replicate (length c) 32 ++ bare_from true [] ≡ replicate (length c) 32
    rest = unfold bare_from in (append-nil (replicate (length c) 32))

-- ---- as they are promised

pub bare-none : (s : List ℕ) → Without 35 s → bare s ≡ s
bare-none s h = ap bare (sym (append-nil s)) ∙ bare-plain s [] h ∙ unfold bare_from in (append-nil s)

more_spaces : (n : ℕ) (s : List ℕ) → 32 ∷ (replicate n 32 ++ (32 ∷ s)) ≡ replicate (n + 2) 32 ++ s
more_spaces zero s = refl
more_spaces (suc n) s = let e : suc n + 2 ≡ suc (n + 2) = omega arith in rw e (ap (λ (r : List ℕ). 32 ∷ r) (more_spaces n s))

pub bare-ended : (before c after : List ℕ) → Without 35 before → Without 10 c
    → bare (before ++ (35 ∷ (c ++ (10 ∷ after)))) ≡ before ++ (replicate (length c + 2) 32 ++ bare after)
bare-ended before c after h g =
    bare-plain before (35 ∷ (c ++ (10 ∷ after))) h ∙ ap (λ (r : List ℕ). before ++ r) (bare_comment c after g ∙ more_spaces (length c) (bare after))

pub bare-left : (before c : List ℕ) → Without 35 before → Without 10 c → bare (before ++ (35 ∷ c)) ≡ before ++ replicate (length c + 1) 32
bare-left before c h g =
    let e : suc (length c) ≡ length c + 1 = omega arith in
    bare-plain before (35 ∷ c) h ∙ ap (λ (r : List ℕ). before ++ r) (bare_open c g ∙ ap (λ (n : ℕ). replicate n 32) e)
