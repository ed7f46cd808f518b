-- Texts with no line feed that are at most so long.
use Prim.Native.Nat.{ℕ, zero, suc, ◌+◌, ◌-◌, ◌^◌, ◌≤◌, ◌<◌}
use mathlib.Core.Path.{◌≡◌, sym, ap, ◌∙◌}
use mathlib.Core.Bool.{Bool, true, not, ◌&&◌}
use mathlib.Core.List.{List, [], ◌∷◌, ◌++◌}
use mathlib.Core.Logic.{◌≢◌}
use native.Mathlib.Omega.{arith}
use native.Mathlib.Decide.{dec_lt}
use lib.Dec.{eqb, leb}
use lib.ListN.{length, get_or, length-append, get_or-append}
use lib.Seq.{get_or-append-add}
use borrow.Author.Tests.{eqb-false, leb-true, not-true}
use Rattle.words.specs.Choice.{pick}
use Rattle.words.proofs.ChoiceLaws.{pick_cases}
use Rattle.words.proofs.TruthLaws.{and_left, and_right}
use Rattle.text.specs.Text.{decimal}
use Rattle.text.proofs.DigitLaws.{length-decimal, length-below, decimal-digits}
use Rattle.text.specs.Phrases.{counted}
use Rattle.tables.specs.Layout.{Without}

-- no line feed, and at most n bytes
pub record Fits (n : ℕ) (l : List ℕ) : Type 0 where
  pub plain : Without 10 l
  pub most : length l ≤ n

-- ---- a text of which every byte is known

unfoldable pub clear : List ℕ → Bool
clear [] = true
clear (b ∷ l) = not (eqb b 10) && clear l

unfoldable pub short : ℕ → List ℕ → Bool
short n l = clear l && leb (length l) n

clear-is : (l : List ℕ) → clear l ≡ true → Without 10 l
unfolding clear
clear-is [] e k h = absurd (omega arith)
clear-is (b ∷ l) e zero h = eqb-false b 10 (not-true (eqb b 10) (and_left (not (eqb b 10)) (clear l) e))
clear-is (b ∷ l) e (suc k) h = clear-is l (and_right (not (eqb b 10)) (clear l) e) k (omega arith)

pub known : (n : ℕ) (l : List ℕ) → short n l ≡ true → Fits n l
unfolding short
known n l e = record { plain = clear-is l (and_left (clear l) (leb (length l) n) e); most = leb-true (length l) n (and_right (clear l) (leb (length l) n) e) }

-- ---- made of others

pub empty : (n : ℕ) → Fits n []
empty n = record { plain = λ k h. absurd (omega arith); most = omega arith }

pub wider : (m n : ℕ) (l : List ℕ) → m ≤ n → Fits m l → Fits n l
wider m n l h f = record { plain = f.plain; most = omega (arith, f.most) }

without_append : (l r : List ℕ) → Without 10 l → Without 10 r → Without 10 (l ++ r)
without_append l r f g k h = go (dec_lt k (length l))
  where
    go : Dec (k < length l) → get_or (l ++ r) k 0 ≢ 10
    go (yes d) = λ e. f k d (sym (get_or-append l r 0 k d) ∙ e)
    go (no d) =
        let n : k ≡ length l + (k - length l) = omega (arith, d) in
        λ e. g (k - length l) (omega (arith, d, length-append l r)) (sym (get_or-append-add l r (k - length l) 0) ∙ sym (ap (λ (j : ℕ). get_or (l ++ r) j 0) n) ∙ e)

pub joined : (m n : ℕ) (l r : List ℕ) → Fits m l → Fits n r → Fits (m + n) (l ++ r)
joined m n l r f g = record { plain = without_append l r f.plain g.plain; most = omega (arith, length-append l r, f.most, g.most) }

pub either : (n : ℕ) (t : Bool) (l r : List ℕ) → Fits n l → Fits n r → Fits n (pick t l r)
either n t l r f g = pick_cases (Fits n) t (λ e. f) (λ e. g)

-- ---- numbers

digits-plain : (n : ℕ) → Without 10 (decimal n)
digits-plain n k h e = omega (arith, (decimal-digits 20 n k h).0)

-- any number, and one of at most d digits
pub number : (n : ℕ) → Fits 20 (decimal n)
number n = record { plain = digits-plain n; most = length-decimal 20 n }

pub few : (d n : ℕ) → 0 < d → n < 10 ^ d → Fits d (decimal n)
few d n p h = record { plain = digits-plain n; most = length-below 20 d n p h }

pub behind : (m d : ℕ) (what : List ℕ) (n : ℕ) → Fits m what → Fits d (decimal n) → Fits (m + d) (counted what n)
unfolding counted
behind m d what n f g = joined m d what (decimal n) f g
