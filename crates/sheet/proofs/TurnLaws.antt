-- Texts one after the other, one turn of a loop at a time.
use Prim.Native.Nat.{ℕ, zero, suc, ◌+◌, ◌<◌, ◌≤◌}
use mathlib.Core.Path.{◌≡◌, sym, ap, ap₂, ◌∙◌}
use mathlib.Core.Bool.{Bool, true, false}
use mathlib.Core.List.{List, [], ◌∷◌}
use native.Mathlib.Numerals.{add-one}
use native.Mathlib.Omega.{arith}
use lib.ListN.{length, get_or, drop, drop_of_length-le}
use lib.Seq.{drop-cons}
use Rattle.words.specs.Choice.{pick}
use Rattle.words.specs.Counting.{one, count_below, lowest_below}
use Rattle.words.proofs.CountingLaws.{lowest_found, lowest-one}
use Rattle.text.specs.Text.{write}
use Rattle.text.proofs.WriteLaws.{and_then, rest_of, nothing}
use Rattle.sheet.specs.Texts.{each, down}
use Rattle.sheet.specs.Order.{chosen}

-- ---- over a list

-- a turn: q is what the element at k makes of p
pub each_turn : (f : ℕ → List ℕ) (l : List ℕ) (k : ℕ) (o p q : List ℕ × ℕ) → k < length l → q ≡ write p (f (get_or l k 0)) → write p (each f (drop k l)) ≡ o
    → write q (each f (drop (k + 1) l)) ≡ o
unfolding each
each_turn f l k o p q h e s =
    rest_of p q (f (get_or l k 0)) (each f (drop (k + 1) l)) e
    ∙ ap (λ (x : List ℕ). write p (each f x)) (sym (drop-cons l k 0 h ∙ ap (λ (n : ℕ). get_or l k 0 ∷ drop n l) (sym (add-one k)))) ∙ s

-- the end
pub each-done : (f : ℕ → List ℕ) (l : List ℕ) (k : ℕ) (o p : List ℕ × ℕ) → length l ≤ k → write p (each f (drop k l)) ≡ o → p ≡ o
unfolding each
each-done f l k o p h e = nothing p ∙ ap (λ (x : List ℕ). write p (each f x)) (sym (drop_of_length-le l h)) ∙ e

-- ---- from a number down

pub down_turn : (f : ℕ → List ℕ) (l m : ℕ) (o p q : List ℕ × ℕ) → l ≡ m + 1 → q ≡ write p (f m) → write p (down f l) ≡ o → write q (down f m) ≡ o
unfolding down
down_turn f l m o p q h e s = rest_of p q (f m) (down f m) e ∙ ap (λ (n : ℕ). write p (down f n)) (sym (h ∙ add-one m)) ∙ s

pub down-done : (f : ℕ → List ℕ) (l : ℕ) (o p : List ℕ × ℕ) → l ≤ 0 → write p (down f l) ≡ o → p ≡ o
unfolding down
down-done f zero o p h e = nothing p ∙ e
down-done f (suc l) o p h e = absurd (omega arith)

-- ---- numbers that pass

pub chosen_none : (p : ℕ → Bool) (o : List ℕ × ℕ) → o ≡ write o (chosen p 0)
unfolding chosen
chosen_none p o = nothing o

pub chosen_more : (p : ℕ → Bool) (i : ℕ) (o r q : List ℕ × ℕ) (b : Bool) → b ≡ p i → r ≡ write o (chosen p i) → q ≡ write r (pick b (i ∷ []) [])
    → q ≡ write o (chosen p (i + 1))
unfolding chosen
chosen_more p i o r q b h e f =
    and_then o (chosen p i) (pick (p i) (i ∷ []) []) e (f ∙ ap (λ (x : Bool). write r (pick x (i ∷ []) [])) h) ∙ ap (λ (n : ℕ). write o (chosen p n)) (sym (add-one i))

pub count-more : (p : ℕ → Bool) (i : ℕ) (n k : ℕ) (b : Bool) → n ≡ count_below i p → b ≡ p i → k ≡ one b → n + k ≡ count_below (i + 1) p
unfolding count_below
count-more p i n k b e f g =
    ap₂ (λ (x y : ℕ). x + y) e (g ∙ ap (λ (x : Bool). one x) f) ∙ ap (λ (n : ℕ). count_below n p) (sym (add-one i))

-- ---- the lowest that passes

pub lowest_here : (p : ℕ → Bool) (i : ℕ) → i < 32 → ((j : ℕ) → j < i → p j ≡ false) → p i ≡ true → i ≡ lowest_below 32 p
lowest_here p i h b e = lowest-one p 32 i (lowest_below 32 p) (record { within = omega arith; before = b; found = λ l. e }) (lowest_found 32 p)

pub lowest-none : (p : ℕ → Bool) (i : ℕ) → i ≤ 32 → 32 ≤ i → ((j : ℕ) → j < i → p j ≡ false) → i ≡ lowest_below 32 p
lowest-none p i h g b = lowest-one p 32 i (lowest_below 32 p) (record { within = h; before = b; found = λ l. absurd (omega arith) }) (lowest_found 32 p)
