-- Texts of fields, of which a part is known to be another.
use Prim.Native.Nat.{ℕ, ◌+◌, ◌*◌, ◌/◌, ◌%◌, ◌≤◌}
use mathlib.Core.Path.{◌≡◌, refl, sym, ap, ◌∙◌}
use mathlib.Core.Bool.{Bool, true, false, ◌&&◌}
use mathlib.Core.List.{List, [], ◌++◌}
use native.Mathlib.Numerals.{add-one}
use native.Mathlib.Omega.{arith}
use lib.Dec.{eqb, ltb}
use Rattle.words.proofs.ChoiceLaws.{pick_true, pick-false}
use Rattle.words.proofs.TruthLaws.{and_parts}
use Rattle.words.specs.Array.{rest_at, byte_of}
use Rattle.words.specs.Choice.{pick}
use Rattle.words.specs.Counting.{one, count_below}
use Rattle.words.specs.Word.{bit, kept}
use Rattle.text.specs.Text.{write, decimal}
use Rattle.text.proofs.WriteLaws.{and_then, nothing}
use Rattle.text.specs.Phrases.{bytes, counted}
use Rattle.aic_record.specs.Mode.{priority_of, type_of}
use Rattle.register_words.specs.Fields.{told_bit, told_below, more_words, bit_words, share_words, byte_words, map_words, type_words, mode_words, route_words}

-- ---- bits

pub told_none : (base w : ℕ) → [] ≡ told_below base w 0
unfolding told_below
told_none base w = refl

pub told_more : (base w n : ℕ) → told_below base w n ++ told_bit base w n ≡ told_below base w (n + 1)
unfolding told_below
told_more base w n = ap (told_below base w) (sym (add-one n))

pub lower-none : (w : ℕ) → 0 ≡ count_below 0 (bit w)
unfolding count_below
lower-none w = refl

pub lower-more : (w n told set : ℕ) → told ≡ count_below n (bit w) → set ≡ one (bit w n) → told + set ≡ count_below (n + 1) (bit w)
unfolding count_below
lower-more w n told set e f = ap (λ (k : ℕ). k + set) e ∙ ap (λ (k : ℕ). count_below n (bit w) + k) f ∙ ap (λ (k : ℕ). count_below k (bit w)) (sym (add-one n))

pub more_as : (o p q : List ℕ × ℕ) (told : List ℕ) (m n : ℕ) → p ≡ write o told → q ≡ write p (more_words m) → m ≡ n → q ≡ write o (told ++ more_words n)
more_as o p q told m n e f h = and_then o told (more_words m) e f ∙ ap (λ (k : ℕ). write o (told ++ more_words k)) h

pub bits_of : (o p : List ℕ × ℕ) (noun : List ℕ) (base w v : ℕ) → p ≡ write o (bit_words noun base w) → w ≡ v → p ≡ write o (bit_words noun base v)
bits_of o p noun base w v e h = e ∙ ap (λ (k : ℕ). write o (bit_words noun base k)) h

pub share_text : (o p : List ℕ × ℕ) (noun : List ℕ) (count k v w rest : ℕ) → p ≡ write o (bit_words noun (32 * k) w) → w ≡ kept rest v → rest ≡ rest_at count k
    → p ≡ write o (share_words noun count k v)
unfolding share_words
share_text o p noun count k v w rest e f g =
    e ∙ ap (λ (x : ℕ). write o (bit_words noun (32 * k) x)) f ∙ ap (λ (x : ℕ). write o (bit_words noun (32 * k) (kept x v))) g

-- ---- bytes

first_byte : (v : ℕ) → v % 256 ≡ byte_of v 0
unfolding byte_of
first_byte v = omega arith

pub map_text : (o p q r s t : List ℕ × ℕ) (thing target : List ℕ) (count first v : ℕ) → p ≡ write o (counted thing first) → q ≡ write p (counted target (v % 256))
    → r ≡ write q (byte_words count (first + 1) (v / 256 % 256)) → s ≡ write r (byte_words count (first + 2) (v / 65536 % 256))
    → t ≡ write s (byte_words count (first + 3) (v / 16777216 % 256)) → t ≡ write o (map_words thing target count first v)
unfolding map_words byte_of
map_text o p q r s t thing target count first v e f g h i =
    and_then o _ _ (and_then o _ _ (and_then o _ _ (and_then o _ _ e (f ∙ ap (λ (x : ℕ). write p (counted target x)) (first_byte v))) g) h) i

-- ---- modes and routes

pub mode_text : (o p q : List ℕ × ℕ) (outer external : Bool) (v : ℕ) → p ≡ write o (type_words outer (type_of v)) → q ≡ write p (counted (bytes ", priority ") (priority_of v))
    → outer ≡ external → q ≡ write o (mode_words external v)
unfolding mode_words
mode_text o p q outer external v e f h = and_then o _ _ (e ∙ ap (λ (t : Bool). write o (type_words t (type_of v))) h) f

pub route_text : (o p q : List ℕ × ℕ) (fast : Bool) (v : ℕ) → p ≡ write o (pick fast (bytes "; to FIQ, priority ") (bytes "; to IRQ, priority "))
    → q ≡ write p (decimal (v / 4 % 128)) → fast ≡ bit v 0 → q ≡ write o (route_words v)
unfolding route_words counted
route_text o p q fast v e f h = and_then o _ _ (e ∙ ap (λ (t : Bool). write o (pick t (bytes "; to FIQ, priority ") (bytes "; to IRQ, priority "))) h) f

-- ---- one bit

module _ (o : List ℕ × ℕ) (base w n lower : ℕ) (set : Bool) (s : set ≡ bit w n) (l : lower ≡ count_below n (bit w)) where
  test : (set && ltb lower 8) ≡ (bit w n && ltb (count_below n (bit w)) 8)
  test = and_parts s (ap (λ (k : ℕ). ltb k 8) l)

  pub bit_text : (p q : List ℕ × ℕ) → (set && ltb lower 8) ≡ true → p ≡ write o (pick (eqb lower 0) (bytes " ") (bytes ", ")) → q ≡ write p (decimal (base + n))
      → q ≡ write o (told_bit base w n)
  unfolding told_bit counted
  bit_text p q t e f =
      and_then o _ _ (e ∙ ap (λ (k : ℕ). write o (pick (eqb k 0) (bytes " ") (bytes ", "))) l) f ∙ ap (write o) (pick_true [] (sym test ∙ t))

  pub bit-none : (set && ltb lower 8) ≡ false → o ≡ write o (told_bit base w n)
  unfolding told_bit
  bit-none t = nothing o ∙ ap (write o) (pick-false _ (sym test ∙ t))

one-most : (t : Bool) → one t ≤ 1
one-most true = omega arith
one-most false = omega arith

pub one_bit : (w n k : ℕ) → k ≡ one (bit w n) → k ≤ 1
one_bit w n k e = omega (arith, e, one-most (bit w n))

pub told-all : (o p : List ℕ × ℕ) (base w n : ℕ) → n ≡ 32 → p ≡ write o (told_below base w n) → p ≡ write o (told_below base w 32)
told-all o p base w n h e = e ∙ ap (λ (k : ℕ). write o (told_below base w k)) h
