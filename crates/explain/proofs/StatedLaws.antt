-- Statements: how long they are, digit by digit, and a line that is made up in a room of its own.
use Prim.Native.Nat.{ℕ, zero, suc, ◌+◌, ◌-◌, ◌*◌, ◌/◌, ◌%◌, ◌≤◌}
use mathlib.Core.Path.{◌≡◌, refl, sym, ap, ap₂, ◌∙◌}
use mathlib.Core.Bool.{Bool, true, false}
use mathlib.Core.List.{List, [], ◌∷◌, ◌++◌}
use native.Mathlib.Numerals.{sub-one}
use native.Mathlib.Omega.{arith}
use lib.Dec.{ltb}
use lib.ListN.{length, take, drop, replicate, length-append, length-replicate}
use lib.Seq.{take-append_seam}
use Rattle.words.specs.Choice.{pick}
use Rattle.words.proofs.ChoiceLaws.{pick_cases}
use Rattle.steps.specs.declared.Step.{Step}
use Rattle.steps.specs.declared.Step.TheVariants.{Read, Write, Line}
use Rattle.steps.specs.declared.Recorded.{Recorded}
use Rattle.numbers.specs.Promises.{told_at}
use Rattle.text.specs.Text.{space, hex_digit, hex_of, field, write}
use Rattle.text.proofs.DigitLaws.{length-hex, length-field}
use Rattle.text.proofs.Promises as Text
use Rattle.text.proofs.WriteLaws.{and_then, rest_of, nothing}
use Rattle.text.specs.Phrases.{bytes}
use Rattle.kinds.specs.Kinds.{Each, by_kind, wanted}
use Rattle.kinds.proofs.KindLaws.{KindOf, kind_of, is_aic, is_core, is_cic, is_aintc, is_indexed, is_none, at_aic, at_core, at-cic, at_aintc, at_indexed, at_none}
use Rattle.explain.specs.Stated.{offset_digits, hex_field, fields, kind_word, numbers_at, controller, privilege_field, read_stated, write_stated, line_stated, stated_by, stated, gap, to_column}

-- ---- digits, one at a time

pub hex-none : (k v : ℕ) → k ≡ 0 → [] ≡ hex_of k v
unfolding hex_of
hex-none zero v e = refl
hex-none (suc k) v e = absurd (omega arith)

pub hex-more : (k v : ℕ) → (k ≡ 0 → ⊥) → hex_of (k - 1) (v / 16) ++ (hex_digit (v % 16) ∷ []) ≡ hex_of k v
unfolding hex_of
hex-more zero v h = absurd (h refl)
hex-more (suc k) v h = rw sub-one

-- ---- numbers of a trace, one at a time

pub fields-none : (n : ℕ) (s : List ℕ) (at : ℕ) → n ≡ 0 → [] ≡ fields (numbers_at n s at)
unfolding fields numbers_at
fields-none zero s at e = refl
fields-none (suc n) s at e = absurd (omega arith)

pub fields-more : (n : ℕ) (s : List ℕ) (at v p : ℕ) → (n ≡ 0 → ⊥) → v ≡ (told_at s at).value → p ≡ (told_at s at).place
    → field v ++ fields (numbers_at (n - 1) s p) ≡ fields (numbers_at n s at)
unfolding fields numbers_at
fields-more zero s at v p h e f = absurd (h refl)
fields-more (suc n) s at v p h e f = rw (sub-one, e, f)

pub numbers-turn : (o p q : List ℕ × ℕ) (left : ℕ) (s : List ℕ) (at v next : ℕ) → (left ≡ 0 → ⊥) → v ≡ (told_at s at).value → next ≡ (told_at s at).place
    → q ≡ write p (field v) → write p (fields (numbers_at left s at)) ≡ o → write q (fields (numbers_at (left - 1) s next)) ≡ o
numbers-turn o p q left s at v next h e f g i =
    rest_of p q (field v) (fields (numbers_at (left - 1) s next)) g ∙ ap (write p) (fields-more left s at v next h e f) ∙ i

pub numbers-done : (o p : List ℕ × ℕ) (left : ℕ) (s : List ℕ) (at : ℕ) → left ≡ 0 → write p (fields (numbers_at left s at)) ≡ o → p ≡ o
numbers-done o p left s at e f = nothing p ∙ ap (write p) (fields-none left s at e) ∙ f

-- ---- spaces, one at a time

pub spaces-turn : (o p q : List ℕ × ℕ) (left : ℕ) → (left ≡ 0 → ⊥) → q ≡ write p (space ∷ []) → write p (replicate left space) ≡ o
    → write q (replicate (left - 1) space) ≡ o
spaces-turn o p q zero h e f = absurd (h refl)
spaces-turn o p q (suc left) h e f = rw sub-one (rest_of p q (space ∷ []) (replicate left space) e ∙ f)

pub spaces-done : (o p : List ℕ × ℕ) (left : ℕ) → left ≡ 0 → write p (replicate left space) ≡ o → p ≡ o
spaces-done o p zero e f = nothing p ∙ f
spaces-done o p (suc left) e f = absurd (omega arith)

-- ---- a text that is made up in a room of its own

pub in-room : (l l' : List ℕ) (n : ℕ) (bs : List ℕ) → (l', n) ≡ write (l, 0) bs → length bs ≤ length l → take n l' ≡ bs
in-room l l' n bs e h =
    let f : ◌≡◌ {A = List ℕ × ℕ} (l', n) (bs ++ drop (length bs) l, length bs) = e ∙ (Text.kept).fits l bs h in
    let a : n ≡ length bs = ap (λ (p : List ℕ × ℕ). p.1) f in
    let b : l' ≡ bs ++ drop (length bs) l = ap (λ (p : List ℕ × ℕ). p.0) f in
    rw (a, b) (take-append_seam bs (drop (length bs) l))

in-line : (l' : List ℕ) (n : ℕ) (bs : List ℕ) → (l', n) ≡ write (replicate 128 0, 0) bs → length bs ≤ 128 → take n l' ≡ bs
in-line l' n bs e h = in-room (replicate 128 0) l' n bs e (rw (length-replicate {0} {A = ℕ} 128 0) h)

-- ---- the parts of a statement

pub columned : (o p q : List ℕ × ℕ) (l : List ℕ) (g : ℕ) → p ≡ write o l → g ≡ gap (length l) → q ≡ write p (replicate g space) → q ≡ write o (to_column l)
unfolding to_column
columned o p q l g e h f = and_then o _ _ e (f ∙ ap (λ (n : ℕ). write p (replicate n space)) h)

-- of a statement that was made up in a room of 128 bytes
pub column_so : (o q : List ℕ × ℕ) (l' : List ℕ) (n : ℕ) (bs : List ℕ) → (l', n) ≡ write (replicate 128 0, 0) bs → length bs ≤ 128
    → q ≡ write o (to_column (take n l')) → q ≡ write o (to_column bs)
column_so o q l' n bs e h f = f ∙ ap (λ (l : List ℕ). write o (to_column l)) (in-line l' n bs e h)

pub offset_so : (o q : List ℕ × ℕ) (k v : ℕ) → k ≡ offset_digits v → q ≡ write o (hex_field k v) → q ≡ write o (hex_field (offset_digits v) v)
offset_so o q k v h e = e ∙ ap (λ (n : ℕ). write o (hex_field n v)) h

pub controlled : (o p q : List ℕ × ℕ) (s : List ℕ) (kind n at : ℕ) → p ≡ write o (kind_word kind) → n ≡ wanted kind → at ≡ (told_at s 0).place
    → q ≡ write p (fields (numbers_at n s at)) → q ≡ write o (controller kind (numbers_at (wanted kind) s (told_at s 0).place))
unfolding controller
controlled o p q s kind n at e h g f = and_then o _ _ e (f ∙ ap₂ (λ (k a : ℕ). write p (fields (numbers_at k s a))) h g)

-- ---- how long statements are

pub digits-most : (v : ℕ) → offset_digits v ≤ 8
unfolding offset_digits
digits-most v =
    pick_cases (λ (n : ℕ). n ≤ 8) (ltb v 0x1000) (λ e. omega arith)
    (λ e. pick_cases (λ (n : ℕ). n ≤ 8) (ltb v 0x10000) (λ e. omega arith)
    (λ e. pick_cases (λ (n : ℕ). n ≤ 8) (ltb v 0x100000) (λ e. omega arith)
    (λ e. pick_cases (λ (n : ℕ). n ≤ 8) (ltb v 0x1000000) (λ e. omega arith)
    (λ e. pick_cases (λ (n : ℕ). n ≤ 8) (ltb v 0x10000000) (λ e. omega arith) (λ e. omega arith)))))

pub length-hex_field : (k v : ℕ) → length (hex_field k v) ≡ 3 + k
unfolding hex_field bytes
length-hex_field k v = simp length-append (omega (arith, length-hex k v))

pub length_privilege : (told : Bool) (p k : ℕ) → length (field p) ≤ k → length (privilege_field told p) ≤ k
unfolding privilege_field pick
length_privilege true p k h = h
length_privilege false p k h = omega arith

-- where the privilege has so many bytes with its space
pub length-stated : (told : Bool) (p k : ℕ) (x : Step) → length (field p) ≤ k → 20 ≤ k → length (stated_by told p x) ≤ 27 + k + 20
unfolding bytes read_stated write_stated line_stated
length-stated told p k (Read offset) h l =
    simp length-append (omega (arith, length-hex_field (offset_digits offset) offset, digits-most offset, length_privilege told p k h))
length-stated told p k (Write offset value) h l =
    simp length-append (omega (arith, length-hex_field (offset_digits offset) offset, digits-most offset, length_privilege told p k h, length-hex_field 8 value))
length-stated told p k (Line line level) h l = simp length-append (omega (arith, length-field line, length-field level))

pub stated-fits : (told : Bool) (x : Recorded) → length (stated told x) ≤ 128
unfolding stated
stated-fits told x = omega (arith, length-stated told x.privilege 21 x.step (length-field x.privilege) (omega arith))

pub length_numbers : (n : ℕ) (s : List ℕ) (at : ℕ) → length (numbers_at n s at) ≡ n
unfolding numbers_at
length_numbers zero s at = refl
length_numbers (suc n) s at = ap suc (length_numbers n s (told_at s at).place)

length_fields : (ns : List ℕ) → length (fields ns) ≤ 21 * length ns
unfolding fields
length_fields [] = omega arith
length_fields (n ∷ ns) = simp length-append (omega (arith, length-field n, length_fields ns))

-- a choice by kind, by its ways
pub each-kind : {A : Type 0} (P : A → Type 0) (kind : ℕ) (e : Each A) → P e.aic → P e.core → P e.cic → P e.aintc → P e.indexed → P e.none
    → P (by_kind kind e)
each-kind P kind e a b c d f g = go (kind_of kind)
  where
    go : KindOf kind → P (by_kind kind e)
    go (is_aic h) = rw (sym (at_aic kind e h)) a
    go (is_core h) = rw (sym (at_core kind e h)) b
    go (is_cic h) = rw (sym (at-cic kind e h)) c
    go (is_aintc h) = rw (sym (at_aintc kind e h)) d
    go (is_indexed h) = rw (sym (at_indexed kind e h)) f
    go (is_none h i j k l) = rw (sym (at_none kind e h i j k l)) g

pub wanted-most : (kind : ℕ) → wanted kind ≤ 5
unfolding wanted
wanted-most kind = each-kind (λ (n : ℕ). n ≤ 5) kind _ (omega arith) (omega arith) (omega arith) (omega arith) (omega arith) (omega arith)

pub kind-most : (kind : ℕ) → length (kind_word kind) ≤ 13
unfolding kind_word bytes
kind-most kind = each-kind (λ (l : List ℕ). length l ≤ 13) kind _ (omega arith) (omega arith) (omega arith) (omega arith) (omega arith) (omega arith)

pub controller-fits : (kind : ℕ) (s : List ℕ) (at : ℕ) → length (controller kind (numbers_at (wanted kind) s at)) ≤ 128
unfolding controller
controller-fits kind s at =
    simp length-append (omega (arith, kind-most kind, length_fields (numbers_at (wanted kind) s at), length_numbers (wanted kind) s at, wanted-most kind))
