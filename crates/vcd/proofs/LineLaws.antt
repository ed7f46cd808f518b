-- Lines as they are read: one that is written is found again, and what each kind of line makes of a table.
use Prim.Native.Nat.{ℕ, zero, suc, ◌+◌, ◌-◌, ◌%◌, ◌^◌, ◌<◌}
use mathlib.Core.Path.{◌≡◌, refl, sym, ap, ◌∙◌}
use mathlib.Core.Bool.{true, not}
use mathlib.Core.List.{List, [], ◌∷◌, ◌++◌, append_assoc}
use mathlib.Core.Logic.{◌≢◌}
use native.Mathlib.Omega.{arith}
use lib.Dec.{eqb}
use lib.ListN.{length, get_or, set}
use borrow.Author.Tests.{eq-eqb, ne_eqb, eqb-true}
use Rattle.words.specs.Choice.{pick}
use Rattle.words.specs.Counting.{all_below}
use Rattle.words.proofs.ChoiceLaws.{pick_cases}
use Rattle.words.proofs.CountingLaws.{all_at}
use Rattle.words.proofs.TruthLaws.{clash}
use Rattle.text.specs.Text.{decimal}
use Rattle.text.proofs.Promises.{kept as texts}
use Rattle.vcd.specs.Dump.{binary_of, change, tick}
use Rattle.vcd.specs.Promises.{OneLine}
use Rattle.vcd.specs.Replay.{lines_of, line_read, tables_from}
use Rattle.vcd.proofs.BinaryLaws.{binary-bytes, digits-read}

-- ---- lines

pub one_none : OneLine []
one_none k m = absurd (omega arith)

pub one_more : (b : ℕ) (l : List ℕ) → b ≢ 10 → OneLine l → OneLine (b ∷ l)
one_more b l h hs zero m = h
one_more b l h hs (suc k) m = hs k (omega arith)

pub one_append : (a b : List ℕ) → OneLine a → OneLine b → OneLine (a ++ b)
one_append [] b f g k m = g k m
one_append (x ∷ a) b f g zero m = f zero (omega arith)
one_append (x ∷ a) b f g (suc k) m = one_append a b (λ j i. f (suc j) (omega arith)) g k (omega arith)

-- as a text's bytes are tested one by one
pub one_tested : (l : List ℕ) → all_below (length l) (λ k. not (eqb (get_or l k 0) 10)) ≡ true → OneLine l
one_tested l e k m h =
    let f : not (eqb (get_or l k 0) 10) ≡ true = all_at (length l) (λ k. not (eqb (get_or l k 0) 10)) e k m in
    clash f (ap not (eq-eqb (get_or l k 0) 10 h))

pub one-decimal : (n : ℕ) → OneLine (decimal n)
one-decimal n k m e = omega (arith, (texts.decimal_bytes n k m).0)

one_binary : (w v : ℕ) → OneLine (binary_of w v)
one_binary w v k m e = omega (arith, (binary-bytes w v k m).0)

-- the first line of a text is what comes before its first line feed
pub line : (l rest : List ℕ) → OneLine l → lines_of (l ++ 10 ∷ rest) ≡ l ∷ lines_of rest
unfolding lines_of pick
line [] rest h = refl
line (b ∷ l) rest h =
    rw (ne_eqb b 10 (h 0 (omega arith)), line l rest (λ k n. h (suc k) (omega arith)))

-- ---- what a line makes of a table

-- # begins a tick
pub tick-line : (t l rest : List ℕ) → OneLine l → tables_from t (lines_of ((35 ∷ l) ++ 10 ∷ rest)) ≡ t ∷ tables_from t (lines_of rest)
unfolding tables_from pick
tick-line t l rest h = rw (line (35 ∷ l) rest (one_more 35 l (λ e. omega arith) h))

-- $ says nothing of values
pub other-line : (t l rest : List ℕ) → OneLine l → tables_from t (lines_of ((36 ∷ l) ++ 10 ∷ rest)) ≡ tables_from t (lines_of rest)
unfolding tables_from line_read pick
other-line t l rest h = rw (line (36 ∷ l) rest (one_more 36 l (λ e. omega arith) h))

-- a digit and an identifier
one_line : (t rest : List ℕ) (d i : ℕ) → d < 2 → i ≢ 10 → tables_from t (lines_of (((48 + d) ∷ i ∷ []) ++ 10 ∷ rest)) ≡ tables_from (set t (i - 33) d) (lines_of rest)
one_line t rest d i l h = ap (tables_from t) (line ((48 + d) ∷ i ∷ []) rest (one_more (48 + d) (i ∷ []) (λ e. omega arith) (one_more i [] h one_none))) ∙ go d l
  where
    go : (d : ℕ) → d < 2 → tables_from t (((48 + d) ∷ i ∷ []) ∷ lines_of rest) ≡ tables_from (set t (i - 33) d) (lines_of rest)
    go zero m = unfold tables_from line_read pick in refl
    go (suc zero) m = unfold tables_from line_read pick in refl
    go (suc (suc d)) m = absurd (omega arith)

-- b, digits, a space and an identifier
more-line : (t rest : List ℕ) (w v i : ℕ) → i ≢ 10
    → tables_from t (lines_of ((98 ∷ (binary_of w v ++ (32 ∷ i ∷ []))) ++ 10 ∷ rest)) ≡ tables_from (set t (i - 33) (v % 2 ^ w)) (lines_of rest)
unfolding tables_from line_read pick
more-line t rest w v i h =
    rw (line (98 ∷ (binary_of w v ++ (32 ∷ i ∷ []))) rest (one_more 98 (binary_of w v ++ (32 ∷ i ∷ [])) (λ e. omega arith) (one_append (binary_of w v) (32 ∷ i ∷ []) (one_binary w v) (one_more 32 (i ∷ []) (λ e. omega arith) (one_more i [] h one_none)))), digits-read w v i)

-- a value that is written is put in its place
pub change-read : (t rest : List ℕ) (w k v : ℕ) → k < 94 → tables_from t (lines_of (change w k v ++ rest)) ≡ tables_from (set t k (v % 2 ^ w)) (lines_of rest)
unfolding change
change-read t rest w k v h =
    pick_cases (λ (x : List ℕ). tables_from t (lines_of (x ++ rest)) ≡ tables_from (set t k (v % 2 ^ w)) (lines_of rest)) (eqb w 1)
    (λ e. one_line t rest (v % 2) (33 + k % 94) (omega arith) (λ i. omega arith) ∙ rw (eqb-true w 1 e, place))
    (λ e. ap (λ (x : List ℕ). tables_from t (lines_of (98 ∷ x))) joined ∙ more-line t rest w v (33 + k % 94) (λ i. omega arith) ∙ rw place)
  where
    place : 33 + k % 94 - 33 ≡ k
    place = omega arith

    joined : binary_of w v ++ (32 ∷ (33 + k % 94) ∷ 10 ∷ []) ++ rest ≡ binary_of w v ++ (32 ∷ (33 + k % 94) ∷ []) ++ 10 ∷ rest
    joined = append_assoc (binary_of w v) (32 ∷ (33 + k % 94) ∷ 10 ∷ []) rest ∙ sym (append_assoc (binary_of w v) (32 ∷ (33 + k % 94) ∷ []) (10 ∷ rest))

pub tick-read : (t rest : List ℕ) (n : ℕ) → tables_from t (lines_of (tick n ++ rest)) ≡ t ∷ tables_from t (lines_of rest)
unfolding tick
tick-read t rest n = ap (λ (x : List ℕ). tables_from t (lines_of (35 ∷ x))) (append_assoc (decimal n) (10 ∷ []) rest) ∙ tick-line t (decimal n) rest (one-decimal n)
