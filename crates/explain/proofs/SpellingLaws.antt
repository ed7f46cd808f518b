-- Statements in canonical form by their words, and what these tell.
use Prim.Native.Nat.{ℕ, ◌^◌, ◌≤◌, ◌<◌}
use mathlib.Core.Path.{◌≡◌, refl, sym, ap, ◌∙◌}
use mathlib.Core.Bool.{Bool, true, false}
use mathlib.Core.List.{List, [], ◌∷◌, ◌++◌, map, append_assoc, append-nil}
use mathlib.Core.Logic.{◌≢◌, inl, inr}
use native.Mathlib.Omega.{arith}
use lib.Dec.{ltb}
use lib.ListN.{length, replicate}
use borrow.Author.Tests.{ltb-true}
use Rattle.words.specs.Choice.{pick}
use Rattle.words.specs.Counting.{all_below}
use Rattle.words.proofs.ChoiceLaws.{pick_cases}
use Rattle.steps.specs.declared.Recorded.{Recorded}
use Rattle.steps.specs.declared.Step.{Step}
use Rattle.steps.specs.declared.Step.TheVariants.{Read, Write, Line}
use Rattle.text.specs.Text.{hex_of, decimal, field}
use Rattle.text.specs.Phrases.{bytes}
use Rattle.trace.specs.Steps.{numbers_of, operands_of}
use Rattle.trace.proofs.StepLaws.{read_one, read-two, write_two, write_three, line-two}
use Rattle.kinds.specs.Kinds.{by_kind, is_kind}
use Rattle.kinds.proofs.KindLaws.{Known, known}
use Rattle.encode.specs.Words.{same, kind_of, step_of}
use Rattle.explain.specs.Stated.{offset_digits, hex_field, fields, kind_word, privilege_field, read_stated, write_stated, line_stated, stated, gap, to_column}
use Rattle.explain.specs.Promises.{Words}
use Rattle.explain.proofs.DigitLaws.{hex_word, hex-read, decimal-read, High, high-by}
use Rattle.explain.proofs.WordLaws.{spelt, line_of}
use Rattle.explain.proofs.LineLaws.{Tells}

-- ---- offsets

digits_enough : (v : ℕ) → v < 2 ^ 32 → (1 ≤ offset_digits v) × (v < 16 ^ offset_digits v)
unfolding offset_digits
digits_enough v h =
    pick_cases P (ltb v 0x1000) (λ e. (omega arith, omega (arith, ltb-true v 0x1000 e)))
    (λ e. pick_cases P (ltb v 0x10000) (λ e. (omega arith, omega (arith, ltb-true v 0x10000 e)))
    (λ e. pick_cases P (ltb v 0x100000) (λ e. (omega arith, omega (arith, ltb-true v 0x100000 e)))
    (λ e. pick_cases P (ltb v 0x1000000) (λ e. (omega arith, omega (arith, ltb-true v 0x1000000 e)))
    (λ e. pick_cases P (ltb v 0x10000000) (λ e. (omega arith, omega (arith, ltb-true v 0x10000000 e))) (λ e. (omega arith, omega arith))))))
  where
    P : ℕ → Type 0
    P n = (1 ≤ n) × (v < 16 ^ n)

offset_word : ℕ → List ℕ
offset_word v = hex_word (offset_digits v) v

-- ---- a step

-- its first word and the number of that, the words behind it, and what these are worth
pub record Spelling (told : Bool) (x : Recorded) : Type 0 where
  pub first : ℕ
  pub word : List ℕ
  pub words : List (List ℕ)
  pub values : List ℕ
  pub high : High word
  pub some : 0 < length word
  pub tells : Tells words values
  pub opens : first ≡ step_of word
  pub known : first ≢ 0
  pub many : length words ≡ operands_of told first
  pub said : stated told x ≡ word ++ spelt words
  pub numbers : numbers_of told x ≡ first ∷ values

module _ (p : ℕ) where
  abbrev made : Step → Recorded
  made y = record { step = y; privilege = p }

  one : (told : Bool) (v : ℕ) → v < 2 ^ 32 → Tells (decimal v ∷ []) (v ∷ [])
  one told v h = ((decimal-read v h).0, (decimal-read v h).1, h, tt)

  spelt-read : (told : Bool) (o : ℕ) → Words (numbers_of told (made (Read o))) → Spelling told (made (Read o))
  unfolding stated read_stated hex_field privilege_field field bytes pick spelt all_below step_of same
  spelt-read false o h =
      let d = digits_enough o h.1.0 in
      let r = hex-read (offset_digits o) o d.0 d.1 in
      record {
        first = 1;
        word = bytes "read";
        words = hex_word (offset_digits o) o ∷ [];
        values = o ∷ [];
        high = high-by (bytes "read") refl;
        some = omega arith;
        tells = (r.0, r.1, h.1.0, tt);
        opens = refl;
        known = λ e. omega arith;
        many = sym read_one;
        said = refl;
        numbers = refl;
      }
  spelt-read true o h =
      let d = digits_enough o h.1.0 in
      let r = hex-read (offset_digits o) o d.0 d.1 in
      record {
        first = 1;
        word = bytes "read";
        words = hex_word (offset_digits o) o ∷ decimal p ∷ [];
        values = o ∷ p ∷ [];
        high = high-by (bytes "read") refl;
        some = omega arith;
        tells = (r.0, r.1, h.1.0, one true p h.1.1.0);
        opens = refl;
        known = λ e. omega arith;
        many = sym read-two;
        said = ap (λ (l : List ℕ). bytes "read 0x" ++ (hex_of (offset_digits o) o ++ (32 ∷ l))) (sym (append-nil (decimal p)));
        numbers = refl;
      }

  spelt-write : (told : Bool) (o v : ℕ) → Words (numbers_of told (made (Write o v))) → Spelling told (made (Write o v))
  unfolding stated write_stated hex_field privilege_field field bytes pick spelt all_below step_of same
  spelt-write false o v h =
      let d = digits_enough o h.1.0 in
      let r = hex-read (offset_digits o) o d.0 d.1 in
      let q = hex-read 8 v (omega arith) h.1.1.0 in
      record {
        first = 2;
        word = bytes "write";
        words = hex_word (offset_digits o) o ∷ hex_word 8 v ∷ [];
        values = o ∷ v ∷ [];
        high = high-by (bytes "write") refl;
        some = omega arith;
        tells = (r.0, r.1, h.1.0, (q.0, q.1, h.1.1.0, tt));
        opens = refl;
        known = λ e. omega arith;
        many = sym write_two;
        said = simp (append-nil, append_assoc);
        numbers = refl;
      }
  spelt-write true o v h =
      let d = digits_enough o h.1.0 in
      let r = hex-read (offset_digits o) o d.0 d.1 in
      let q = hex-read 8 v (omega arith) h.1.1.1.0 in
      let w = decimal-read p h.1.1.0 in
      record {
        first = 2;
        word = bytes "write";
        words = hex_word (offset_digits o) o ∷ decimal p ∷ hex_word 8 v ∷ [];
        values = o ∷ p ∷ v ∷ [];
        high = high-by (bytes "write") refl;
        some = omega arith;
        tells = (r.0, r.1, h.1.0, (w.0, w.1, h.1.1.0, (q.0, q.1, h.1.1.1.0, tt)));
        opens = refl;
        known = λ e. omega arith;
        many = sym write_three;
        said = simp (append-nil, append_assoc);
        numbers = refl;
      }

  spelt-line : (told : Bool) (l v : ℕ) → Words (numbers_of told (made (Line l v))) → Spelling told (made (Line l v))
  unfolding stated line_stated field bytes pick spelt all_below step_of same
  spelt-line told l v h =
      record {
        first = 3;
        word = bytes "line";
        words = decimal l ∷ decimal v ∷ [];
        values = l ∷ v ∷ [];
        high = high-by (bytes "line") refl;
        some = omega arith;
        tells = ((decimal-read l h.1.0).0, (decimal-read l h.1.0).1, h.1.0, one told v h.1.1.0);
        opens = refl;
        known = λ e. omega arith;
        many = sym (line-two told);
        said = simp (append-nil, append_assoc);
        numbers = refl;
      }

pub spelling : (told : Bool) (x : Recorded) → Words (numbers_of told x) → Spelling told x
spelling told x h = go x.step h
  where
    go : (y : Step) → Words (numbers_of told (record { step = y; privilege = x.privilege })) → Spelling told (record { step = y; privilege = x.privilege })
    go (Read o) f = spelt-read x.privilege told o f
    go (Write o v) f = spelt-write x.privilege told o v f
    go (Line l v) f = spelt-line x.privilege told l v f

-- with spaces up to the column
pub to-column : (st w : List ℕ) (ws : List (List ℕ)) → st ≡ w ++ spelt ws → to_column st ≡ line_of w ws (gap (length st))
unfolding to_column
to-column st w ws e = ap (λ (l : List ℕ). l ++ replicate (gap (length st)) 32) e ∙ append_assoc w (spelt ws) (replicate (gap (length st)) 32)

-- ---- a controller

pub fields-spelt : (ns : List ℕ) → fields ns ≡ spelt (map decimal ns)
unfolding fields spelt field
fields-spelt [] = refl
fields-spelt (n ∷ ns) = ap (λ (l : List ℕ). (32 ∷ decimal n) ++ l) (fields-spelt ns)

pub decimals-tell : (ns : List ℕ) → Words ns → Tells (map decimal ns) ns
decimals-tell [] h = tt
decimals-tell (n ∷ ns) h = ((decimal-read n h.0).0, (decimal-read n h.0).1, h.0, decimals-tell ns h.1)

pub record Kinded (kind : ℕ) : Type 0 where
  pub high : High (kind_word kind)
  pub some : 0 < length (kind_word kind)
  pub opens : kind ≡ kind_of (kind_word kind)
  pub known : kind ≢ 5

kinded_aic : Kinded 0
unfolding kind_word by_kind bytes pick all_below kind_of same
kinded_aic = record { high = high-by (bytes "aic") refl; some = omega arith; opens = refl; known = λ e. omega arith }

kinded_core : Kinded 1
unfolding kind_word by_kind bytes pick all_below kind_of same
kinded_core = record { high = high-by (bytes "coreinterrupt") refl; some = omega arith; opens = refl; known = λ e. omega arith }

kinded-cic : Kinded 2
unfolding kind_word by_kind bytes pick all_below kind_of same
kinded-cic = record { high = high-by (bytes "cic") refl; some = omega arith; opens = refl; known = λ e. omega arith }

kinded_aintc : Kinded 3
unfolding kind_word by_kind bytes pick all_below kind_of same
kinded_aintc = record { high = high-by (bytes "aintc") refl; some = omega arith; opens = refl; known = λ e. omega arith }

kinded-indexed : Kinded 4
unfolding kind_word by_kind bytes pick all_below kind_of same
kinded-indexed = record { high = high-by (bytes "indexed") refl; some = omega arith; opens = refl; known = λ e. omega arith }

pub kinded : (kind : ℕ) → is_kind kind ≡ true → Kinded kind
kinded kind e = go ((known kind).0 e)
  where
    go : Known kind → Kinded kind
    go (inl h) = rw h kinded_aic
    go (inr (inl h)) = rw h kinded_core
    go (inr (inr (inl h))) = rw h kinded-cic
    go (inr (inr (inr (inl h)))) = rw h kinded_aintc
    go (inr (inr (inr (inr h)))) = rw h kinded-indexed
