-- The numbers of a line as the code reads them, one after the other.
use Prim.Native.Nat.{ℕ, ◌+◌, ◌-◌, ◌*◌, ◌^◌, ◌≤◌, ◌<◌, min}
use mathlib.Core.Path.{◌≡◌, refl, sym, ap, ap₂, ◌∙◌}
use mathlib.Core.Bool.{true, false, not, ◌&&◌}
use mathlib.Core.List.{List, [], ◌++◌}
use mathlib.Core.Logic.{◌⊎◌, inl, inr}
use native.Mathlib.Numerals.{add-one}
use native.Mathlib.Omega.{arith}
use native.Mathlib.Decide.{dec_lt, ℕ_discrete}
use lib.Dec.{ltb}
use lib.ListN.{length, length-append}
use borrow.Author.Tests.{eq-eqb, ne_eqb, lt-ltb, le-ltb}
use Rattle.std.specs.Prelude.{Option, Some, None, unwrap_or, Result, Ok, Err, is_ok}
use Rattle.words.specs.Choice.{pick}
use Rattle.words.proofs.ChoiceLaws.{pick_true, pick-false}
use Rattle.words.proofs.CountingLaws.{lowest_found, lowest-one}
use Rattle.words.proofs.TruthLaws.{told, clash}
use Rattle.tables.specs.declared.Next.{Next}
use Rattle.tables.specs.Typed.{nth_start, nth_typed}
use Rattle.tables.specs.Number.{is_number, worth}
use Rattle.tables.specs.Passes.{capped, read_word}
use Rattle.tables.specs.Reading.{entered, list_of}
use Rattle.tables.proofs.ReadLaws.{NextIs, word_some, word_none, entered-capped}
use Rattle.tables.proofs.NumberLaws.{some_none}
use Rattle.tables.proofs.FillLaws.{length-list_of}
use Rattle.encode.specs.declared.statements.Numbers.{Numbers}
use Rattle.encode.specs.declared.statements.Statement.{Statement}
use Rattle.encode.specs.Bytes.{shortest, bytes_of}
use Rattle.encode.specs.Passes.{short_of, numbers_in}
use Rattle.encode.specs.Statements.{Opening, fitting, worth_of, values_in, fitting_in, a_number, the_line_end, as_it_should_be, astray, by_numbers, numbers_of}
use Rattle.encode.proofs.ByteLaws.{bytes_snoc, bytes_most}

-- ---- what the next word is

-- it is a number of 32 bits or not
ltb-capped : (v : ℕ) → ltb (capped v) (2 ^ 32) ≡ ltb v (2 ^ 32)
unfolding capped
ltb-capped v = go (dec_lt v (2 ^ 32))
  where
    go : Dec (v < 2 ^ 32) → ltb (min v (2 ^ 32)) (2 ^ 32) ≡ ltb v (2 ^ 32)
    go (yes l) = lt-ltb (min v (2 ^ 32)) (2 ^ 32) (omega arith) ∙ sym (lt-ltb v (2 ^ 32) l)
    go (no l) = le-ltb (min v (2 ^ 32)) (2 ^ 32) (omega arith) ∙ sym (le-ltb v (2 ^ 32) (omega arith))

-- it is read as one, or not
word_short : (w : List ℕ) → short_of (read_word w) ≡ pick (fitting w) (Some (worth_of w)) None
unfolding fitting worth_of
word_short w = go (told (is_number w))
  where
    go : (is_number w ≡ true) ⊎ (is_number w ≡ false)
        → short_of (read_word w) ≡ pick (is_number w && ltb (worth w) (2 ^ 32)) (Some (pick (is_number w) (entered (worth w)) 0)) None
    go (inl e) = rw (word_some w e, e) (unfold short_of pick in rw (ltb-capped (worth w), entered-capped (worth w)))
    go (inr e) = rw (word_none w e, e) (unfold short_of pick in refl)

pub next_short : (s : List ℕ) (n v : ℕ) (x : Next) → NextIs s n x → Some v ≡ short_of x.number → (fitting (nth_typed s n) ≡ true) × (v ≡ worth_of (nth_typed s n))
next_short s n v x h e = go (told (fitting (nth_typed s n))) (e ∙ ap short_of h.number ∙ word_short (nth_typed s n))
  where
    go : (fitting (nth_typed s n) ≡ true) ⊎ (fitting (nth_typed s n) ≡ false) → Some v ≡ pick (fitting (nth_typed s n)) (Some (worth_of (nth_typed s n))) None
        → (fitting (nth_typed s n) ≡ true) × (v ≡ worth_of (nth_typed s n))
    go (inl f) q = (f, ap (λ (o : Option ℕ). unwrap_or o 0) (q ∙ sym (pick_true None f)))
    go (inr f) q = absurd (some_none v (q ∙ sym (pick-false (Some (worth_of (nth_typed s n))) f)))

pub next_long : (s : List ℕ) (n : ℕ) (x : Next) → NextIs s n x → None ≡ short_of x.number → fitting (nth_typed s n) ≡ false
next_long s n x h e = go (told (fitting (nth_typed s n))) (e ∙ ap short_of h.number ∙ word_short (nth_typed s n))
  where
    go : (fitting (nth_typed s n) ≡ true) ⊎ (fitting (nth_typed s n) ≡ false) → None ≡ pick (fitting (nth_typed s n)) (Some (worth_of (nth_typed s n))) None
        → fitting (nth_typed s n) ≡ false
    go (inl f) q = absurd (some_none (worth_of (nth_typed s n)) (sym (q ∙ sym (pick_true None f))))
    go (inr f) q = f

-- what it is worth
word-worth : (w : List ℕ) → entered (unwrap_or (read_word w) 0) ≡ worth_of w
unfolding worth_of
word-worth w = go (told (is_number w))
  where
    go : (is_number w ≡ true) ⊎ (is_number w ≡ false) → entered (unwrap_or (read_word w) 0) ≡ pick (is_number w) (entered (worth w)) 0
    go (inl e) = rw (word_some w e) (entered-capped (worth w) ∙ pick_true _ e)
    go (inr e) = rw (word_none w e) (none ∙ pick-false _ e)
      where
        none : entered 0 ≡ 0
        none = unfold entered in refl

pub next-worth : (s : List ℕ) (n v u : ℕ) (x : Next) → NextIs s n x → u ≡ unwrap_or x.number 0 → v ≡ entered u → v ≡ worth_of (nth_typed s n)
next-worth s n v u x h e g = g ∙ ap entered (e ∙ ap (λ (o : Option ℕ). unwrap_or o 0) h.number) ∙ word-worth (nth_typed s n)

-- ---- one number more

pub values-none : (s : List ℕ) → [] ≡ bytes_of (values_in s 0)
unfolding bytes_of values_in list_of
values-none s = refl

pub values-more : (s : List ℕ) (k v : ℕ) → v ≡ worth_of (nth_typed s (k + 1)) → bytes_of (values_in s k) ++ shortest v ≡ bytes_of (values_in s (k + 1))
unfolding values_in list_of
values-more s k v e =
    ap (λ (x : ℕ). bytes_of (values_in s k) ++ shortest x) e
    ∙ sym (bytes_snoc (list_of k (λ j. worth_of (nth_typed s (j + 1)))) (worth_of (nth_typed s (k + 1))))
    ∙ ap (λ (n : ℕ). bytes_of (list_of n (λ j. worth_of (nth_typed s (j + 1))))) (sym (add-one k))

pub size-values : (s : List ℕ) (k size d v : ℕ) → size ≡ length (bytes_of (values_in s k)) → d ≡ length (shortest v) → v ≡ worth_of (nth_typed s (k + 1))
    → size + d ≡ length (bytes_of (values_in s (k + 1)))
size-values s k size d v e f g = ap₂ ◌+◌ e f ∙ sym (length_both (bytes_of (values_in s k)) (shortest v)) ∙ ap length (values-more s k v g)
  where
    length_both : (a b : List ℕ) → length (a ++ b) ≡ length a + length b
    length_both a b = length-append a b

pub values-most : (s : List ℕ) (k : ℕ) → length (bytes_of (values_in s k)) ≤ 5 * k
unfolding values_in
values-most s k = omega (arith, bytes_most (list_of k (λ j. worth_of (nth_typed s (j + 1)))), length-list_of k (λ j. worth_of (nth_typed s (j + 1))))

-- ---- the first that is none

-- the first k behind the first word are numbers
abbrev pub Fitting : List ℕ → ℕ → Type 0
Fitting s k = (j : ℕ) → j < k → fitting (nth_typed s (j + 1)) ≡ true

pub fitting-more : (s : List ℕ) (k : ℕ) → Fitting s k → fitting (nth_typed s (k + 1)) ≡ true → Fitting s (k + 1)
fitting-more s k h e j l = go (ℕ_discrete j k)
  where
    go : Dec (j ≡ k) → fitting (nth_typed s (j + 1)) ≡ true
    go (yes q) = rw q e
    go (no d) = h j (omega arith)

pub fitting-is : (s : List ℕ) (n k : ℕ) → k ≤ n → Fitting s k → (k < n → fitting (nth_typed s (k + 1)) ≡ false) → k ≡ fitting_in s n
unfolding fitting_in
fitting-is s n k l h f =
    lowest-one (λ j. not (fitting (nth_typed s (j + 1)))) n k _ (record { within = l; before = λ j m. ap not (h j m); found = λ m. ap not (f m) })
    (lowest_found n (λ j. not (fitting (nth_typed s (j + 1)))))

pub fitting-within : (s : List ℕ) (n : ℕ) → fitting_in s n ≤ n
unfolding fitting_in
fitting-within s n = (lowest_found n (λ j. not (fitting (nth_typed s (j + 1))))).within

pub numbers_short : (s : List ℕ) (n k : ℕ) → k < n → k ≡ fitting_in s n → Err k ≡ numbers_in s n
unfolding numbers_in
numbers_short s n k l e = rw e (pick_true _ (lt-ltb (fitting_in s n) n (omega (arith, e))))

pub numbers_are : (s : List ℕ) (n start size : ℕ) → n ≡ fitting_in s n → start ≡ nth_start s (n + 1) → size ≡ length (bytes_of (values_in s n))
    → Ok (record { start = start; size = size }) ≡ numbers_in s n
unfolding numbers_in
numbers_are s n start size e f g = rw (g, f) (pick-false _ (le-ltb (fitting_in s n) n (omega (arith, e))))

-- ---- the statement that they make

-- an answer of the one form is none of the other
count_of : Result Numbers ℕ → ℕ
count_of (Ok x) = 0
count_of (Err k) = k

numbers_of_ok : Numbers → Result Numbers ℕ → Numbers
numbers_of_ok d (Ok x) = x
numbers_of_ok d (Err k) = d

module _ (l : List ℕ) (n k : ℕ) (e : Err k ≡ numbers_in l n) where
  pub err_count : (k ≡ fitting_in l n) × (fitting_in l n < n)
  unfolding numbers_in
  err_count = go (dec_lt (fitting_in l n) n)
    where
      go : Dec (fitting_in l n < n) → (k ≡ fitting_in l n) × (fitting_in l n < n)
      go (yes h) = (unfold count_of in ap count_of (e ∙ sym (pick_true _ (lt-ltb (fitting_in l n) n h))), h)
      go (no h) = clash (ap is_ok (e ∙ sym (pick-false _ (le-ltb (fitting_in l n) n (omega arith))))) refl

module _ (l : List ℕ) (n : ℕ) (x : Numbers) (e : Ok x ≡ numbers_in l n) where
  found : (n ≡ fitting_in l n) × (x ≡ record { start = nth_start l (n + 1); size = length (bytes_of (values_in l n)) })
  unfolding numbers_in
  found = go (dec_lt (fitting_in l n) n)
    where
      go : Dec (fitting_in l n < n) → (n ≡ fitting_in l n) × (x ≡ record { start = nth_start l (n + 1); size = length (bytes_of (values_in l n)) })
      go (yes h) = clash refl (ap is_ok (e ∙ sym (pick_true _ (lt-ltb (fitting_in l n) n h))))
      go (no h) = (omega (arith, fitting-within l n), unfold numbers_of_ok in ap (numbers_of_ok x) (e ∙ sym (pick-false _ (le-ltb (fitting_in l n) n (omega arith)))))

  pub ok_all : n ≡ fitting_in l n
  ok_all = found.0

  pub ok_start : x.start ≡ nth_start l (n + 1)
  ok_start = ap (λ (y : Numbers). y.start) found.1

  pub ok_size : x.size ≡ length (bytes_of (values_in l n))
  ok_size = ap (λ (y : Numbers). y.size) found.1

  pub size_least : x.size ≤ 5 * n
  size_least = omega (arith, ok_size, values-most l n)

module _ (l : List ℕ) (o : Opening) where
  pub by_missing : (k : ℕ) (r : Statement) → Err k ≡ numbers_in l o.numbers → r ≡ astray a_number (k + 2) → r ≡ by_numbers l o
  unfolding by_numbers
  by_missing k r e g =
      let h = err_count l o.numbers k e in
      g ∙ ap (λ (j : ℕ). astray a_number (j + 2)) h.0 ∙ pick_true _ (lt-ltb (fitting_in l o.numbers) o.numbers h.1)

  past_all : (x : Numbers) → Ok x ≡ numbers_in l o.numbers → ltb (fitting_in l o.numbers) o.numbers ≡ false
  past_all x e = le-ltb (fitting_in l o.numbers) o.numbers (omega (arith, ok_all l o.numbers x e))

  pub by-more : (x : Numbers) (r : Statement) → Ok x ≡ numbers_in l o.numbers → x.start < length l → r ≡ astray the_line_end (o.numbers + 2) → r ≡ by_numbers l o
  unfolding by_numbers
  by-more x r e m g = g ∙ pick_true _ (lt-ltb (nth_start l (o.numbers + 1)) (length l) (omega (arith, ok_start l o.numbers x e))) ∙ pick-false _ (past_all x e)

  pub by_said : (x : Numbers) (d : ℕ) → Ok x ≡ numbers_in l o.numbers → length l ≤ x.start → d ≡ length (shortest o.first)
      → record { expected = as_it_should_be; word = 0; kind = o.kind; first = o.first; words = o.numbers + 1; size = d + x.size } ≡ by_numbers l o
  unfolding by_numbers
  by_said x d e m g =
      ap (λ (k : ℕ). said k) (ap₂ ◌+◌ g (ok_size l o.numbers x e))
      ∙ pick-false _ (le-ltb (nth_start l (o.numbers + 1)) (length l) (omega (arith, ok_start l o.numbers x e))) ∙ pick-false _ (past_all x e)
    where
      said : ℕ → Statement
      said k = record { expected = as_it_should_be; word = 0; kind = o.kind; first = o.first; words = o.numbers + 1; size = k }

-- ---- the numbers of a statement

pub words-none : (l : List ℕ) (first words : ℕ) → words ≡ 0 → [] ≡ bytes_of (numbers_of l first words)
unfolding bytes_of numbers_of
words-none l first words e = ap bytes_of (pick_true _ (eq-eqb words 0 e))

pub words-some : (l : List ℕ) (first words : ℕ) → (words ≡ 0 → ⊥) → shortest first ++ bytes_of (values_in l (words - 1)) ≡ bytes_of (numbers_of l first words)
unfolding bytes_of numbers_of
words-some l first words n = ap bytes_of (pick-false _ (ne_eqb words 0 n))
