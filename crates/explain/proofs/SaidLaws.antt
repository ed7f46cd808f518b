-- What the statements of a text that is taken are: a controller with as many numbers as configure it, then steps; and the bytes of these.
use Prim.Native.Nat.{ℕ, zero, suc, ◌+◌, ◌-◌, ◌^◌, ◌≤◌, ◌<◌}
use mathlib.Core.Path.{◌≡◌, refl, sym, ap, ap₂, ◌∙◌, subst}
use mathlib.Core.Bool.{Bool, true, false}
use mathlib.Core.List.{List, [], ◌∷◌, ◌++◌}
use mathlib.Core.Logic.{◌≢◌, ◌⊎◌, inl, inr}
use native.Mathlib.Omega.{arith}
use lib.Dec.{eqb, ltb}
use lib.ListN.{length}
use borrow.Author.Tests.{eqb-true, eqb-false, eq-eqb, ne_eqb}
use Rattle.words.specs.Choice.{pick}
use Rattle.words.proofs.ChoiceLaws.{pick_true, pick-false, pick_cases}
use Rattle.steps.specs.declared.Recorded.{Recorded}
use Rattle.steps.specs.declared.Step.TheVariants.{Read, Write, Line}
use Rattle.trace.specs.Promises.{made, Unwritten}
use Rattle.trace.specs.Steps.{operands_of, numbers_of as step_numbers}
use Rattle.kinds.specs.Kinds.{wanted, tells_privilege}
use Rattle.tables.specs.Typed.{nth_start, nth_typed}
use Rattle.tables.specs.Number.{is_number, worth}
use Rattle.tables.specs.Reading.{entered, list_of}
use Rattle.tables.proofs.FillLaws.{length-list_of, list_of-same}
use Rattle.text.specs.Phrases.{bytes}
use Rattle.encode.specs.declared.statements.Statement.{Statement}
use Rattle.encode.specs.Bytes.{bytes_of}
use Rattle.encode.specs.Words.{same, kind_of, step_of}
use Rattle.encode.specs.Statements.{uncommented, worth_of, values_in, fitting_in, silent, astray, controller_by, step_by, opening_of, by_numbers, by_opening, statement_in, statement_of, numbers_of, bytes_in}
use Rattle.encode.specs.Promises.{Fits, Stands, Numbered, Opens}
use Rattle.encode.proofs.Promises as Encode
use Rattle.explain.specs.Promises.{Words}
use Rattle.explain.specs.Said.{said_in}

-- ---- a line that is as it should be says nothing, or what its first word opens

record Speaks (kind : ℕ) (w : List ℕ) (st : Statement) : Type 0 where
  pub words : st.words ≡ (opening_of kind w).numbers + 1
  pub first : st.first ≡ (opening_of kind w).first
  pub later : st.kind ≡ (opening_of kind w).kind
  pub right : (opening_of kind w).expected ≡ 0

abbrev Sorted : ℕ → List ℕ → Statement → Type 0
Sorted kind l st = ((st.words ≡ 0) × (st.kind ≡ kind)) ⊎ Speaks kind (nth_typed l 0) st

module _ (kind : ℕ) (l : List ℕ) where
  abbrev opener : List ℕ
  opener = nth_typed l 0

  abbrev Right : Statement → Type 0
  Right st = st.expected ≡ 0 → Sorted kind l st

  by_numbers_lem : (opening_of kind opener).expected ≡ 0 → Right (by_numbers l (opening_of kind opener))
  unfolding by_numbers astray
  by_numbers_lem e =
      pick_cases Right (ltb (fitting_in l (opening_of kind opener).numbers) (opening_of kind opener).numbers) (λ f z. absurd (omega arith))
      (λ f. pick_cases Right (ltb (nth_start l ((opening_of kind opener).numbers + 1)) (length l)) (λ g z. absurd (omega arith))
      (λ g z. inr (record { words = refl; first = refl; later = refl; right = e })))

  sorted : Right (statement_in kind l)
  unfolding statement_in by_opening silent astray
  sorted =
      pick_cases Right (eqb (nth_start l 0) (length l)) (λ e z. inl (refl, refl))
      (λ e. pick_cases Right (eqb (opening_of kind opener).expected 0) (λ f. by_numbers_lem (eqb-true (opening_of kind opener).expected 0 f)) (λ f z. absurd (eqb-false (opening_of kind opener).expected 0 f z)))

module _ (kind : ℕ) (l : List ℕ) where
  abbrev st : Statement
  st = statement_of kind l

  abbrev u : List ℕ
  u = uncommented l

  abbrev w : List ℕ
  w = nth_typed u 0

  -- nothing, and no bytes
  abbrev pub Mute : Type 0
  Mute = (said_in kind l ≡ []) × (bytes_in l st.first st.words ≡ []) × (st.kind ≡ kind)

  -- one statement of n numbers behind its first, which leaves this kind, and its bytes
  abbrev pub Speech : ℕ → ℕ → ℕ → Type 0
  Speech first n later = (said_in kind l ≡ (first ∷ values_in u n) ∷ []) × (bytes_in l st.first st.words ≡ bytes_of (first ∷ values_in u n)) × (st.kind ≡ later)

  abbrev Spoken : Type 0
  Spoken = Speech (opening_of kind w).first (opening_of kind w).numbers (opening_of kind w).kind × ((opening_of kind w).expected ≡ 0)

  no_words : st.words ≡ 0 → said_in kind l ≡ []
  unfolding said_in
  no_words e = sym (pick_true _ (eq-eqb st.words 0 e))

  numbers-said : Speaks kind w st → numbers_of u st.first st.words ≡ (opening_of kind w).first ∷ values_in u (opening_of kind w).numbers
  unfolding numbers_of
  numbers-said h =
      let e : st.words - 1 ≡ (opening_of kind w).numbers = omega (arith, h.words) in
      sym (pick-false _ (ne_eqb st.words 0 (λ z. omega (arith, h.words)))) ∙ ap₂ (λ (f n : ℕ). f ∷ values_in u n) h.first e

  some_words : Speaks kind w st → said_in kind l ≡ ((opening_of kind w).first ∷ values_in u (opening_of kind w).numbers) ∷ []
  unfolding said_in
  some_words h =
      sym (pick-false _ (ne_eqb st.words 0 (λ z. omega (arith, h.words)))) ∙ ap (λ (ns : List ℕ). ns ∷ []) (numbers-said h)

  spoken : st.expected ≡ 0 → Mute ⊎ Spoken
  unfolding statement_of bytes_in
  spoken z = go (sorted kind u z)
    where
      go : Sorted kind u st → Mute ⊎ Spoken
      go (inl h) = inl (no_words h.0, ap (bytes_in l st.first) h.0 ∙ (Encode.kept).silent_bytes l st.first, h.1)
      go (inr h) = inr ((some_words h, ap bytes_of (numbers-said h), h.later), h.right)

  -- where a controller has been named, a step
  pub says-step : kind ≢ 5 → st.expected ≡ 0 → Mute ⊎ (Speech (step_of w) (operands_of (tells_privilege kind) (step_of w)) kind × (step_of w ≢ 0))
  unfolding opening_of step_by pick
  says-step n z = go (spoken z)
    where
      right : Spoken → Speech (step_of w) (operands_of (tells_privilege kind) (step_of w)) kind × ((step_by kind (step_of w)).expected ≡ 0)
      right h =
          subst (λ (t : Bool). Speech (pick t (controller_by (kind_of w)) (step_by kind (step_of w))).first (pick t (controller_by (kind_of w)) (step_by kind (step_of w))).numbers
          (pick t (controller_by (kind_of w)) (step_by kind (step_of w))).kind × ((pick t (controller_by (kind_of w)) (step_by kind (step_of w))).expected ≡ 0)) (ne_eqb kind 5 n) h

      go : Mute ⊎ Spoken → Mute ⊎ (Speech (step_of w) (operands_of (tells_privilege kind) (step_of w)) kind × (step_of w ≢ 0))
      go (inl h) = inl h
      go (inr h) = let r = right h in inr (r.0, λ e. omega (arith, r.1, pick_true {A = ℕ} {a = 2} 0 (eq-eqb (step_of w) 0 e)))

  -- where none has been, a controller
  pub says-kind : kind ≡ 5 → st.expected ≡ 0 → Mute ⊎ (Speech (kind_of w) (wanted (kind_of w)) (kind_of w) × (kind_of w ≢ 5))
  unfolding opening_of controller_by pick
  says-kind n z = go (spoken z)
    where
      right : Spoken → Speech (kind_of w) (wanted (kind_of w)) (kind_of w) × ((controller_by (kind_of w)).expected ≡ 0)
      right h =
          subst (λ (t : Bool). Speech (pick t (controller_by (kind_of w)) (step_by kind (step_of w))).first (pick t (controller_by (kind_of w)) (step_by kind (step_of w))).numbers
          (pick t (controller_by (kind_of w)) (step_by kind (step_of w))).kind × ((pick t (controller_by (kind_of w)) (step_by kind (step_of w))).expected ≡ 0)) (eq-eqb kind 5 n) h

      go : Mute ⊎ Spoken → Mute ⊎ (Speech (kind_of w) (wanted (kind_of w)) (kind_of w) × (kind_of w ≢ 5))
      go (inl h) = inl h
      go (inr h) = let r = right h in inr (r.0, λ e. omega (arith, r.1, pick_true {A = ℕ} {a = 1} 0 (eq-eqb (kind_of w) 5 e)))

-- ---- the numbers of a statement

words_append : (a b : List ℕ) → Words a → Words b → Words (a ++ b)
words_append [] b f g = g
words_append (n ∷ a) b f g = (f.0, words_append a b f.1 g)

worth-fits : (w : List ℕ) → worth_of w < 2 ^ 32
unfolding worth_of entered
worth-fits w = pick_cases (λ (n : ℕ). n < 2 ^ 32) (is_number w) (λ e. omega arith) (λ e. omega arith)

pub values_fit : (l : List ℕ) (n : ℕ) → Words (values_in l n)
unfolding values_in list_of
values_fit l n = go n
  where
    go : (n : ℕ) → Words (list_of n (λ k. worth_of (nth_typed l (k + 1))))
    go zero = tt
    go (suc n) = words_append (list_of n (λ k. worth_of (nth_typed l (k + 1)))) _ (go n) (worth-fits (nth_typed l (n + 1)), tt)

pub values_many : (l : List ℕ) (n : ℕ) → length (values_in l n) ≡ n
unfolding values_in
values_many l n = length-list_of n _

-- ---- a step

pub record Stepped (told : Bool) (ns : List ℕ) : Type 0 where
  pub x : Recorded
  pub numbers : ns ≡ step_numbers told x
  pub fits : Words (step_numbers told x)
  pub plain : Unwritten x.step told x.privilege

module _ (l : List ℕ) where
  abbrev v : ℕ → ℕ
  v k = worth_of (nth_typed l (k + 1))

  fit : (k : ℕ) → v k < 2 ^ 32
  fit k = worth-fits (nth_typed l (k + 1))

  a_read : (told : Bool) → Stepped told (1 ∷ values_in l (operands_of told 1))
  unfolding operands_of pick values_in list_of
  a_read false = record { x = made (Read (v 0)) 1; numbers = refl; fits = (omega arith, (fit 0, tt)); plain = refl }
  a_read true = record { x = made (Read (v 0)) (v 1); numbers = refl; fits = (omega arith, (fit 0, (fit 1, tt))); plain = tt }

  a_write : (told : Bool) → Stepped told (2 ∷ values_in l (operands_of told 2))
  unfolding operands_of pick values_in list_of
  a_write false = record { x = made (Write (v 0) (v 1)) 1; numbers = refl; fits = (omega arith, (fit 0, (fit 1, tt))); plain = refl }
  a_write true = record { x = made (Write (v 0) (v 2)) (v 1); numbers = refl; fits = (omega arith, (fit 0, (fit 1, (fit 2, tt)))); plain = tt }

  a-line : (told : Bool) → Stepped told (3 ∷ values_in l (operands_of told 3))
  unfolding operands_of pick values_in list_of
  a-line false = record { x = made (Line (v 0) (v 1)) 1; numbers = refl; fits = (omega arith, (fit 0, (fit 1, tt))); plain = refl }
  a-line true = record { x = made (Line (v 0) (v 1)) 1; numbers = refl; fits = (omega arith, (fit 0, (fit 1, tt))); plain = refl }

  pub stepped : (told : Bool) (w : List ℕ) → step_of w ≢ 0 → Stepped told (step_of w ∷ values_in l (operands_of told (step_of w)))
  unfolding step_of
  stepped told w =
      let P : ℕ → Type 0 = λ n. n ≢ 0 → Stepped told (n ∷ values_in l (operands_of told n)) in
      pick_cases P (same w (bytes "read")) (λ e n. a_read told)
      (λ e. pick_cases P (same w (bytes "write")) (λ e n. a_write told) (λ e. pick_cases P (same w (bytes "line")) (λ e n. a-line told) (λ e n. absurd (n refl))))

pub kind_fits : (w : List ℕ) → kind_of w < 2 ^ 32
unfolding kind_of
kind_fits w =
    let P : ℕ → Type 0 = λ n. n < 2 ^ 32 in
    pick_cases P (same w (bytes "aic")) (λ e. omega arith)
    (λ e. pick_cases P (same w (bytes "coreinterrupt")) (λ e. omega arith)
    (λ e. pick_cases P (same w (bytes "cic")) (λ e. omega arith)
    (λ e. pick_cases P (same w (bytes "aintc")) (λ e. omega arith) (λ e. pick_cases P (same w (bytes "indexed")) (λ e. omega arith) (λ e. omega arith)))))

-- ---- what a line says, by its words

worth_so : (w : List ℕ) → Fits w → worth_of w ≡ worth w
unfolding worth_of entered
worth_so w h = sym (pick_true _ h.0) ∙ omega (arith, h.1)

pub nothing_said : (kind : ℕ) (l : List ℕ) → nth_start (uncommented l) 0 ≡ length (uncommented l) → said_in kind l ≡ []
nothing_said kind l h = no_words kind l (ap (λ (s : Statement). s.words) ((Encode.kept).silent_line kind l h))

pub one-said : (kind first n later : ℕ) (l : List ℕ) → Stands l 0 → Opens kind l first n later → Numbered l n
    → length (uncommented l) ≤ nth_start (uncommented l) (n + 1) → said_in kind l ≡ (first ∷ list_of n (λ k. worth (nth_typed (uncommented l) (k + 1)))) ∷ []
unfolding said_in numbers_of values_in
one-said kind first n later l h o numbered m =
    let e : n + 1 - 1 ≡ n = omega arith in
    ap (λ (s : Statement). pick (eqb s.words 0) [] (numbers_of (uncommented l) s.first s.words ∷ [])) ((Encode.kept).taken kind first n later l h o numbered m)
    ∙ sym (pick-false _ (ne_eqb (n + 1) 0 (λ z. omega arith)))
    ∙ ap (λ (ns : List ℕ). ns ∷ []) (sym (pick-false _ (ne_eqb (n + 1) 0 (λ z. omega arith))))
    ∙ ap (λ (k : ℕ). (first ∷ values_in (uncommented l) k) ∷ []) e
    ∙ ap (λ (vs : List ℕ). (first ∷ vs) ∷ []) (list_of-same n _ _ (λ k q. worth_so (nth_typed (uncommented l) (k + 1)) (numbered k q)))
