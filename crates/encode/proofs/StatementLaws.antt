-- What the statement of a line is where its words are known.
use Prim.Native.Nat.{ℕ, suc, ◌+◌, ◌-◌, ◌^◌, ◌≤◌, ◌<◌}
use mathlib.Core.Path.{◌≡◌, refl, sym, ap, ◌∙◌}
use mathlib.Core.Bool.{Bool, true, false, ◌&&◌}
use mathlib.Core.List.{List, ◌∷◌, ◌++◌}
use mathlib.Core.Logic.{◌≢◌, inl, inr}
use native.Mathlib.Omega.{arith}
use lib.Dec.{eqb, ltb}
use lib.ListN.{length, get_or, take, length-append, get_or-append}
use lib.Seq.{take-append_seam, take_all, get_or_at}
use borrow.Author.Tests.{eq-eqb, ne_eqb, lt-ltb, le-ltb}
use Rattle.words.specs.Choice.{pick}
use Rattle.words.proofs.ChoiceLaws.{pick_true, pick-false}
use Rattle.words.proofs.TruthLaws.{and_both}
use Rattle.kinds.specs.Kinds.{wanted}
use Rattle.trace.specs.Steps.{operands_of}
use Rattle.tables.specs.Typed.{nth_start, nth_typed}
use Rattle.tables.specs.Number.{is_number, worth}
use Rattle.tables.specs.Layout.{Without}
use Rattle.tables.specs.Reading.{entered, list_of}
use Rattle.tables.proofs.SeekLaws.{Sought}
use Rattle.tables.proofs.FillLaws.{list_of-same}
use Rattle.encode.specs.declared.statements.Statement.{Statement}
use Rattle.encode.specs.Bytes.{shortest, bytes_of}
use Rattle.encode.specs.Words.{kind_of, step_of}
use Rattle.encode.specs.Statements.{uncommented, fitting, worth_of, values_in, fitting_in, a_number, the_line_end, silent, astray, controller_by, step_by, opening_of, by_numbers, by_opening, statement_in, statement_of, bytes_in}
use Rattle.encode.proofs.PlaceLaws.{is, place_is}
use Rattle.encode.proofs.NumberLaws.{Fitting, fitting-is, words-some}
use Rattle.encode.specs.Promises.{Fits, Misfits, Stands, Numbered}

-- ---- comments

pub comment-none : (l : List ℕ) → Without 35 l → uncommented l ≡ l
unfolding uncommented
comment-none l h =
    let s : Sought (is 35) l 0 (length l)
    = record { from = omega arith; within = omega arith; before = λ j a b. ne_eqb (get_or l j 0) 35 (h j b); found = λ b. absurd (omega arith) } in
    ap (λ (n : ℕ). take n l) (sym (place_is 35 l 0 (length l) s)) ∙ take_all (length l) l (omega arith)

pub comment-gone : (l c : List ℕ) → Without 35 l → uncommented (l ++ (35 ∷ c)) ≡ l
unfolding uncommented
comment-gone l c h =
    let n : length (l ++ (35 ∷ c)) ≡ length l + suc (length c) = length-append l (35 ∷ c) in
    let s : Sought (is 35) (l ++ (35 ∷ c)) 0 (length l)
    = record {
      from = omega arith;
      within = omega (arith, n);
      before = λ j a b. ne_eqb (get_or (l ++ (35 ∷ c)) j 0) 35 (λ e. h j b (sym (get_or-append l (35 ∷ c) 0 j b) ∙ e));
      found = λ b. eq-eqb (get_or (l ++ (35 ∷ c)) (length l) 0) 35 (get_or_at l 35 c 0 (length l) refl);
    } in
    ap (λ (k : ℕ). take k (l ++ (35 ∷ c))) (sym (place_is 35 (l ++ (35 ∷ c)) 0 (length l) s)) ∙ take-append_seam l (35 ∷ c)

-- ---- words that are numbers

pub fits_so : (w : List ℕ) → Fits w → fitting w ≡ true
unfolding fitting
fits_so w h = and_both h.0 (lt-ltb (worth w) (2 ^ 32) h.1)

and-false : (t : Bool) → (t && false) ≡ false
and-false true = refl
and-false false = refl

pub misfits_so : (w : List ℕ) → Misfits w → fitting w ≡ false
unfolding fitting
misfits_so w (inl e) = ap (λ (t : Bool). t && ltb (worth w) (2 ^ 32)) e
misfits_so w (inr h) = ap (λ (t : Bool). is_number w && t) (le-ltb (worth w) (2 ^ 32) h) ∙ and-false (is_number w)

numbered : (l : List ℕ) (n : ℕ) → Numbered l n → Fitting (uncommented l) n
numbered l n h j m = fits_so (nth_typed (uncommented l) (j + 1)) (h j m)

pub all_so : (l : List ℕ) (n : ℕ) → Numbered l n → n ≡ fitting_in (uncommented l) n
all_so l n h = fitting-is (uncommented l) n n (omega arith) (numbered l n h) (λ m. absurd (omega arith))

pub first_so : (l : List ℕ) (n k : ℕ) → k < n → Numbered l k → Misfits (nth_typed (uncommented l) (k + 1)) → k ≡ fitting_in (uncommented l) n
first_so l n k m h f = fitting-is (uncommented l) n k (omega arith) (numbered l k h) (λ q. misfits_so (nth_typed (uncommented l) (k + 1)) f)

-- ---- lines with and without a word

pub silent_so : (kind : ℕ) (l : List ℕ) → nth_start (uncommented l) 0 ≡ length (uncommented l) → statement_of kind l ≡ silent kind
unfolding statement_of statement_in
silent_so kind l h = sym (pick_true _ (eq-eqb (nth_start (uncommented l) 0) (length (uncommented l)) h))

-- ---- bytes

pub said-bytes : (l : List ℕ) (first n : ℕ) → shortest first ++ bytes_of (values_in (uncommented l) n) ≡ bytes_in l first (n + 1)
unfolding bytes_in
said-bytes l first n =
    let e : n ≡ n + 1 - 1 = omega arith in
    ap (λ (k : ℕ). shortest first ++ bytes_of (values_in (uncommented l) k)) e ∙ words-some (uncommented l) first (n + 1) (λ z. omega arith)

pub said-size : (l : List ℕ) (first n : ℕ) → length (shortest first) + length (bytes_of (values_in (uncommented l) n)) ≡ length (bytes_in l first (n + 1))
said-size l first n = sym (length-append (shortest first) (bytes_of (values_in (uncommented l) n))) ∙ ap length (said-bytes l first n)

worth_so : (w : List ℕ) → Fits w → worth_of w ≡ worth w
unfolding worth_of entered
worth_so w h = sym (pick_true _ h.0) ∙ omega (arith, h.1)

pub said_numbers : (l : List ℕ) (first n : ℕ) → Numbered l n
    → bytes_in l first (n + 1) ≡ bytes_of (first ∷ list_of n (λ k. worth (nth_typed (uncommented l) (k + 1))))
unfolding values_in bytes_of
said_numbers l first n h =
    sym (said-bytes l first n)
    ∙ ap (λ (vs : List ℕ). shortest first ++ bytes_of vs)
    (list_of-same n (λ k. worth_of (nth_typed (uncommented l) (k + 1))) (λ k. worth (nth_typed (uncommented l) (k + 1))) (λ k m. worth_so (nth_typed (uncommented l) (k + 1)) (h k m)))

-- ---- the first word

pub spoken : (kind : ℕ) (l : List ℕ) → Stands l 0 → statement_of kind l ≡ by_opening (uncommented l) (opening_of kind (nth_typed (uncommented l) 0))
unfolding statement_of statement_in
spoken kind l h = sym (pick-false _ (ne_eqb (nth_start (uncommented l) 0) (length (uncommented l)) (λ e. omega (arith, h, e))))

pub by-controller : (l w : List ℕ) → by_opening (uncommented l) (opening_of 5 w) ≡ by_opening (uncommented l) (controller_by (kind_of w))
unfolding opening_of pick
by-controller l w = refl

pub by-step : (kind : ℕ) (l w : List ℕ) → kind ≢ 5 → by_opening (uncommented l) (opening_of kind w) ≡ by_opening (uncommented l) (step_by kind (step_of w))
unfolding opening_of
by-step kind l w n = ap (by_opening (uncommented l)) (sym (pick-false _ (ne_eqb kind 5 n)))

pub no-controller : (l : List ℕ) → by_opening (uncommented l) (controller_by 5) ≡ astray 1 1
unfolding by_opening controller_by pick
no-controller l = refl

pub no_step : (kind : ℕ) (l : List ℕ) → by_opening (uncommented l) (step_by kind 0) ≡ astray 2 1
unfolding by_opening step_by pick
no_step kind l = refl

-- nothing else is expected of a word that is known
zero_so : (t : Bool) (e : ℕ) → t ≡ false → eqb (pick t e 0) 0 ≡ true
unfolding pick
zero_so t e h = rw h

abbrev pub said : ℕ → ℕ → ℕ → ℕ → Statement
said kind first n size = record { expected = 0; word = 0; kind = kind; first = first; words = n + 1; size = size }

-- ---- controllers

module _ (l : List ℕ) (first : ℕ) (ne : first ≢ 5) where
  c-opened : by_opening (uncommented l) (controller_by first) ≡ by_numbers (uncommented l) (controller_by first)
  unfolding by_opening controller_by
  c-opened = sym (pick_true _ (zero_so (eqb first 5) 1 (ne_eqb first 5 ne)))

  pub c_number : (k : ℕ) → k < wanted first → Numbered l k → Misfits (nth_typed (uncommented l) (k + 1)) → by_opening (uncommented l) (controller_by first) ≡ astray a_number (k + 2)
  unfolding by_numbers controller_by
  c_number k m h f =
      let e = first_so l (wanted first) k m h f in
      c-opened ∙ sym (ap (λ (j : ℕ). astray a_number (j + 2)) e ∙ pick_true _ (lt-ltb (fitting_in (uncommented l) (wanted first)) (wanted first) (omega (arith, e, m))))

  c-all : Numbered l (wanted first) → ltb (fitting_in (uncommented l) (wanted first)) (wanted first) ≡ false
  c-all h = le-ltb (fitting_in (uncommented l) (wanted first)) (wanted first) (omega (arith, all_so l (wanted first) h))

  pub c-more : Numbered l (wanted first) → Stands l (wanted first + 1) → by_opening (uncommented l) (controller_by first) ≡ astray the_line_end (wanted first + 2)
  unfolding by_numbers controller_by
  c-more h m =
      c-opened ∙ sym (pick_true _ (lt-ltb (nth_start (uncommented l) (wanted first + 1)) (length (uncommented l)) m) ∙ pick-false _ (c-all h))

  pub c-said : Numbered l (wanted first) → length (uncommented l) ≤ nth_start (uncommented l) (wanted first + 1)
      → by_opening (uncommented l) (controller_by first) ≡ said (first) (first) (wanted first) (length (bytes_in l (first) (wanted first + 1)))
  unfolding by_numbers controller_by
  c-said h m =
      c-opened
      ∙ sym (pick-false _ (le-ltb (nth_start (uncommented l) (wanted first + 1)) (length (uncommented l)) m) ∙ pick-false _ (c-all h))
      ∙ ap (said (first) (first) (wanted first)) (said-size l (first) (wanted first))

-- ---- steps

module _ (l : List ℕ) (kind step : ℕ) (ne : step ≢ 0) where
  s-opened : by_opening (uncommented l) (step_by kind step) ≡ by_numbers (uncommented l) (step_by kind step)
  unfolding by_opening step_by
  s-opened = sym (pick_true _ (zero_so (eqb step 0) 2 (ne_eqb step 0 ne)))

  pub s_number : (k : ℕ) → k < operands_of (eqb kind 3) step → Numbered l k → Misfits (nth_typed (uncommented l) (k + 1)) → by_opening (uncommented l) (step_by kind step) ≡ astray a_number (k + 2)
  unfolding by_numbers step_by
  s_number k m h f =
      let e = first_so l (operands_of (eqb kind 3) step) k m h f in
      s-opened ∙ sym (ap (λ (j : ℕ). astray a_number (j + 2)) e ∙ pick_true _ (lt-ltb (fitting_in (uncommented l) (operands_of (eqb kind 3) step)) (operands_of (eqb kind 3) step) (omega (arith, e, m))))

  s-all : Numbered l (operands_of (eqb kind 3) step) → ltb (fitting_in (uncommented l) (operands_of (eqb kind 3) step)) (operands_of (eqb kind 3) step) ≡ false
  s-all h = le-ltb (fitting_in (uncommented l) (operands_of (eqb kind 3) step)) (operands_of (eqb kind 3) step) (omega (arith, all_so l (operands_of (eqb kind 3) step) h))

  pub s-more : Numbered l (operands_of (eqb kind 3) step) → Stands l (operands_of (eqb kind 3) step + 1) → by_opening (uncommented l) (step_by kind step) ≡ astray the_line_end (operands_of (eqb kind 3) step + 2)
  unfolding by_numbers step_by
  s-more h m =
      s-opened ∙ sym (pick_true _ (lt-ltb (nth_start (uncommented l) (operands_of (eqb kind 3) step + 1)) (length (uncommented l)) m) ∙ pick-false _ (s-all h))

  pub s-said : Numbered l (operands_of (eqb kind 3) step) → length (uncommented l) ≤ nth_start (uncommented l) (operands_of (eqb kind 3) step + 1)
      → by_opening (uncommented l) (step_by kind step) ≡ said (kind) (step) (operands_of (eqb kind 3) step) (length (bytes_in l (step) (operands_of (eqb kind 3) step + 1)))
  unfolding by_numbers step_by
  s-said h m =
      s-opened
      ∙ sym (pick-false _ (le-ltb (nth_start (uncommented l) (operands_of (eqb kind 3) step + 1)) (length (uncommented l)) m) ∙ pick-false _ (s-all h))
      ∙ ap (said (kind) (step) (operands_of (eqb kind 3) step)) (said-size l (step) (operands_of (eqb kind 3) step))
