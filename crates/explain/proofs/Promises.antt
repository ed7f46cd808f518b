-- The promises of explained traces, kept.
use Prim.Native.Nat.{ℕ, ◌+◌, ◌-◌, ◌≤◌, ◌<◌}
use mathlib.Core.Path.{◌≡◌, refl, sym, ap, ◌∙◌}
use mathlib.Core.Bool.{Bool, true, false}
use mathlib.Core.List.{List, [], ◌∷◌, ◌++◌, append_assoc, append-nil}
use mathlib.Core.Logic.{◌↔◌, ◌≢◌}
use native.Mathlib.Omega.{arith}
use lib.Dec.{leb, ltb}
use lib.ListN.{length, replicate}
use borrow.Author.Tests.{eq-eqb, ne_eqb, lt-ltb, le-ltb, le-leb, leb-true, ltb-true}
use Rattle.words.specs.Choice.{pick}
use Rattle.words.proofs.ChoiceLaws.{pick_true, pick-false}
use Rattle.words.proofs.TruthLaws.{and_both, and_left, and_right}
use Rattle.steps.specs.declared.Recorded.{Recorded}
use Rattle.steps.specs.declared.Step.TheVariants.{Read, Write, Line}
use Rattle.text.specs.Text.{hex_digit, hex_of, hex, decimal_of, decimal, field}
use Rattle.text.specs.Phrases.{bytes, counted}
use Rattle.trace.specs.Promises.{made}
use Rattle.kinds.specs.Kinds.{by_kind, tells_privilege}
use Rattle.machine.specs.declared.record.Machine.{Machine}
use Rattle.machine.specs.declared.Answer.{Answer}
use Rattle.machine.specs.Steps.{step}
use Rattle.beginning.specs.Begin.{begin_of}
use Rattle.beginning.specs.Play.{records_of}
use Rattle.deeds.specs.Deeds.{deed_words, output_words}
use Rattle.explain.specs.declared.Window.{Window}
use Rattle.explain.specs.Stated as said
use Rattle.explain.specs.Stated.{offset_digits, hex_field, fields, kind_word, controller, privilege_field, stated, gap, to_column}
use Rattle.explain.specs.Explain as told-so
use Rattle.explain.specs.Explain.{commented, controller_line, reason_words, refused_words, value_words, access_words, did_words, step_words, step_line, end_reason, end_line}
use Rattle.explain.specs.Explain.{whole, window_of, shows, lines_from, end_of, text_from, head_of, explained_by, explained_of, explained_window}
use Rattle.explain.specs.Promises.{opened, Promises}
use Rattle.explain.proofs.SizeLaws.{records_fit, line-most, head-most, end-most, explained-most}

-- ---- statements

three : (v : ℕ) → v < 0x1000 → offset_digits v ≡ 3
unfolding offset_digits
three v h = sym (pick_true _ (lt-ltb v 0x1000 h))

regrouped : (h d v : List ℕ) → bytes "write" ++ (bytes " 0x" ++ h) ++ ((32 ∷ []) ++ d) ++ (bytes " 0x" ++ v) ≡ bytes "write 0x" ++ h ++ (32 ∷ []) ++ d ++ bytes " 0x" ++ v
unfolding bytes
regrouped h d v = simp append_assoc

module _ (offset v p : ℕ) (h : offset < 0x1000) where
  read-stated : stated false (made (Read offset) p) ≡ bytes "read 0x" ++ hex_of 3 offset
  unfolding stated said.read_stated hex_field privilege_field bytes pick
  read-stated = rw (three offset h, append-nil (hex_of 3 offset))

  write-stated : stated false (made (Write offset v) p) ≡ bytes "write 0x" ++ hex_of 3 offset ++ bytes " 0x" ++ hex v
  unfolding stated said.write_stated hex_field privilege_field bytes pick
  write-stated = rw (three offset h, append-nil (hex_of 3 offset)) (simp append_assoc)

  read_told : stated true (made (Read offset) p) ≡ bytes "read 0x" ++ hex_of 3 offset ++ (32 ∷ []) ++ decimal p
  unfolding stated said.read_stated hex_field privilege_field bytes pick field
  read_told = rw (three offset h) (simp append_assoc)

  write-told : stated true (made (Write offset v) p) ≡ bytes "write 0x" ++ hex_of 3 offset ++ (32 ∷ []) ++ decimal p ++ bytes " 0x" ++ hex v
  unfolding stated said.write_stated hex_field privilege_field bytes pick field
  write-told = rw (three offset h) (regrouped (hex_of 3 offset) (decimal p) (hex v))

line-stated : (told : Bool) (line level p : ℕ) → stated told (made (Line line level) p) ≡ bytes "line " ++ decimal line ++ (32 ∷ []) ++ decimal level
unfolding stated said.line_stated bytes field
line-stated told line level p = simp append_assoc

column_so : (l : List ℕ) → length l < 28 → to_column l ≡ l ++ replicate (28 - length l) 32
unfolding to_column gap
column_so l h = ap (λ (n : ℕ). l ++ replicate n 32) (sym (pick_true _ (lt-ltb (length l) 28 h)))

no-column : (l : List ℕ) → 28 ≤ length l → to_column l ≡ l ++ (32 ∷ [])
unfolding to_column gap
no-column l h = ap (λ (n : ℕ). l ++ replicate n 32) (sym (pick-false _ (le-ltb (length l) 28 h)))

-- ---- lines

module _ (told : Bool) (n : ℕ) (m : Machine) (x : Recorded) (a : Answer) where
  line_of : (l : List ℕ) → l ≡ did_words m x a → step_line told n m x a ≡ opened told n m x ++ l ++ (10 ∷ [])
  unfolding step_line commented step_words
  line_of l e = rw e (simp append_assoc)

  line_did : a.refusal ≡ 0 → step_line told n m x a
      ≡ opened told n m x ++ (access_words m x a.value x.step ++ deed_words m x a.machine ++ output_words m a.machine) ++ (10 ∷ [])
  unfolding did_words
  line_did e = line_of _ (pick_true _ (eq-eqb a.refusal 0 e))

  line_refused : a.refusal ≢ 0
      → step_line told n m x a ≡ opened told n m x ++ (bytes " refused by " ++ decimal a.refusal ++ bytes ": " ++ reason_words m x a.refusal) ++ (10 ∷ [])
  unfolding did_words refused_words counted
  line_refused e = line_of _ (pick-false _ (ne_eqb a.refusal 0 e))

-- ---- texts

module _ (s : List ℕ) (limit : ℕ) where
  starts : (w : Window) → (begin_of s).refusal ≡ 0
      → explained_by w s limit
      ≡ head_of w s (begin_of s).machine.kind
      ++ (lines_from w (tells_privilege (begin_of s).machine.kind) 0 (begin_of s).machine (records_of s limit).steps ++ end_of w (records_of s limit).refusal (records_of s limit).offset)
  unfolding explained_by told-so.started_text text_from
  starts w e = sym (pick_true _ (eq-eqb (begin_of s).refusal 0 e))

  none : (w : Window) → (begin_of s).refusal ≢ 0 → explained_by w s limit ≡ end_of w (begin_of s).refusal (begin_of s).place
  unfolding explained_by
  none w e = sym (pick-false _ (ne_eqb (begin_of s).refusal 0 e))

  well : (begin_of s).refusal ≡ 0 → (records_of s limit).refusal ≡ 0
      → explained_of s limit ≡ controller_line s (begin_of s).machine.kind
      ++ (lines_from whole (tells_privilege (begin_of s).machine.kind) 0 (begin_of s).machine (records_of s limit).steps ++ [])
  unfolding head_of end_of pick
  well e f = starts whole e ∙ rw (eq-eqb (records_of s limit).refusal 0 f)

  ill : (begin_of s).refusal ≡ 0 → (records_of s limit).refusal ≢ 0
      → explained_of s limit ≡ controller_line s (begin_of s).machine.kind
      ++ (lines_from whole (tells_privilege (begin_of s).machine.kind) 0 (begin_of s).machine (records_of s limit).steps
      ++ end_line (records_of s limit).refusal (records_of s limit).offset)
  unfolding head_of end_of pick
  ill e f = starts whole e ∙ rw (ne_eqb (records_of s limit).refusal 0 f)

  refused : (begin_of s).refusal ≢ 0 → explained_of s limit ≡ end_line (begin_of s).refusal (begin_of s).place
  unfolding end_of pick
  refused e = none whole e ∙ rw (ne_eqb (begin_of s).refusal 0 e)

  windowed : (first steps : ℕ) → (begin_of s).refusal ≡ 0
      → explained_window s limit first steps
      ≡ lines_from (window_of first steps) (tells_privilege (begin_of s).machine.kind) 0 (begin_of s).machine (records_of s limit).steps
  unfolding head_of end_of pick
  windowed first steps e = starts (window_of first steps) e ∙ append-nil _

  window-none : (first steps : ℕ) → (begin_of s).refusal ≢ 0 → explained_window s limit first steps ≡ []
  unfolding end_of pick
  window-none first steps e = none (window_of first steps) e

in_window : (first steps n : ℕ) → (shows (window_of first steps) n ≡ true) ↔ ((first ≤ n) × (n < first + steps))
unfolding shows
in_window first steps n = (
  λ e. (leb-true first n (and_left (leb first n) (ltb n (first + steps)) e), ltb-true n (first + steps) (and_right (leb first n) (ltb n (first + steps)) e)),
  λ h. and_both (le-leb first n h.0) (lt-ltb n (first + steps) h.1),
)

module _ (w : Window) (told : Bool) (n : ℕ) (m : Machine) (x : Recorded) (xs : List Recorded) where
  shown : shows w (n + 1) ≡ true → lines_from w told n m (x ∷ xs) ≡ step_line told (n + 1) m x (step m x) ++ lines_from w told (n + 1) (step m x).machine xs
  unfolding lines_from
  shown e = ap (λ (l : List ℕ). l ++ lines_from w told (n + 1) (step m x).machine xs) (sym (pick_true _ e))

  passed : shows w (n + 1) ≡ false → lines_from w told n m (x ∷ xs) ≡ lines_from w told (n + 1) (step m x).machine xs
  unfolding lines_from
  passed e = ap (λ (l : List ℕ). l ++ lines_from w told (n + 1) (step m x).machine xs) (sym (pick-false _ e))

whole-shows : (n : ℕ) → shows whole n ≡ true
unfolding shows
whole-shows n = refl

-- ---- sizes

within : (w : Window) (s : List ℕ) → length (explained_by w s 20000) ≤ 5242880
within w s = omega (arith, explained-most w s 20000 (omega arith))

pub kept : Promises
unfolding stated said.read_stated controller kind_word fields field hex_field offset_digits privilege_field hex_of hex_digit decimal_of by_kind reason_words end_line end_reason bytes pick value_words controller_line commented lines_from
kept =
    record {
      read_stated = λ offset p h. read-stated offset 0 p h;
      write_stated = write-stated;
      read_told = λ offset p h. read_told offset 0 p h;
      write_told = write-told;
      line_stated = line-stated;
      four_digits = refl;
      eight_digits = refl;
      aic_stated = refl;
      core_stated = refl;
      cic_stated = refl;
      aintc_stated = refl;
      indexed_stated = refl;
      column = column_so;
      no_column = no-column;
      read_line = λ told n offset p m a e. line_did told n m (made (Read offset) p) a e;
      write_line = λ told n offset v p m a e. line_did told n m (made (Write offset v) p) a e;
      line_line = λ told n line level p m a e. line_did told n m (made (Line line level) p) a e;
      refused_line = line_refused;
      by_one = λ m x. refl;
      by_two = λ m x. refl;
      by_three = λ m x. refl;
      by_four = λ m x. refl;
      by_six = λ m x. refl;
      by_thirteen = λ m x. refl;
      started_text = well;
      ended_text = ill;
      head_line = λ s kind. refl;
      no_lines = λ told n m. refl;
      more_lines = λ told n m x xs. shown whole told n m x xs (whole-shows (n + 1));
      refused_text = refused;
      seven_line = λ offset. simp append_assoc;
      eight_line = λ offset. simp append_assoc;
      nine_line = λ offset. simp append_assoc;
      ten_line = λ offset. simp append_assoc;
      eleven_line = λ offset. simp append_assoc;
      window_text = λ s limit first steps e. windowed s limit first steps e;
      window_refused = λ s limit first steps e. window-none s limit first steps e;
      in_window = in_window;
      window_shown = λ first steps. shown (window_of first steps);
      window_passed = λ first steps. passed (window_of first steps);
      numbers_fit = λ s limit. records_fit limit s (begin_of s);
      line_most = line-most;
      head_most = head-most;
      end_most = end-most;
      most = within whole;
      window_most = λ s first steps. within (window_of first steps) s;
    }
