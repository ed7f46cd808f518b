-- The promises of typed traces, kept.
use Prim.Native.Nat.{ℕ, suc, ◌+◌, ◌-◌, ◌/◌, ◌%◌, ◌^◌, ◌≤◌, ◌<◌}
use mathlib.Core.Path.{◌≡◌, refl, sym, ap, ◌∙◌}
use mathlib.Core.List.{List, [], ◌∷◌}
use mathlib.Core.Logic.{◌≢◌, inl, inr}
use native.Mathlib.Omega.{arith}
use lib.Dec.{eqb}
use lib.ListN.{length}
use borrow.Author.Tests.{eq-eqb, ne_eqb, lt-ltb, le-ltb}
use Rattle.words.specs.Choice.{pick}
use Rattle.words.proofs.ChoiceLaws.{pick_true, pick-false}
use Rattle.text.specs.Phrases.{bytes}
use Rattle.tables.specs.Typed.{nth_start, nth_typed}
use Rattle.kinds.specs.Kinds.{wanted}
use Rattle.trace.specs.Steps.{operands_of}
use Rattle.encode.specs.declared.statements.Statement.{Statement}
use Rattle.encode.specs.Bytes.{groups, bytes_of}
use Rattle.encode.specs.Words.{same, kind_of, step_of}
use Rattle.encode.specs.Statements.{uncommented, silent, astray, controller_by, step_by, by_opening, statement_of, bytes_in}
use Rattle.encode.proofs.ByteLaws.{groups_last, groups-more}
use Rattle.encode.proofs.NumberLaws.{words-none}
use Rattle.encode.specs.Encode.{room_for, line_of, ended_by, after, go_on, encoded_from, encoded}
use Rattle.encode.specs.Promises.{Misfits, Stands, Opens, Numbered, refused_by, Promises}
use Rattle.encode.proofs.LineLaws.{lines-ended, lines_open}
use Rattle.encode.proofs.StatementLaws as laws

-- ---- bytes

one : (m v : ℕ) → v < 128 → groups (suc m) v ≡ v ∷ []
one m v h = sym (groups_last (suc m) v (λ e. omega arith) h)

more : (m v : ℕ) (l : List ℕ) → 128 ≤ v → groups m (v / 128) ≡ l → groups (suc m) v ≡ (128 + v % 128) ∷ l
more m v l h e =
    let q : suc m - 1 ≡ m = omega arith in
    sym (groups-more (suc m) v (λ z. omega arith) h) ∙ ap (λ (k : ℕ). (128 + v % 128) ∷ groups k (v / 128)) q ∙ ap (λ (x : List ℕ). (128 + v % 128) ∷ x) e

two : (m v : ℕ) → 128 ≤ v → v < 16384 → groups (suc (suc m)) v ≡ (128 + v % 128) ∷ (v / 128) ∷ []
two m v a b = more (suc m) v _ a (one m (v / 128) (omega arith))

three : (m v : ℕ) → 16384 ≤ v → v < 2097152 → groups (suc (suc (suc m))) v ≡ (128 + v % 128) ∷ (128 + v / 128 % 128) ∷ (v / 128 / 128) ∷ []
three m v a b = more (suc (suc m)) v _ (omega arith) (two m (v / 128) (omega arith) (omega arith))

four : (m v : ℕ) → 2097152 ≤ v → v < 268435456
    → groups (suc (suc (suc (suc m)))) v ≡ (128 + v % 128) ∷ (128 + v / 128 % 128) ∷ (128 + v / 128 / 128 % 128) ∷ (v / 128 / 128 / 128) ∷ []
four m v a b = more (suc (suc (suc m))) v _ (omega arith) (three m (v / 128) (omega arith) (omega arith))

five : (v : ℕ) → 268435456 ≤ v → v < 2 ^ 32 → groups 5 v
    ≡ (128 + v % 128) ∷ (128 + v / 128 % 128) ∷ (128 + v / 128 / 128 % 128) ∷ (128 + v / 128 / 128 / 128 % 128) ∷ (v / 128 / 128 / 128 / 128) ∷ []
five v a b = more 4 v _ (omega arith) (four 0 (v / 128) (omega arith) (omega arith))

-- ---- lines

opened : (kind : ℕ) (l : List ℕ) → Stands l 0 → kind ≡ 5 → statement_of kind l ≡ by_opening (uncommented l) (controller_by (kind_of (nth_typed (uncommented l) 0)))
opened kind l h e = ap (λ (k : ℕ). statement_of k l) e ∙ laws.spoken 5 l h ∙ laws.by-controller l (nth_typed (uncommented l) 0)

stepped : (kind : ℕ) (l : List ℕ) → Stands l 0 → kind ≢ 5 → statement_of kind l ≡ by_opening (uncommented l) (step_by kind (step_of (nth_typed (uncommented l) 0)))
stepped kind l h n = laws.spoken kind l h ∙ laws.by-step kind l (nth_typed (uncommented l) 0) n

-- the same for whatever names the same
module _ (l : List ℕ) where
  abbrev word : List ℕ
  word = nth_typed (uncommented l) 0

  as-controller : (kind first : ℕ) → Stands l 0 → kind ≡ 5 → first ≡ kind_of word → statement_of kind l ≡ by_opening (uncommented l) (controller_by first)
  as-controller kind first h e f = opened kind l h e ∙ ap (λ (k : ℕ). by_opening (uncommented l) (controller_by k)) (sym f)

  as_step : (kind first : ℕ) → Stands l 0 → kind ≢ 5 → first ≡ step_of word → statement_of kind l ≡ by_opening (uncommented l) (step_by kind first)
  as_step kind first h n f = stepped kind l h n ∙ ap (λ (k : ℕ). by_opening (uncommented l) (step_by kind k)) (sym f)

number_expected : (kind first n later k : ℕ) (l : List ℕ) → Stands l 0 → Opens kind l first n later → k < n → Numbered l k
    → Misfits (nth_typed (uncommented l) (k + 1)) → statement_of kind l ≡ refused_by 3 (k + 2)
unfolding astray
number_expected kind first n later k l s (inl o) m h f =
    as-controller l kind first s o.0 o.1.0 ∙ laws.c_number l first o.1.1.0 k (omega (arith, o.1.1.1.0, m)) h f
number_expected kind first n later k l s (inr o) m h f =
    as_step l kind first s o.0 o.1.0 ∙ laws.s_number l kind first o.1.1.0 k (omega (arith, o.1.1.1.0, m)) h f

end_expected : (kind first n later : ℕ) (l : List ℕ) → Stands l 0 → Opens kind l first n later → Numbered l n → Stands l (n + 1)
    → statement_of kind l ≡ refused_by 4 (n + 2)
unfolding astray
end_expected kind first n later l s (inl o) h m =
    let e : n ≡ wanted first = o.1.1.1.0 in
    as-controller l kind first s o.0 o.1.0 ∙ rw e (laws.c-more l first o.1.1.0 (rw (← e) h) (rw (← e) m))
end_expected kind first n later l s (inr o) h m =
    let e : n ≡ operands_of (eqb kind 3) first = o.1.1.1.0 in
    as_step l kind first s o.0 o.1.0 ∙ rw e (laws.s-more l kind first o.1.1.0 (rw (← e) h) (rw (← e) m))

taken : (kind first n later : ℕ) (l : List ℕ) → Stands l 0 → Opens kind l first n later → Numbered l n
    → length (uncommented l) ≤ nth_start (uncommented l) (n + 1)
    → statement_of kind l ≡ record { expected = 0; word = 0; kind = later; first = first; words = n + 1; size = length (bytes_in l first (n + 1)) }
taken kind first n later l s (inl o) h m =
    let e : n ≡ wanted first = o.1.1.1.0 in
    let a : later ≡ first = o.1.1.1.1 in
    as-controller l kind first s o.0 o.1.0 ∙ rw (e, a) (laws.c-said l first o.1.1.0 (rw (← e) h) (rw (← e) m))
taken kind first n later l s (inr o) h m =
    let e : n ≡ operands_of (eqb kind 3) first = o.1.1.1.0 in
    let a : later ≡ kind = o.1.1.1.1 in
    as_step l kind first s o.0 o.1.0 ∙ rw (e, a) (laws.s-said l kind first o.1.1.0 (rw (← e) h) (rw (← e) m))

-- ---- texts

module _ (lines at kind size : ℕ) (l : List ℕ) (ls : List (List ℕ)) where
  by-line : (s : Statement) → s ≡ line_of (at + length l) kind size l
      → encoded_from lines at kind size (l ∷ ls) ≡ go_on (lines + 1) l s (encoded_from (lines + 1) (at + length l + 1) s.kind (size + s.size) ls)
  unfolding encoded_from
  by-line s e =
      ap (λ (x : Statement). go_on (lines + 1) l x (encoded_from (lines + 1) (at + length l + 1) x.kind (size + x.size) ls)) (sym e)

  text-too_long : 5242880 < at + length l → encoded_from lines at kind size (l ∷ ls) ≡ record { refusal = record { expected = 6; line = lines + 1; word = 0 }; bytes = [] }
  unfolding go_on astray pick
  text-too_long h = by-line (astray 6 0) over
    where
      over : astray 6 0 ≡ line_of (at + length l) kind size l
      over = unfold line_of in pick_true _ (lt-ltb 5242880 (at + length l) h)

  in_text : (s : Statement) → at + length l ≤ 5242880 → s ≡ room_for size (statement_of kind l) → s ≡ line_of (at + length l) kind size l
  unfolding line_of
  in_text s h e = e ∙ pick-false _ (le-ltb 5242880 (at + length l) h)

  trace-too_long : at + length l ≤ 5242880 → 65536 < size + (statement_of kind l).size
      → encoded_from lines at kind size (l ∷ ls) ≡ record { refusal = record { expected = 5; line = lines + 1; word = 0 }; bytes = [] }
  unfolding go_on astray pick
  trace-too_long h m = by-line (astray 5 0) (in_text (astray 5 0) h over)
    where
      over : astray 5 0 ≡ room_for size (statement_of kind l)
      over = unfold room_for in pick_true _ (lt-ltb 65536 (size + (statement_of kind l).size) m)

  in-room : at + length l ≤ 5242880 → size + (statement_of kind l).size ≤ 65536 → statement_of kind l ≡ line_of (at + length l) kind size l
  unfolding room_for
  in-room h m = in_text (statement_of kind l) h (pick-false _ (le-ltb 65536 (size + (statement_of kind l).size) m))

  line_refused : at + length l ≤ 5242880 → size + (statement_of kind l).size ≤ 65536 → (statement_of kind l).expected ≢ 0
      → encoded_from lines at kind size (l ∷ ls)
      ≡ record { refusal = record { expected = (statement_of kind l).expected; line = lines + 1; word = (statement_of kind l).word }; bytes = [] }
  unfolding go_on
  line_refused h m n = by-line (statement_of kind l) (in-room h m) ∙ sym (pick-false _ (ne_eqb (statement_of kind l).expected 0 n))

  line_taken : at + length l ≤ 5242880 → size + (statement_of kind l).size ≤ 65536 → (statement_of kind l).expected ≡ 0
      → encoded_from lines at kind size (l ∷ ls)
      ≡ after (bytes_in l (statement_of kind l).first (statement_of kind l).words)
      (encoded_from (lines + 1) (at + length l + 1) (statement_of kind l).kind (size + (statement_of kind l).size) ls)
  unfolding go_on
  line_taken h m e = by-line (statement_of kind l) (in-room h m) ∙ sym (pick_true _ (eq-eqb (statement_of kind l).expected 0 e))

ends-unnamed : (lines at size : ℕ) → encoded_from lines at 5 size [] ≡ record { refusal = record { expected = 1; line = lines; word = 1 }; bytes = [] }
unfolding encoded_from ended_by pick
ends-unnamed lines at size = refl

ends_named : (lines at kind size : ℕ) → kind ≢ 5 → encoded_from lines at kind size [] ≡ record { refusal = record { expected = 0; line = 0; word = 0 }; bytes = [] }
unfolding encoded_from ended_by pick
ends_named lines at kind size n = rw (ne_eqb kind 5 n)

silent-line : (kind : ℕ) (l : List ℕ) → nth_start (uncommented l) 0 ≡ length (uncommented l)
    → statement_of kind l ≡ record { expected = 0; word = 0; kind = kind; first = 0; words = 0; size = 0 }
unfolding silent
silent-line kind l h = laws.silent_so kind l h

silent-bytes : (l : List ℕ) (first : ℕ) → bytes_in l first 0 ≡ []
unfolding bytes_in
silent-bytes l first = sym (words-none (uncommented l) first 0 refl)

controller_expected : (l : List ℕ) → Stands l 0 → kind_of (nth_typed (uncommented l) 0) ≡ 5 → statement_of 5 l ≡ refused_by 1 1
unfolding astray
controller_expected l h e = as-controller l 5 5 h refl (sym e) ∙ laws.no-controller l

step_expected : (kind : ℕ) (l : List ℕ) → kind ≢ 5 → Stands l 0 → step_of (nth_typed (uncommented l) 0) ≡ 0 → statement_of kind l ≡ refused_by 2 1
unfolding astray
step_expected kind l n h e = as_step l kind 0 h n (sym e) ∙ laws.no_step kind l

-- the words by their letters
pub kept : Promises
unfolding kind_of step_of same bytes pick bytes_of encoded
kept =
    record {
      one_byte = one 4;
      two_bytes = two 3;
      three_bytes = three 2;
      four_bytes = four 1;
      five_bytes = five;
      no_bytes = refl;
      more_bytes = λ v vs. refl;
      line_ended = lines-ended;
      line_open = lines_open;
      comment_none = laws.comment-none;
      comment_gone = laws.comment-gone;
      aic_word = refl;
      core_word = refl;
      cic_word = refl;
      aintc_word = refl;
      indexed_word = refl;
      read_word = refl;
      write_word = refl;
      line_word = refl;
      silent_line = silent-line;
      silent_bytes = silent-bytes;
      controller_expected = controller_expected;
      step_expected = step_expected;
      number_expected = number_expected;
      end_expected = end_expected;
      taken = taken;
      bytes_said = laws.said_numbers;
      whole = λ s. refl;
      ends_unnamed = ends-unnamed;
      ends = ends_named;
      text_too_long = text-too_long;
      trace_too_long = trace-too_long;
      line_refused = line_refused;
      line_taken = line_taken;
    }
