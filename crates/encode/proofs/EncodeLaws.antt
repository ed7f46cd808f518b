-- A text line by line, as the code goes.
use Prim.Native.Nat.{ℕ, ◌+◌, ◌-◌, ◌≤◌, ◌<◌}
use mathlib.Core.Path.{◌≡◌, sym, ap, ◌∙◌}
use mathlib.Core.List.{List, []}
use mathlib.Core.Logic.{◌≢◌}
use native.Mathlib.Omega.{arith}
use native.Mathlib.Decide.{dec_lt}
use lib.ListN.{length}
use borrow.Author.Tests.{eq-eqb, ne_eqb, lt-ltb, le-ltb}
use Rattle.words.proofs.ChoiceLaws.{pick_true, pick-false}
use Rattle.encode.specs.declared.statements.Statement.{Statement}
use Rattle.encode.specs.Statements.{astray, statement_of, bytes_in}
use Rattle.encode.specs.Words.{no_kind}
use Rattle.encode.specs.Encode.{longest_text, longest_trace, a_shorter_trace, a_shorter_text, room_for, line_of, Encoding, refused_as, ended_by, after, go_on, encoded_from, encoded}
use Rattle.encode.proofs.LineLaws.{lines_at, lines-first, lines_none, end, line, line-length, lines_more}

-- ---- one line

pub room-over : (size : ℕ) (s r : Statement) → size ≤ longest_trace → longest_trace - size < s.size → r ≡ astray a_shorter_trace 0 → r ≡ room_for size s
unfolding room_for
room-over size s r l h g = g ∙ pick_true _ (lt-ltb longest_trace (size + s.size) (omega arith))

pub room-left : (size : ℕ) (s : Statement) → size ≤ longest_trace → s.size ≤ longest_trace - size → s ≡ room_for size s
unfolding room_for
room-left size s l h = pick-false _ (le-ltb longest_trace (size + s.size) (omega arith))

-- what is taken is within both limits
never : {A : Type 0} (e w : ℕ) → e ≢ 0 → (astray e w).expected ≡ 0 → A
unfolding astray
never e w n h = absurd (n h)

room_within : (size : ℕ) (s : Statement) → (room_for size s).expected ≡ 0 → size + (room_for size s).size ≤ longest_trace
unfolding room_for
room_within size s = go (dec_lt longest_trace (size + s.size))
  where
    go : Dec (longest_trace < size + s.size) → (room_for size s).expected ≡ 0 → size + (room_for size s).size ≤ longest_trace
    go (yes l) h =
        let q : astray a_shorter_trace 0 ≡ room_for size s = unfold room_for in pick_true _ (lt-ltb longest_trace (size + s.size) l) in
        never a_shorter_trace 0 (λ z. omega arith) (ap (λ (x : Statement). x.expected) q ∙ h)
    go (no l) h =
        let q : s ≡ room_for size s = unfold room_for in pick-false _ (le-ltb longest_trace (size + s.size) (omega arith)) in
        omega (arith, ap (λ (x : Statement). x.size) q)

module _ (stop kind size : ℕ) (l : List ℕ) (s : Statement) (e : s ≡ line_of stop kind size l) (h : s.expected ≡ 0) where
  pub stops-within : stop ≤ longest_text
  stops-within = go (dec_lt longest_text stop)
    where
      go : Dec (longest_text < stop) → stop ≤ longest_text
      go (yes m) =
          let q : astray a_shorter_text 0 ≡ line_of stop kind size l = unfold line_of in pick_true _ (lt-ltb longest_text stop m) in
          never a_shorter_text 0 (λ z. omega arith) (ap (λ (x : Statement). x.expected) (q ∙ sym e) ∙ h)
      go (no m) = omega arith

  taken : s ≡ room_for size (statement_of kind l)
  unfolding line_of
  taken = e ∙ sym (pick-false _ (le-ltb longest_text stop stops-within))

  pub size-within : size + s.size ≤ longest_trace
  size-within = rw taken (room_within size (statement_of kind l) (sym (ap (λ (x : Statement). x.expected) taken) ∙ h))

-- ---- all lines

-- what is left of a text from an offset on
abbrev pub left_of : List ℕ → ℕ → ℕ → ℕ → ℕ → Encoding
left_of t lines at kind size = encoded_from lines at kind size (lines_at t at)

pub left-first : (t : List ℕ) → left_of t 0 0 no_kind 0 ≡ encoded t
unfolding encoded
left-first t = ap (encoded_from 0 0 no_kind 0) (sym (lines-first t))

pub left-none : (t : List ℕ) (lines at kind size : ℕ) → length t < at → left_of t lines at kind size ≡ record { refusal = ended_by kind lines; bytes = [] }
unfolding encoded_from
left-none t lines at kind size h = ap (encoded_from lines at kind size) (lines_none t at h)

module _ (t : List ℕ) (lines at kind size stop : ℕ) (h : at ≤ length t) (p : stop ≡ end t at h) (s : Statement) (l : List ℕ) (q : l ≡ line t at h)
    (e : s ≡ line_of stop kind size l) where
  turn : left_of t lines at kind size ≡ go_on (lines + 1) l s (left_of t (lines + 1) (stop + 1) s.kind (size + s.size))
  unfolding encoded_from
  turn =
      ap (encoded_from lines at kind size) (lines_more t at h)
      ∙ rw (line-length t at h, e, q, p)

  pub left-refused : s.expected ≢ 0 → left_of t lines at kind size ≡ record { refusal = refused_as s.expected (lines + 1) s.word; bytes = [] }
  unfolding go_on
  left-refused n = turn ∙ sym (pick-false _ (ne_eqb s.expected 0 n))

  pub left-more : s.expected ≡ 0 → left_of t lines at kind size ≡ after (bytes_in l s.first s.words) (left_of t (lines + 1) (stop + 1) s.kind (size + s.size))
  unfolding go_on
  left-more z = turn ∙ sym (pick_true _ (eq-eqb s.expected 0 z))
