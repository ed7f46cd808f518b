-- The lines of a text, one after the other.
use Prim.Native.Nat.{ℕ, suc, ◌+◌, ◌-◌, ◌≤◌, ◌<◌}
use mathlib.Core.Path.{◌≡◌, refl, sym, ap, ap₂, ◌∙◌}
use mathlib.Core.Bool.{false}
use mathlib.Core.List.{List, [], ◌∷◌, ◌++◌, append-nil}
use native.Mathlib.Numerals.{add-one}
use native.Mathlib.Omega.{arith}
use native.Mathlib.Decide.{dec_lt}
use lib.Dec.{eqb, leb}
use lib.ListN.{length, get_or, take, drop, take-append-drop, drop_of_length-le}
use lib.Seq.{drop-cons, drop-drop, get_or-take, get_or-drop, length-take-le}
use lib.ListN.{length-drop}
use borrow.Author.Tests.{eq-eqb, ne_eqb, eqb-true, le-leb, lt-leb}
use Rattle.words.specs.Choice.{pick}
use Rattle.words.proofs.ChoiceLaws.{pick_true, pick-false}
use Rattle.words.proofs.TruthLaws.{clash}
use Rattle.tables.specs.Layout.{Without}
use Rattle.tables.proofs.SeekLaws.{Sought}
use Rattle.encode.specs.Statements.{place_from}
use Rattle.encode.proofs.PlaceLaws.{is, place_sought}
use Rattle.encode.specs.Encode.{on_first, lines_of}

-- ---- a line and those behind it

rest-without : (b x : ℕ) (l : List ℕ) → Without b (x ∷ l) → Without b l
rest-without b x l h k m = h (suc k) (omega arith)

pub lines-ended : (l rest : List ℕ) → Without 10 l → lines_of (l ++ (10 ∷ rest)) ≡ l ∷ lines_of rest
unfolding lines_of pick
lines-ended [] rest h = refl
lines-ended (b ∷ l) rest h =
    let e : eqb b 10 ≡ false = ne_eqb b 10 (h 0 (omega arith)) in
    sym (pick-false _ e) ∙ ap (on_first b) (lines-ended l rest (rest-without 10 b l h))

pub lines_open : (l : List ℕ) → Without 10 l → lines_of l ≡ l ∷ []
unfolding lines_of
lines_open [] h = refl
lines_open (b ∷ l) h =
    let e : eqb b 10 ≡ false = ne_eqb b 10 (h 0 (omega arith)) in
    sym (pick-false _ e) ∙ ap (on_first b) (lines_open l (rest-without 10 b l h))

-- ---- the lines from an offset on; none behind the end of the text

unfoldable pub lines_at : List ℕ → ℕ → List (List ℕ)
lines_at s at = pick (leb at (length s)) (lines_of (drop at s)) []

pub lines-first : (s : List ℕ) → lines_of s ≡ lines_at s 0
unfolding lines_at
lines-first s = pick_true _ (le-leb 0 (length s) (omega arith))

pub lines_none : (s : List ℕ) (at : ℕ) → length s < at → lines_at s at ≡ []
unfolding lines_at
lines_none s at h = sym (pick-false _ (lt-leb at (length s) h))

-- the line from an offset on ends before the first line feed, or with the text
module _ (s : List ℕ) (at : ℕ) (h : at ≤ length s) where
  abbrev pub end : ℕ
  end = place_from 10 s at

  abbrev pub line : List ℕ
  line = take (end - at) (drop at s)

  at_end : Sought (is 10) s at end
  at_end = place_sought 10 s at

  pub line-length : at + length line ≡ end
  line-length =
      let e : length line ≡ end - at = length-take-le (end - at) (drop at s) (omega (arith, length-drop at s, at_end.within, at_end.from)) in
      omega (arith, at_end.from)

  clear : Without 10 line
  clear k l e =
      let m : k < end - at = omega (arith, line-length, at_end.from) in
      let q : get_or line k 0 ≡ get_or s (at + k) 0 = get_or-take (end - at) (drop at s) k 0 m ∙ get_or-drop at s k 0 in
      clash (eq-eqb (get_or s (at + k) 0) 10 (sym q ∙ e)) (at_end.before (at + k) (omega arith) (omega arith))

  behind : drop (end - at) (drop at s) ≡ drop end s
  behind =
      let e : at + (end - at) ≡ end = omega (arith, at_end.from) in
      drop-drop (end - at) at s ∙ ap (λ (n : ℕ). drop n s) e

  ended : end < length s → lines_of (drop at s) ≡ line ∷ lines_of (drop (end + 1) s)
  ended l =
      let e : drop end s ≡ 10 ∷ drop (end + 1) s
      = drop-cons s end 0 l ∙ ap₂ (λ (x n : ℕ). x ∷ drop n s) (eqb-true (get_or s end 0) 10 (at_end.found l)) (sym (add-one end)) in
      ap lines_of (sym (take-append-drop (end - at) (drop at s)) ∙ ap (λ (x : List ℕ). line ++ x) (behind ∙ e)) ∙ lines-ended line (drop (end + 1) s) clear

  still : length s ≤ end → lines_of (drop at s) ≡ line ∷ []
  still l =
      ap lines_of (sym (take-append-drop (end - at) (drop at s)) ∙ ap (λ (x : List ℕ). line ++ x) (behind ∙ drop_of_length-le s l) ∙ append-nil line) ∙ lines_open line clear

  pub lines_more : lines_at s at ≡ line ∷ lines_at s (end + 1)
  lines_more = go (dec_lt end (length s))
    where
      here : lines_at s at ≡ lines_of (drop at s)
      here = unfold lines_at in sym (pick_true _ (le-leb at (length s) h))

      go : Dec (end < length s) → lines_at s at ≡ line ∷ lines_at s (end + 1)
      go (yes l) = here ∙ ended l ∙ ap (λ (x : List (List ℕ)). line ∷ x) (unfold lines_at in pick_true _ (le-leb (end + 1) (length s) (omega arith)))
      go (no l) = here ∙ still (omega arith) ∙ ap (λ (x : List (List ℕ)). line ∷ x) (sym (lines_none s (end + 1) (omega arith)))
