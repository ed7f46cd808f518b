-- Which line of the text an offset stands in, which number is over its limit, and the line that is told of it, as the code makes them.
use Prim.Native.Nat.{ℕ, ◌+◌, ◌-◌, ◌^◌, ◌≤◌, ◌<◌, min}
use mathlib.Core.Path.{◌≡◌, refl, sym, ap, ◌∙◌}
use mathlib.Core.Bool.{Bool, true, false, not, ◌&&◌}
use mathlib.Core.List.{List}
use mathlib.Core.Logic.{◌≢◌, ◌⊎◌, inl, inr}
use native.Mathlib.Numerals.{add-one}
use native.Mathlib.Omega.{arith}
use native.Mathlib.Decide.{dec_lt, ℕ_discrete}
use lib.Dec.{eqb, ltb}
use lib.ListN.{get_or, take, drop}
use borrow.Author.Tests.{eq-eqb, ne_eqb, lt-ltb, le-ltb}
use Rattle.std.specs.Prelude.{Some, None, Result, Ok, Err}
use Rattle.words.specs.Counting.{one, count_below}
use Rattle.words.proofs.ChoiceLaws.{pick_true, pick-false, pick_cases}
use Rattle.words.proofs.CountingLaws.{count_le, lowest_found, lowest-one}
use Rattle.words.proofs.TruthLaws.{told as told-so}
use Rattle.tables.specs.declared.Next.{Next}
use Rattle.tables.specs.Typed.{past_nth, nth_start, nth_typed}
use Rattle.tables.specs.Number.{is_number, worth}
use Rattle.tables.specs.Passes.{capped, read_word, values_of}
use Rattle.tables.specs.declared.Fault.{Fault}
use Rattle.tables.proofs.SeekLaws.{end_sought}
use Rattle.tables.proofs.ReadLaws.{NextIs, word_some, word_none, Test}
use Rattle.tables.specs.Slips.{line_of, told, limit_of, is_over, first_over, over_words, over_line, goes_over, over_in, line_over, expected_words, fault_line, slip_in}

-- ---- which line

pub feed_there : (s : List ℕ) (k b : ℕ) → b ≡ get_or s k 0 → b ≡ 10 → 1 ≡ one (eqb (get_or s k 0) 10)
feed_there s k b e f = ap one (sym (eq-eqb (get_or s k 0) 10 (sym e ∙ f)))

pub feed-none : (s : List ℕ) (k b : ℕ) → b ≡ get_or s k 0 → b ≢ 10 → 0 ≡ one (eqb (get_or s k 0) 10)
feed-none s k b e f = ap one (sym (ne_eqb (get_or s k 0) 10 (λ z. f (e ∙ z))))

pub line_first : (s : List ℕ) → 1 ≡ line_of s 0
unfolding line_of count_below
line_first s = refl

pub line-more : (s : List ℕ) (k x f : ℕ) → x ≡ line_of s k → f ≡ one (eqb (get_or s k 0) 10) → x + f ≡ line_of s (k + 1)
line-more s k x f e g = rw (e, g, add-one k) (unfold line_of count_below in omega arith)

pub line-most : (s : List ℕ) (k : ℕ) → line_of s k ≤ k + 1
unfolding line_of
line-most s k = omega (arith, count_le k (λ j. eqb (get_or s j 0) 10))

pub line-done : (s : List ℕ) (k at x : ℕ) → x ≡ line_of s k → k ≤ at → at ≤ k → x ≡ line_of s at
line-done s k at x e a b = let q : k ≡ at = omega arith in rw (← q) e

-- ---- which number is over its limit

limit-most : (n : ℕ) → limit_of n ≤ 65535
unfolding limit_of
limit-most n = pick_cases (λ m. m ≤ 65535) (eqb n 97) (λ e. omega arith) (λ e. pick_cases (λ m. m ≤ 65535) _ (λ f. omega arith) (λ f. pick_cases (λ m. m ≤ 65535) _ (λ g. omega arith) (λ g. omega arith)))

-- the cap on what is read changes nothing
over-capped : (n v : ℕ) → is_over n true (capped v) ≡ is_over n true v
unfolding is_over capped
over-capped n v = ap (λ (b : Bool). not (eqb n 96) && b) (go (dec_lt (limit_of n) v))
  where
    go : Dec (limit_of n < v) → ltb (limit_of n) (min v (2 ^ 32)) ≡ ltb (limit_of n) v
    go (yes l) = lt-ltb (limit_of n) (min v (2 ^ 32)) (omega (arith, limit-most n)) ∙ sym (lt-ltb (limit_of n) v l)
    go (no l) = le-ltb (limit_of n) (min v (2 ^ 32)) (omega arith) ∙ sym (le-ltb (limit_of n) v (omega arith))

abbrev pub Over : List ℕ → ℕ → Bool
Over s n = is_over n (is_number (nth_typed s n)) (worth (nth_typed s n))

pub next-over : (s : List ℕ) (n : ℕ) (x : Next) → NextIs s n x → goes_over n x.number ≡ Over s n
next-over s n x h = ap (goes_over n) h.number ∙ go (told-so (is_number (nth_typed s n)))
  where
    go : (is_number (nth_typed s n) ≡ true) ⊎ (is_number (nth_typed s n) ≡ false) → goes_over n (read_word (nth_typed s n)) ≡ Over s n
    go (inl e) = rw (word_some (nth_typed s n) e, e) (unfold goes_over in over-capped n (worth (nth_typed s n)))
    go (inr e) = rw (word_none (nth_typed s n) e, e) (unfold goes_over is_over in refl)

pub over-is : (s : List ℕ) (n : ℕ) → n ≤ 98 → ((k : ℕ) → k < n → Over s k ≡ false) → (n < 98 → Over s n ≡ true) → n ≡ first_over s
unfolding first_over
over-is s n l h f = lowest-one (Over s) 98 n _ (record { within = l; before = h; found = f }) (lowest_found 98 (Over s))

pub over_found : (s : List ℕ) (n : ℕ) → n < 98 → ((k : ℕ) → k < n → Over s k ≡ false) → Over s n ≡ true → Some n ≡ over_in s
unfolding over_in
over_found s n l h f = rw (← over-is s n (omega arith) h (λ m. f)) (pick-false _ (ne_eqb n 98 (omega arith)))

pub over_none : (s : List ℕ) → ((k : ℕ) → k < 98 → Over s k ≡ false) → None ≡ over_in s
unfolding over_in
over_none s h = pick_true _ (eq-eqb (first_over s) 98 (sym (over-is s 98 (omega arith) h (λ m. absurd (omega arith)))))

pub over-more : (s : List ℕ) (n : ℕ) → ((k : ℕ) → k < n → Over s k ≡ false) → Over s n ≡ false → (k : ℕ) → k < n + 1 → Over s k ≡ false
over-more s n h e k l = go (ℕ_discrete k n)
  where
    go : Dec (k ≡ n) → Over s k ≡ false
    go (yes q) = rw q e
    go (no d) = h k (omega arith)

-- ---- the line that is told

pub start-past : (c : List ℕ) (n : ℕ) → nth_start c n ≤ past_nth c (n + 1)
start-past c n = rw (add-one n) (unfold past_nth nth_start in (end_sought c _).from)

word-is : (c : List ℕ) (n start end : ℕ) → start ≡ nth_start c n → end ≡ past_nth c (n + 1) → take (end - start) (drop start c) ≡ nth_typed c n
word-is c n start end e f = rw (f, e, add-one n) (unfold nth_typed in refl)

pub fault-told : (s c : List ℕ) (n start b : ℕ) (t : Bool) → start ≡ nth_start c n → b ≡ get_or c start 0 → t ≡ is_number (nth_typed c n)
    → told s start (expected_words (eqb b 34) n t) ≡ fault_line s c n
unfolding fault_line
fault-told s c n start b t e f g = rw (g, f, e)

pub over-told : (s c : List ℕ) (n start end : ℕ) → start ≡ nth_start c n → end ≡ past_nth c (n + 1)
    → told s start (over_words n (take (end - start) (drop start c))) ≡ line_over s c (Some n)
unfolding line_over
over-told s c n start end e f = rw (word-is c n start end e f, e)

over-same : (s c : List ℕ) → line_over s c (over_in c) ≡ over_line s c (first_over c)
unfolding over_in over_line
over-same s c = go (told-so (eqb (first_over c) 98))
  where
    go : (eqb (first_over c) 98 ≡ true) ⊎ (eqb (first_over c) 98 ≡ false) → line_over s c (over_in c) ≡ over_line s c (first_over c)
    go (inl e) = ap (line_over s c) (sym (pick_true _ e)) ∙ unfold line_over in pick_true _ e
    go (inr e) = ap (line_over s c) (sym (pick-false _ e)) ∙ unfold line_over in pick-false _ e

-- what is told of the values, or of the fault
abbrev pub told_of : List ℕ → List ℕ → Result (List ℕ) Fault → List ℕ
told_of s c (Ok vs) = line_over s c (over_in c)
told_of s c (Err f) = fault_line s c f.count

pub slip-told : (s c : List ℕ) (v : Result (List ℕ) Fault) → v ≡ values_of c → told_of s c v ≡ slip_in s c
unfolding values_of slip_in
slip-told s c v e = ap (told_of s c) e ∙ go (told-so (Test c))
  where
    go : (Test c ≡ true) ⊎ (Test c ≡ false) → told_of s c (values_of c) ≡ slip_in s c
    go (inl t) = ap (told_of s c) (sym (pick_true _ t)) ∙ over-same s c ∙ pick_true _ t
    go (inr t) = ap (told_of s c) (sym (pick-false _ t)) ∙ pick-false _ t
