-- The promises of the line that leads to a slip, kept.
use Prim.Native.Nat.{ℕ, suc, ◌+◌, ◌*◌, ◌/◌, ◌%◌, ◌≤◌, ◌<◌}
use mathlib.Core.Path.{◌≡◌, refl, sym, ap, ◌∙◌, subst}
use mathlib.Core.Bool.{Bool, true, false, not, ◌&&◌}
use mathlib.Core.List.{List, [], ◌∷◌, ◌++◌}
use mathlib.Core.Logic.{◌≢◌, ◌⊎◌, inl, inr}
use native.Mathlib.Omega.{arith}
use native.Mathlib.Decide.{dec_lt, ℕ_discrete}
use lib.Dec.{eqb}
use lib.ListN.{length, get_or, take, length-append}
use lib.Seq.{length-take-le}
use borrow.Author.Tests.{eq-eqb, ne_eqb, eqb-false, lt-ltb, le-ltb, ltb-true, le-leb, lt-leb, not-true}
use Rattle.words.specs.Choice.{pick}
use Rattle.words.specs.Counting.{count_below}
use Rattle.words.proofs.ChoiceLaws.{pick_true, pick-false}
use Rattle.words.proofs.CountingLaws.{lowest_found}
use Rattle.words.proofs.TruthLaws.{and_left, and_right, and_both, clash, not-holds, told as told-so}
use Rattle.steps.specs.Refusals.{damaged}
use Rattle.text.specs.Text.{decimal}
use Rattle.text.proofs.DigitLaws.{length-below}
use Rattle.text.specs.Phrases.{bytes, counted}
use Rattle.tables.specs.declared.Reading.{Reading}
use Rattle.tables.specs.Typed.{nth_start, nth_typed}
use Rattle.tables.specs.Number.{is_number, worth}
use Rattle.tables.specs.Names.{cleared}
use Rattle.tables.specs.Reading.{first_fault, read_table, read_bare, refused_at, taken}
use Rattle.tables.specs.Facts.{Whole, TooLarge}
use Rattle.tables.proofs.SeekLaws.{nth-within}
use Rattle.tables.proofs.NameLaws.{length-cleared}
use Rattle.tables.proofs.ReadLaws.{not_long}
use Rattle.tables.proofs.RefusalLaws.{read, eleven}
use Rattle.tables.specs.Slips.{line_of, told, limit_of, is_over, first_over, shortened, between, over_words, over_line, expected_words, fault_line, slip_in, slip_line}
use Rattle.tables.specs.SlipsPromises.{OverAt, Promises}
use Rattle.tables.proofs.SlipLaws.{line-most, Over, over-is}

-- ---- which line

told_is : (s : List ℕ) (at : ℕ) (what : List ℕ) → told s at what ≡ bytes "line " ++ decimal (line_of s at) ++ bytes ": " ++ what ++ (10 ∷ [])
unfolding told counted
told_is s at what = refl

line_first : (s : List ℕ) → line_of s 0 ≡ 1
unfolding line_of count_below
line_first s = refl

line_next : (s : List ℕ) (at : ℕ) → get_or s at 0 ≡ 10 → line_of s (suc at) ≡ line_of s at + 1
unfolding line_of count_below
line_next s at e = rw (eq-eqb (get_or s at 0) 10 e) (omega arith)

line_same : (s : List ℕ) (at : ℕ) → get_or s at 0 ≢ 10 → line_of s (suc at) ≡ line_of s at
unfolding line_of count_below
line_same s at d = rw (ne_eqb (get_or s at 0) 10 d) (omega arith)

-- ---- what it says

expected-name : (n : ℕ) (b : Bool) → expected_words true n b ≡ bytes "a name has 1 to 24 characters and stands behind a source's three numbers"
unfolding expected_words pick
expected-name n b = refl

expected_end : (b : Bool) → expected_words false 98 b ≡ bytes "nothing may follow the mark's frame"
unfolding expected_words pick
expected_end b = refl

expected_bits : (n : ℕ) → n < 98 → expected_words false n true ≡ bytes "the word of forced sources has more than 32 bits"
unfolding expected_words pick
expected_bits n l = rw (ne_eqb n 98 (λ e. omega arith))

expected_number : (n : ℕ) → n < 98 → expected_words false n false ≡ bytes "a number was expected"
unfolding expected_words pick
expected_number n l = rw (ne_eqb n 98 (λ e. omega arith))

module _ (i : ℕ) (l : i < 32) where
  first : (eqb (3 * i) 97 ≡ false) × (eqb (3 * i % 3) 0 ≡ true)
  first = (ne_eqb (3 * i) 97 (λ e. omega arith), eq-eqb (3 * i % 3) 0 (omega arith))

  second : (eqb (3 * i + 1) 97 ≡ false) × (eqb ((3 * i + 1) % 3) 0 ≡ false) × (eqb ((3 * i + 1) % 3) 1 ≡ true)
  second = (ne_eqb (3 * i + 1) 97 (λ e. omega arith), ne_eqb ((3 * i + 1) % 3) 0 (λ e. omega arith), eq-eqb ((3 * i + 1) % 3) 1 (omega arith))

  third : (eqb (3 * i + 2) 97 ≡ false) × (eqb ((3 * i + 2) % 3) 0 ≡ false) × (eqb ((3 * i + 2) % 3) 1 ≡ false)
  third = (ne_eqb (3 * i + 2) 97 (λ e. omega arith), ne_eqb ((3 * i + 2) % 3) 0 (λ e. omega arith), ne_eqb ((3 * i + 2) % 3) 1 (λ e. omega arith))

  limits : (limit_of (3 * i) ≡ 7) × (limit_of (3 * i + 1) ≡ 3) × (limit_of (3 * i + 2) ≡ 65535) × (limit_of 97 ≡ 65535)
  unfolding limit_of pick
  limits = (rw (first.0, first.1), rw (second.0, second.1, second.2), rw (third.0, third.1, third.2), refl)

  over-priority : (w : List ℕ) → over_words (3 * i) w ≡ bytes "priority " ++ shortened w ++ bytes " is over 7"
  unfolding over_words between pick
  over-priority w = rw (first.0, first.1)

  over_type : (w : List ℕ) → over_words (3 * i + 1) w ≡ bytes "type " ++ shortened w ++ bytes " is over 3"
  unfolding over_words between pick
  over_type w = rw (second.0, second.1, second.2)

  over-frame : (w : List ℕ) → over_words (3 * i + 2) w ≡ bytes "frame " ++ shortened w ++ bytes " is over 65535"
  unfolding over_words between pick
  over-frame w = rw (third.0, third.1, third.2)

over-mark : (w : List ℕ) → over_words 97 w ≡ bytes "frame " ++ shortened w ++ bytes " of the mark is over 65535"
unfolding over_words between pick
over-mark w = refl

short-whole : (w : List ℕ) → length w ≤ 20 → shortened w ≡ w
unfolding shortened
short-whole w l = sym (pick_true _ (le-leb (length w) 20 l))

short_cut : (w : List ℕ) → 20 < length w → shortened w ≡ take 20 w ++ bytes ".."
unfolding shortened
short_cut w l = sym (pick-false _ (lt-leb (length w) 20 l))

-- ---- which number is over its limit

over_at : (c : List ℕ) (n : ℕ) → Over c n ≡ true → OverAt c n
unfolding is_over
over_at c n h =
    let m = and_left (is_number (nth_typed c n) && not (eqb n 96)) _ h in
    (eqb-false n 96 (not-true _ (and_right (is_number (nth_typed c n)) _ m)), ltb-true (limit_of n) (worth (nth_typed c n)) (and_right (is_number (nth_typed c n) && not (eqb n 96)) _ h))

at-over : (c : List ℕ) (n : ℕ) → is_number (nth_typed c n) ≡ true → OverAt c n → Over c n ≡ true
unfolding is_over
at-over c n e (d, l) = and_both (and_both e (ap not (ne_eqb n 96 d))) (lt-ltb (limit_of n) (worth (nth_typed c n)) l)

-- it is a priority, a type or a frame that is too large
at_large : (c : List ℕ) (n : ℕ) → n < 98 → OverAt c n → TooLarge c
at_large c n l (d, m) = go (ℕ_discrete n 97) (ℕ_discrete (n % 3) 0) (ℕ_discrete (n % 3) 1)
  where
    go : Dec (n ≡ 97) → Dec (n % 3 ≡ 0) → Dec (n % 3 ≡ 1) → TooLarge c
    go (yes e) f g = inl (subst (λ (k : ℕ). 65535 < worth (nth_typed c k)) e (omega (arith, ap limit_of e, (limits 0 (omega arith)).3)))
    go (no e) (yes f) g =
        let q : n ≡ 3 * (n / 3) = omega arith in
        inr (n / 3, omega arith, inl (subst (λ (k : ℕ). 7 < worth (nth_typed c k)) q (omega (arith, ap limit_of q, (limits (n / 3) (omega arith)).0))))
    go (no e) (no f) (yes g) =
        let q : n ≡ 3 * (n / 3) + 1 = omega arith in
        inr (n / 3, omega arith, inr (inl (subst (λ (k : ℕ). 3 < worth (nth_typed c k)) q (omega (arith, ap limit_of q, (limits (n / 3) (omega arith)).1)))))
    go (no e) (no f) (no g) =
        let q : n ≡ 3 * (n / 3) + 2 = omega arith in
        inr (n / 3, omega arith, inr (inr (subst (λ (k : ℕ). 65535 < worth (nth_typed c k)) q (omega (arith, ap limit_of q, (limits (n / 3) (omega arith)).2)))))

large_at : (c : List ℕ) → TooLarge c → (n : ℕ) × (n < 98) × OverAt c n
large_at c (inl l) = (97, omega arith, (λ e. omega arith, omega (arith, (limits 0 (omega arith)).3)))
large_at c (inr (i, m, inl l)) = (3 * i, omega arith, (λ e. omega arith, omega (arith, (limits i m).0)))
large_at c (inr (i, m, inr (inl l))) = (3 * i + 1, omega arith, (λ e. omega arith, omega (arith, (limits i m).1)))
large_at c (inr (i, m, inr (inr l))) = (3 * i + 2, omega arith, (λ e. omega arith, omega (arith, (limits i m).2)))

-- ---- the three ways of a text

abbrev Test : List ℕ → Bool
Test c = eqb (first_fault c) 98 && eqb (nth_start c 98) (length c)

read-sound : (c : List ℕ) → Test c ≡ true → (read_bare c).refusal ≡ 0
unfolding read_bare pick taken
read-sound c h = rw h

module _ (s : List ℕ) where
  long : 65536 < length s → slip_line s ≡ bytes "the text is longer than 65536 bytes\n"
  unfolding slip_line
  long l = sym (pick_true _ (lt-ltb 65536 (length s) l))

  within : length s ≤ 65536 → slip_line s ≡ slip_in s (cleared s)
  unfolding slip_line
  within l = sym (pick-false _ (le-ltb 65536 (length s) l))

  faulty : length s ≤ 65536 → Test (cleared s) ≡ false → (slip_line s ≡ fault_line s (cleared s) (first_fault (cleared s))) × (read_table s ≡ refused_at damaged (nth_start (cleared s) (first_fault (cleared s))))
  faulty l h = (within l ∙ unfold slip_in in sym (pick-false _ h), sym (not_long s _ l refl) ∙ unfold read_bare in sym (pick-false _ h))

  sound : length s ≤ 65536 → Test (cleared s) ≡ true → (slip_line s ≡ over_line s (cleared s) (first_over (cleared s))) × Whole s
  sound l h =
      let r : (read_table s).refusal ≡ 0 = sym (ap (λ (x : Reading). x.refusal) (not_long s _ l refl)) ∙ read-sound (cleared s) h in
      (within l ∙ unfold slip_in in sym (pick_true _ h), (read s).0 r)

  tested : Whole s → Test (cleared s) ≡ true
  unfolding refused_at
  tested w = go (told-so (Test (cleared s)))
    where
      go : (Test (cleared s) ≡ true) ⊎ (Test (cleared s) ≡ false) → Test (cleared s) ≡ true
      go (inl h) = h
      go (inr h) = absurd (omega (arith, sym ((read s).1 w) ∙ ap (λ (x : Reading). x.refusal) (faulty w.0 h).1))

  slip : (read_table s).refusal ≡ 8
      → slip_line s ≡ told s (read_table s).offset (expected_words (eqb (get_or (cleared s) (read_table s).offset 0) 34) (first_fault (cleared s)) (is_number (nth_typed (cleared s) (first_fault (cleared s)))))
  unfolding fault_line refused_at
  slip e = go (dec_lt 65536 (length s)) (told-so (Test (cleared s)))
    where
      go : Dec (65536 < length s) → (Test (cleared s) ≡ true) ⊎ (Test (cleared s) ≡ false)
          → slip_line s ≡ told s (read_table s).offset (expected_words (eqb (get_or (cleared s) (read_table s).offset 0) 34) (first_fault (cleared s)) (is_number (nth_typed (cleared s) (first_fault (cleared s)))))
      go (yes l) h = absurd (omega (arith, (eleven s).1 l))
      go (no l) (inl h) = absurd (omega (arith, (read s).1 (sound (omega arith) h).1))
      go (no l) (inr h) = let f = faulty (omega arith) h in f.0 ∙ rw f.1

  over : (n : ℕ) → Whole s → n < 98 → OverAt (cleared s) n → ((k : ℕ) → k < n → OverAt (cleared s) k → ⊥)
      → slip_line s ≡ told s (nth_start (cleared s) n) (over_words n (nth_typed (cleared s) n))
  unfolding over_line
  over n w l h f =
      let q : n ≡ first_over (cleared s) = over-is (cleared s) n (omega arith) (λ k m. not-holds (Over (cleared s) k) (λ e. f k m (over_at (cleared s) k e))) (λ m. at-over (cleared s) n (w.1 n l).0 h) in
      (sound w.0 (tested w)).0 ∙ rw (← q) (sym (pick-false _ (ne_eqb n 98 (λ e. omega arith))))

  -- the line is none exactly where no number is over its limit
  some-line : (at : ℕ) (what : List ℕ) → told s at what ≡ [] → ⊥
  unfolding told counted bytes
  some-line at what e = omega (arith, ap length e)

  none_only : slip_line s ≡ [] → Whole s × (TooLarge (cleared s) → ⊥)
  unfolding over_line fault_line bytes
  none_only e = go (dec_lt 65536 (length s)) (told-so (Test (cleared s)))
    where
      go : Dec (65536 < length s) → (Test (cleared s) ≡ true) ⊎ (Test (cleared s) ≡ false) → Whole s × (TooLarge (cleared s) → ⊥)
      go (yes l) h = absurd (omega (arith, ap length (sym (long l) ∙ e)))
      go (no l) (inr h) = absurd (some-line _ _ (sym (faulty (omega arith) h).0 ∙ e))
      go (no l) (inl h) = let w = (sound (omega arith) h).1 in (w, λ x. by w (large_at (cleared s) x) (ℕ_discrete (first_over (cleared s)) 98))
        where
          by : Whole s → (n : ℕ) × (n < 98) × OverAt (cleared s) n → Dec (first_over (cleared s) ≡ 98) → ⊥
          by w (n, m, x) (yes f) = clash (at-over (cleared s) n (w.1 n m).0 x) (unfold first_over in ((lowest_found 98 (Over (cleared s))).before n (omega (arith, f))))
          by w (n, m, x) (no f) = some-line _ _ (pick-false [] (ne_eqb (first_over (cleared s)) 98 f) ∙ sym (sound (omega arith) h).0 ∙ e)

  only_none : Whole s × (TooLarge (cleared s) → ⊥) → slip_line s ≡ []
  unfolding over_line
  only_none (w, f) =
      let q : 98 ≡ first_over (cleared s) = over-is (cleared s) 98 (omega arith) (λ k m. not-holds (Over (cleared s) k) (λ e. f (at_large (cleared s) k m (over_at (cleared s) k e)))) (λ m. absurd (omega arith)) in
      (sound w.0 (tested w)).0 ∙ sym (pick_true _ (eq-eqb (first_over (cleared s)) 98 (sym q)))

-- ---- how long it is

short-most : (w : List ℕ) → length (shortened w) ≤ 22
short-most w = go (dec_lt 20 (length w))
  where
    go : Dec (20 < length w) → length (shortened w) ≤ 22
    go (yes l) = rw (short_cut w l, length-append (take 20 w) (bytes "..")) (unfold bytes in omega (arith, length-take-le 20 w (omega arith)))
    go (no l) = rw (short-whole w (omega arith)) (omega arith)

between-most : (a w b : List ℕ) → length a ≤ 9 → length b ≤ 26 → length (between a w b) ≤ 72
unfolding between
between-most a w b l m = rw (length-append (a ++ shortened w) b, length-append a (shortened w)) (omega (arith, short-most w))

either-most : (n : ℕ) (b : Bool) (x y : List ℕ) → length x ≤ n → length y ≤ n → length (pick b x y) ≤ n
unfolding pick
either-most n true x y l m = l
either-most n false x y l m = m

over-most : (n : ℕ) (w : List ℕ) → length (over_words n w) ≤ 72
unfolding over_words
over-most n w =
    either-most 72 (eqb n 97) _ _ (between-most (bytes "frame ") w (bytes " of the mark is over 65535") (unfold bytes in omega arith) (unfold bytes in omega arith))
    (either-most 72 (eqb (n % 3) 0) _ _ (between-most (bytes "priority ") w (bytes " is over 7") (unfold bytes in omega arith) (unfold bytes in omega arith))
    (either-most 72 (eqb (n % 3) 1) _ _ (between-most (bytes "type ") w (bytes " is over 3") (unfold bytes in omega arith) (unfold bytes in omega arith))
    (between-most (bytes "frame ") w (bytes " is over 65535") (unfold bytes in omega arith) (unfold bytes in omega arith))))

expected-most : (q : Bool) (n : ℕ) (b : Bool) → length (expected_words q n b) ≤ 72
unfolding expected_words
expected-most q n b =
    either-most 72 q (bytes "a name has 1 to 24 characters and stands behind a source's three numbers") _ (unfold bytes in omega arith)
    (either-most 72 (eqb n 98) (bytes "nothing may follow the mark's frame") _ (unfold bytes in omega arith)
    (either-most 72 b (bytes "the word of forced sources has more than 32 bits") (bytes "a number was expected") (unfold bytes in omega arith) (unfold bytes in omega arith)))

told-most : (s : List ℕ) (at : ℕ) (what : List ℕ) → at ≤ 65536 → length what ≤ 72 → length (told s at what) ≤ 85
told-most s at what l m =
    rw (told_is s at what, length-append (bytes "line " ++ decimal (line_of s at) ++ bytes ": " ++ what) (10 ∷ []), length-append (bytes "line " ++ decimal (line_of s at) ++ bytes ": ") what, length-append (bytes "line " ++ decimal (line_of s at)) (bytes ": "), length-append (bytes "line ") (decimal (line_of s at)))
    (unfold bytes in omega (arith, length-below 20 5 (line_of s at) (omega (arith, line-most s at)) (omega (arith, line-most s at))))

most : (s : List ℕ) → length (slip_line s) ≤ 85
most s = go (dec_lt 65536 (length s)) (told-so (Test (cleared s)))
  where
    starts : length s ≤ 65536 → (n : ℕ) → nth_start (cleared s) n ≤ 65536
    starts l n = omega (arith, nth-within (cleared s) n, length-cleared s)

    over-line : length s ≤ 65536 → (n : ℕ) → length (over_line s (cleared s) n) ≤ 85
    over-line l n = unfold over_line in (either-most 85 (eqb n 98) [] _ (omega arith) (told-most s _ _ (starts l n) (over-most n _)))

    go : Dec (65536 < length s) → (Test (cleared s) ≡ true) ⊎ (Test (cleared s) ≡ false) → length (slip_line s) ≤ 85
    go (yes l) h = rw (long s l) (unfold bytes in omega arith)
    go (no l) (inl h) = rw (sound s (omega arith) h).0 (over-line (omega arith) _)
    go (no l) (inr h) = rw (faulty s (omega arith) h).0 (unfold fault_line in (told-most s _ _ (starts (omega arith) _) (expected-most _ _ _)))

pub kept : Promises
kept =
    record {
      none = λ s. (none_only s, only_none s);
      long = long;
      slip = slip;
      over = over;
      most = most;
      told_is = told_is;
      line_first = line_first;
      line_next = line_next;
      line_same = line_same;
      expected_name = expected-name;
      expected_end = expected_end;
      expected_bits = expected_bits;
      expected_number = expected_number;
      limits = limits;
      over_priority = λ i w l. over-priority i l w;
      over_type = λ i w l. over_type i l w;
      over_frame = λ i w l. over-frame i l w;
      over_mark = over-mark;
      short_whole = short-whole;
      short_cut = short_cut;
    }
