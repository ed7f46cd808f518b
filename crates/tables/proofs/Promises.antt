-- The promises of typed tables, kept.
use Prim.Native.Nat.{ℕ, suc, ◌+◌, ◌-◌, ◌*◌, ◌≤◌, ◌<◌}
use mathlib.Core.Path.{◌≡◌, refl, sym, ap, ◌∙◌, subst}
use mathlib.Core.Bool.{true, false, not}
use mathlib.Core.List.{List, [], ◌∷◌, ◌++◌}
use mathlib.Core.Logic.{◌↔◌, ◌≢◌, ◌⊎◌, inl, inr}
use native.Mathlib.Omega.{arith}
use lib.ListN.{length, get_or, take, drop}
use borrow.Author.Tests.{le-leb, lt-leb, not-true, not-false}
use Rattle.words.specs.Choice.{pick}
use Rattle.words.proofs.TruthLaws.{clash, not-holds}
use Rattle.text.specs.Text.{decimal}
use Rattle.stack.specs.declared.Table.{Table}
use Rattle.tables.specs.Names.{behind, unnamed_to, cleared}
use Rattle.tables.specs.Typed.{white, bare, start_from, end_from, past_nth, nth_start, nth_typed}
use Rattle.tables.specs.Number.{digit, worth_from, are_digits, is_hex, is_number, worth}
use Rattle.tables.specs.Reading.{taken}
use Rattle.tables.specs.Layout.{White, lines_from, in_quotes}
use Rattle.tables.specs.Facts.{Starts, Ends, Digits}
use Rattle.tables.specs.Promises.{Promises}
use Rattle.tables.proofs.BareLaws.{length-bare, bare-none, bare-ended, bare-left}
use Rattle.tables.proofs.NameLaws.{length-cleared}
use Rattle.tables.proofs.NamedLaws.{named-is, named_none, unnamed_stays, unnamed_byte, unnamed-rest, name-count, name-bytes, quotes-gone, names-taken, names-refused}
use Rattle.tables.proofs.QuoteLaws.{quoteless}
use Rattle.tables.proofs.SeekLaws.{Sought, start_is, start_sought, end_is, end_sought, past-within}
use Rattle.tables.proofs.NumberLaws.{digits_are, are-digits, number-hex, number-plain, number-some, hex-first}
use Rattle.tables.proofs.LayoutLaws.{white-is, is_white}
use Rattle.tables.proofs.PlainLaws.{digit-plain, entered_as, entered-most, spread, read_back_lem}
use Rattle.tables.proofs.WrittenLaws.{named_back}
use Rattle.tables.proofs.RefusalLaws.{eleven, eleven_at, eight, read, only, refused-empty, read-values, rows, answer-read, answer_else, answer-most}
use Rattle.tables.proofs.LimitLaws.{fourteen, figure}

-- ---- white space

not_white : (b : ℕ) → white b ≡ false → White b → ⊥
not_white b e h = clash (white-is b h) e

white-not : (b : ℕ) → (White b → ⊥) → white b ≡ false
white-not b h = not-holds (white b) (λ e. h (is_white b e))

-- ---- names

behind-is : (s : List ℕ) (i : ℕ) → behind s i ≡ nth_start (bare s) (3 * i + 3)
unfolding behind
behind-is s i = refl

unnamed-none : (s : List ℕ) → unnamed_to s 0 ≡ s
unfolding unnamed_to
unnamed-none s = refl

cleared-is : (s : List ℕ) → cleared s ≡ bare (unnamed_to s 32)
unfolding cleared
cleared-is s = refl

-- ---- starts and ends

starts : (s : List ℕ) (at i : ℕ) → at ≤ length s → (start_from s at ≡ i) ↔ Starts s at i
starts s at i l = (λ e. subst (Starts s at) e tells, λ h. sym (start_is s at i (back h)))
  where
    tells : Starts s at (start_from s at)
    tells =
        let h = start_sought s at in
        record {
          from = h.from;
          within = omega (arith, h.within);
          before = λ j a b. is_white (get_or s j 0) (not-false (white (get_or s j 0)) (h.before j a b));
          found = λ b. not_white (get_or s (start_from s at) 0) (not-true (white (get_or s (start_from s at) 0)) (h.found b));
        }

    back : Starts s at i → Sought (λ b. not (white b)) s at i
    back h =
        record {
          from = h.from;
          within = omega (arith, h.within);
          before = λ j a b. ap not (white-is (get_or s j 0) (h.before j a b));
          found = λ b. ap not (white-not (get_or s i 0) (h.found b));
        }

ends : (s : List ℕ) (at i : ℕ) → at ≤ length s → (end_from s at ≡ i) ↔ Ends s at i
ends s at i l = (λ e. subst (Ends s at) e tells, λ h. sym (end_is s at i (back h)))
  where
    tells : Ends s at (end_from s at)
    tells =
        let h = end_sought s at in
        record {
          from = h.from;
          within = omega (arith, h.within);
          before = λ j a b. not_white (get_or s j 0) (h.before j a b);
          found = λ b. is_white (get_or s (end_from s at) 0) (h.found b);
        }

    back : Ends s at i → Sought white s at i
    back h =
        record {
          from = h.from;
          within = omega (arith, h.within);
          before = λ j a b. white-not (get_or s j 0) (h.before j a b);
          found = λ b. white-is (get_or s i 0) (h.found b);
        }

past-none : (s : List ℕ) → past_nth s 0 ≡ 0
unfolding past_nth
past-none s = refl

past_more : (s : List ℕ) (n : ℕ) → past_nth s (suc n) ≡ end_from s (start_from s (past_nth s n))
unfolding past_nth
past_more s n = refl

start-nth : (s : List ℕ) (n : ℕ) → nth_start s n ≡ start_from s (past_nth s n)
unfolding nth_start
start-nth s n = refl

typed-nth : (s : List ℕ) (n : ℕ) → nth_typed s n ≡ take (past_nth s (suc n) - nth_start s n) (drop (nth_start s n) s)
unfolding nth_typed
typed-nth s n = refl

missing : (s : List ℕ) (n : ℕ) → nth_start s n ≡ length s → (nth_typed s n ≡ []) × (is_number (nth_typed s n) ≡ false)
missing s n e = (none, not-holds (is_number (nth_typed s n)) (λ h. omega (arith, number-some (nth_typed s n) h, ap length none)))
  where
    none : nth_typed s n ≡ []
    none =
        let z : past_nth s (suc n) - nth_start s n ≡ 0 = omega (arith, past-within s (suc n)) in
        typed-nth s n ∙ ap (λ (k : ℕ). take k (drop (nth_start s n) s)) z

-- ---- digits

digit_upper : (b : ℕ) → 65 ≤ b → b ≤ 70 → digit b ≡ b - 55
unfolding digit pick
digit_upper b l m = rw (le-leb 48 b (omega arith), lt-leb b 57 (omega arith), le-leb 65 b l, le-leb b 70 m)

digit-lower : (b : ℕ) → 97 ≤ b → b ≤ 102 → digit b ≡ b - 87
unfolding digit pick
digit-lower b l m = rw (le-leb 48 b (omega arith), lt-leb b 57 (omega arith), le-leb 65 b (omega arith), lt-leb b 70 (omega arith), le-leb 97 b l, le-leb b 102 m)

digit-none : (b : ℕ) → (b < 48) ⊎ (((57 < b) × (b < 65)) ⊎ (((70 < b) × (b < 97)) ⊎ (102 < b))) → digit b ≡ 16
unfolding digit pick
digit-none b (inl l) = rw (lt-leb 48 b l, lt-leb 65 b (omega arith), lt-leb 97 b (omega arith))
digit-none b (inr (inl (l, m))) = rw (le-leb 48 b (omega arith), lt-leb b 57 l, lt-leb 65 b m, lt-leb 97 b (omega arith))
digit-none b (inr (inr (inl (l, m)))) = rw (le-leb 48 b (omega arith), lt-leb b 57 (omega arith), le-leb 65 b (omega arith), lt-leb b 70 l, lt-leb 97 b m)
digit-none b (inr (inr (inr l))) =
    rw (le-leb 48 b (omega arith), lt-leb b 57 (omega arith), le-leb 65 b (omega arith), lt-leb b 70 (omega arith), le-leb 97 b (omega arith), lt-leb b 102 l)

worth_nil : (base v : ℕ) → worth_from base v [] ≡ v
unfolding worth_from
worth_nil base v = refl

worth_cons : (base v b : ℕ) (bs : List ℕ) → worth_from base v (b ∷ bs) ≡ worth_from base (base * v + digit b) bs
unfolding worth_from
worth_cons base v b bs = refl

-- ---- numbers

told_so : (base : ℕ) (w ds : List ℕ) → is_number w ≡ are_digits base ds → (is_number w ≡ true) ↔ Digits base ds
told_so base w ds e = (λ h. digits_are base ds (sym e ∙ h), λ d. e ∙ are-digits base ds d)

hexadecimal : (ds : List ℕ) → ((is_number (48 ∷ 120 ∷ ds) ≡ true) ↔ Digits 16 ds) × (worth (48 ∷ 120 ∷ ds) ≡ worth_from 16 0 ds)
hexadecimal ds = let n = number-hex (48 ∷ 120 ∷ ds) (unfold is_hex in refl) in (told_so 16 (48 ∷ 120 ∷ ds) ds n.0, n.1)

not-hex : (w : List ℕ) → (get_or w 0 0 ≢ 48) ⊎ (get_or w 1 0 ≢ 120) → is_hex w ≡ false
not-hex w (inl d) = not-holds (is_hex w) (λ h. d (hex-first w h).0)
not-hex w (inr d) = not-holds (is_hex w) (λ h. d (hex-first w h).1)

decimals : (w : List ℕ) → (get_or w 0 0 ≢ 48) ⊎ (get_or w 1 0 ≢ 120) → ((is_number w ≡ true) ↔ Digits 10 w) × (worth w ≡ worth_from 10 0 w)
decimals w d = let n = number-plain w (not-hex w d) in (told_so 10 w w n.0, n.1)

upper_x : (ds : List ℕ) → is_number (48 ∷ 88 ∷ ds) ≡ false
upper_x ds =
    not-holds (is_number (48 ∷ 88 ∷ ds)) (λ h.
    let d = (decimals (48 ∷ 88 ∷ ds) (inr (λ e. omega arith))).0.0 h in
    omega (arith, d.each 1 (omega arith), digit-none 88 (inr (inr (inl (omega arith, omega arith))))))

-- ---- the plain way

plain_last : (t : Table) (behind : ℕ → List ℕ) (i : ℕ) → lines_from t behind 0 i ≡ decimal t.forced ++ (10 ∷ (decimal t.mark ++ (10 ∷ [])))
unfolding lines_from
plain_last t behind i = refl

plain_more : (t : Table) (behind : ℕ → List ℕ) (k i : ℕ) → lines_from t behind (suc k) i
    ≡ decimal (get_or t.priority i 0)
    ++ (32 ∷ (decimal (get_or t.kind i 0) ++ (32 ∷ (decimal (get_or t.frame i 0) ++ (behind i ++ (10 ∷ lines_from t behind k (i + 1)))))))
unfolding lines_from
plain_more t behind k i = refl

quotes-none : in_quotes [] ≡ []
unfolding in_quotes
quotes-none = refl

quotes-some : (b : ℕ) (bs : List ℕ) → in_quotes (b ∷ bs) ≡ 32 ∷ 34 ∷ (b ∷ (bs ++ (34 ∷ [])))
unfolding in_quotes
quotes-some b bs = refl

pub kept : Promises
unfolding taken
kept =
    record {
      bare_none = bare-none;
      bare_ended = bare-ended;
      bare_open = bare-left;
      bare_length = length-bare false;
      named_is = named-is;
      named_none = named_none;
      behind_is = behind-is;
      unnamed_none = unnamed-none;
      unnamed_more = unnamed_stays;
      unnamed_byte = unnamed_byte;
      unnamed_rest = unnamed-rest;
      cleared_is = cleared-is;
      cleared_length = length-cleared;
      quoteless = quoteless;
      quotes_gone = quotes-gone;
      name_length = name-count;
      name_byte = name-bytes;
      names_read = names-taken;
      names_refused = names-refused;
      starts = starts;
      ends = ends;
      past_none = past-none;
      past_more = past_more;
      past_within = past-within;
      start_is = start-nth;
      typed_is = typed-nth;
      missing = missing;
      digit_plain = digit-plain;
      digit_upper = digit_upper;
      digit_lower = digit-lower;
      digit_none = digit-none;
      worth_none = worth_nil;
      worth_more = worth_cons;
      hexadecimal = hexadecimal;
      decimals = decimals;
      upper_x = upper_x;
      eleven = eleven;
      eleven_at = eleven_at;
      eight = eight;
      read = read;
      read_values = read-values;
      entered_as = entered_as;
      entered_most = entered-most;
      rows = rows;
      only = only;
      refused_empty = refused-empty;
      spread = spread;
      read_back = read_back_lem;
      named_back = named_back;
      plain_last = plain_last;
      plain_more = plain_more;
      quotes_none = quotes-none;
      quotes_some = quotes-some;
      answer_read = answer-read;
      answer_refused = answer_else;
      fourteen = fourteen;
      figure = figure;
      answer_most = answer-most;
    }
