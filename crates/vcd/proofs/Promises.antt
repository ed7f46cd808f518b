-- The promises of a dump, kept.
use Prim.Native.Nat.{ℕ, suc, ◌+◌, ◌-◌, ◌*◌, ◌%◌, ◌^◌}
use mathlib.Core.Path.{◌≡◌, refl, sym}
use mathlib.Core.List.{List, [], ◌∷◌, ◌++◌}
use mathlib.Core.Logic.{◌≢◌}
use native.Mathlib.Nat.{mod-eq_of_lt}
use native.Mathlib.Numerals.{sub-one}
use native.Mathlib.Omega.{arith}
use lib.ListN.{get_or, set, drop, replicate}
use borrow.Author.Tests.{eq-eqb, ne_eqb}
use Rattle.words.specs.Choice.{pick}
use Rattle.words.proofs.ChoiceLaws.{pick-false}
use Rattle.text.specs.Text.{decimal_of, decimal, field}
use Rattle.text.specs.Phrases.{bytes}
use Rattle.vcd.specs.Dump.{Signal, declaration, declarations, heading, opening, declared, binary_of, change, values_from, changes_from, tick, first_tick, next_tick, ticks_from, ending, ticks}
use Rattle.vcd.specs.Replay.{lines_of, digits_after, line_read, tables_from, replay, behind_space, identifiers}
use Rattle.vcd.specs.Promises.{held_from, most_bytes, Promises}
use Rattle.vcd.proofs.BinaryLaws.{some-digit, length_binary, binary-bytes, shortest}
use Rattle.vcd.proofs.HeadingLaws.{quiet, declares-all, declares-nth}
use Rattle.vcd.proofs.ReplayLaws.{reads}
use Rattle.vcd.proofs.SizeLaws.{length_next, length-first, length-ending, length-ticks}

-- ---- what a value can hold, and how long it is

held_none : (k : ℕ) (now : List ℕ) → held_from k [] now ≡ []
unfolding held_from
held_none k now = refl

held_more : (k w : ℕ) (ws now : List ℕ) → held_from k (w ∷ ws) now ≡ get_or now k 0 % 2 ^ w ∷ held_from (k + 1) ws now
unfolding held_from
held_more k w ws now = refl

most-none : most_bytes [] ≡ 0
unfolding most_bytes
most-none = refl

most-more : (w : ℕ) (ws : List ℕ) → most_bytes (w ∷ ws) ≡ w + 4 + most_bytes ws
unfolding most_bytes
most-more w ws = refl

-- ---- what reading is

lines_none : lines_of [] ≡ []
unfolding lines_of
lines_none = refl

lines_feed : (bs : List ℕ) → lines_of (10 ∷ bs) ≡ [] ∷ lines_of bs
unfolding lines_of pick
lines_feed bs = refl

lines_last : (b : ℕ) → b ≢ 10 → lines_of (b ∷ []) ≡ (b ∷ []) ∷ []
unfolding lines_of pick
lines_last b h = rw (ne_eqb b 10 h)

lines_more : (b : ℕ) (bs l : List ℕ) (ls : List (List ℕ)) → b ≢ 10 → lines_of bs ≡ l ∷ ls → lines_of (b ∷ bs) ≡ (b ∷ l) ∷ ls
unfolding lines_of pick
lines_more b bs l ls h e = rw (ne_eqb b 10 h, e)

digits-none : (v : ℕ) → digits_after v [] ≡ (v, 0)
unfolding digits_after
digits-none v = refl

digits_end : (v : ℕ) (bs : List ℕ) → digits_after v (32 ∷ bs) ≡ (v, get_or bs 0 0)
unfolding digits_after pick
digits_end v bs = refl

digits_more : (v b : ℕ) (bs : List ℕ) → b ≢ 32 → digits_after v (b ∷ bs) ≡ digits_after (2 * v + (b - 48)) bs
unfolding digits_after pick
digits_more v b bs h = rw (ne_eqb b 32 h)

read_none : (t : List ℕ) → line_read t [] ≡ t
unfolding line_read
read_none t = refl

read-digits : (t bs : List ℕ) → line_read t (98 ∷ bs) ≡ set t ((digits_after 0 bs).1 - 33) (digits_after 0 bs).0
unfolding line_read pick
read-digits t bs = refl

read-zero : (t bs : List ℕ) → line_read t (48 ∷ bs) ≡ set t (get_or bs 0 0 - 33) 0
unfolding line_read pick
read-zero t bs = refl

read_one : (t bs : List ℕ) → line_read t (49 ∷ bs) ≡ set t (get_or bs 0 0 - 33) 1
unfolding line_read pick
read_one t bs = refl

read-other : (t : List ℕ) (b : ℕ) (bs : List ℕ) → b ≢ 98 → b ≢ 48 → b ≢ 49 → line_read t (b ∷ bs) ≡ t
unfolding line_read pick
read-other t b bs f g h = rw (ne_eqb b 98 f, ne_eqb b 48 g, ne_eqb b 49 h)

tables_end : (t : List ℕ) → tables_from t [] ≡ t ∷ []
unfolding tables_from
tables_end t = refl

tables-tick : (t l : List ℕ) (ls : List (List ℕ)) → tables_from t ((35 ∷ l) ∷ ls) ≡ t ∷ tables_from t ls
unfolding tables_from pick
tables-tick t l ls = refl

tables-line : (t l : List ℕ) (ls : List (List ℕ)) → get_or l 0 0 ≢ 35 → tables_from t (l ∷ ls) ≡ tables_from (line_read t l) ls
unfolding tables_from pick
tables-line t l ls h = rw (ne_eqb (get_or l 0 0) 35 h)

replays : (n : ℕ) (text : List ℕ) → replay n text ≡ drop 1 (tables_from (replicate n 0) (lines_of text))
unfolding replay
replays n text = refl

behind-none : (n : ℕ) → behind_space n [] ≡ 0
unfolding behind_space
behind-none n = refl

behind_last : (bs : List ℕ) → behind_space 0 (32 ∷ bs) ≡ get_or bs 0 0
unfolding behind_space pick
behind_last bs = refl

behind-one : (n : ℕ) (bs : List ℕ) → behind_space (suc n) (32 ∷ bs) ≡ behind_space n bs
unfolding behind_space pick
behind-one n bs = rw (ne_eqb (suc n) 0 (λ e. omega arith), sub-one)

behind-other : (n b : ℕ) (bs : List ℕ) → b ≢ 32 → behind_space n (b ∷ bs) ≡ behind_space n bs
unfolding behind_space pick
behind-other n b bs h = rw (ne_eqb b 32 h)

identifiers-none : identifiers [] ≡ []
unfolding identifiers
identifiers-none = refl

identifiers_var : (l : List ℕ) (ls : List (List ℕ)) → get_or l 1 0 ≡ 118 → identifiers (l ∷ ls) ≡ behind_space 2 l ∷ identifiers ls
unfolding identifiers pick
identifiers_var l ls h = rw (eq-eqb (get_or l 1 0) 118 h)

identifiers-other : (l : List ℕ) (ls : List (List ℕ)) → get_or l 1 0 ≢ 118 → identifiers (l ∷ ls) ≡ identifiers ls
unfolding identifiers pick
identifiers-other l ls h = rw (ne_eqb (get_or l 1 0) 118 h)

-- ---- what is written

opens : opening ≡ bytes "$comment one tick is one step of the trace, refused steps counted; tick 0 is the start $end\n$timescale 1 ns $end\n"
unfolding opening
opens = refl

closes : declared ≡ bytes "$enddefinitions $end\n"
unfolding declared
closes = refl

heads : (name : List ℕ) (ds : List Signal)
    → heading name ds ≡ opening ++ bytes "$scope module " ++ name ++ bytes "$end\n" ++ declarations 0 ds ++ bytes "$upscope $end\n" ++ declared
unfolding heading
heads name ds = refl

declares : (k : ℕ) (d : Signal) → declaration k d ≡ bytes "$var wire " ++ decimal d.width ++ (32 ∷ (33 + k % 94) ∷ 32 ∷ []) ++ d.name ++ bytes " $end\n"
unfolding declaration
declares k d = refl

declares-none : (k : ℕ) → declarations k [] ≡ []
unfolding declarations
declares-none k = refl

declares-more : (k : ℕ) (d : Signal) (ds : List Signal) → declarations k (d ∷ ds) ≡ declaration k d ++ declarations (k + 1) ds
unfolding declarations
declares-more k d ds = refl

one_bit : (k v : ℕ) → change 1 k v ≡ (48 + v % 2) ∷ (33 + k % 94) ∷ 10 ∷ []
unfolding change pick
one_bit k v = refl

more_bits : (w k v : ℕ) → w ≢ 1 → change w k v ≡ (98 ∷ []) ++ binary_of w v ++ (32 ∷ (33 + k % 94) ∷ 10 ∷ [])
unfolding change
more_bits w k v h = sym (pick-false ((48 + v % 2) ∷ (33 + k % 94) ∷ 10 ∷ []) (ne_eqb w 1 h))

ticking : (n : ℕ) → tick n ≡ (35 ∷ []) ++ decimal n ++ (10 ∷ [])
unfolding tick
ticking n = refl

starts : (ws now : List ℕ) → first_tick ws now ≡ bytes "#0\n$dumpvars\n" ++ values_from 0 ws now ++ bytes "$end\n"
unfolding first_tick tick bytes decimal_of pick
starts ws now = refl

values-none : (k : ℕ) (now : List ℕ) → values_from k [] now ≡ []
unfolding values_from
values-none k now = refl

values-more : (k w : ℕ) (ws now : List ℕ) → values_from k (w ∷ ws) now ≡ change w k (get_or now k 0) ++ values_from (k + 1) ws now
unfolding values_from
values-more k w ws now = refl

goes_on_lem : (n : ℕ) (ws before now : List ℕ) → next_tick n ws before now ≡ tick n ++ changes_from 0 ws before now
unfolding next_tick
goes_on_lem n ws before now = refl

changes-none : (k : ℕ) (before now : List ℕ) → changes_from k [] before now ≡ []
unfolding changes_from
changes-none k before now = refl

unchanged : (k w : ℕ) (ws before now : List ℕ) → get_or before k 0 ≡ get_or now k 0 → changes_from k (w ∷ ws) before now ≡ changes_from (k + 1) ws before now
unfolding changes_from pick
unchanged k w ws before now e = rw (eq-eqb (get_or before k 0) (get_or now k 0) e)

changed : (k w : ℕ) (ws before now : List ℕ) → get_or before k 0 ≢ get_or now k 0
    → changes_from k (w ∷ ws) before now ≡ change w k (get_or now k 0) ++ changes_from (k + 1) ws before now
unfolding changes_from pick
changed k w ws before now h = rw (ne_eqb (get_or before k 0) (get_or now k 0) h)

ticks-none : (n : ℕ) (ws before : List ℕ) → ticks_from n ws before [] ≡ []
unfolding ticks_from
ticks-none n ws before = refl

ticks-more : (n : ℕ) (ws before now : List ℕ) (rest : List (List ℕ))
    → ticks_from n ws before (now ∷ rest) ≡ next_tick (n + 1) ws before now ++ ticks_from (n + 1) ws now rest
unfolding ticks_from
ticks-more n ws before now rest = refl

ended : (refusal offset : ℕ) → refusal ≢ 0 → ending refusal offset ≡ bytes "$comment E" ++ field refusal ++ field offset ++ bytes " $end\n"
unfolding ending
ended refusal offset h = sym (pick-false [] (ne_eqb refusal 0 h))

not-ended : (offset : ℕ) → ending 0 offset ≡ []
unfolding ending pick
not-ended offset = refl

whole : (ws first : List ℕ) (rest : List (List ℕ)) (refusal offset : ℕ)
    → ticks ws first rest refusal offset ≡ first_tick ws first ++ ticks_from 0 ws first rest ++ ending refusal offset
unfolding ticks
whole ws first rest refusal offset = refl

worked : ticks (1 ∷ 4 ∷ []) (0 ∷ 5 ∷ []) ((1 ∷ 5 ∷ []) ∷ (1 ∷ 10 ∷ []) ∷ []) 8 7 ≡ bytes "#0\n$dumpvars\n0!\nb101 \"\n$end\n#1\n1!\n#2\nb1010 \"\n$comment E 8 7 $end\n"
unfolding ticks first_tick next_tick ticks_from tick values_from changes_from change binary_of ending field decimal_of bytes pick
worked = refl

worked-read : replay 2 (bytes "#0\n$dumpvars\n0!\nb101 \"\n$end\n#1\n1!\n#2\nb1010 \"\n$comment E 8 7 $end\n") ≡ (0 ∷ 5 ∷ []) ∷ (1 ∷ 5 ∷ []) ∷ (1 ∷ 10 ∷ []) ∷ []
unfolding replay tables_from line_read lines_of digits_after bytes pick
worked-read = refl

worked-declarations : declarations 0 (record { name = bytes "IRQ"; width = 1 } ∷ record { name = bytes "open"; width = 4 } ∷ [])
    ≡ bytes "$var wire 1 ! IRQ $end\n$var wire 4 \" open $end\n"
unfolding declarations declaration decimal_of bytes pick
worked-declarations = refl

pub kept : Promises
kept =
    record {
      reads = reads;
      holds = λ v w h. mod-eq_of_lt h;
      held_none = held_none;
      held_more = held_more;
      quiet = quiet;
      declares_all = declares-all;
      declares_nth = λ name ds k h hs. declares-nth name ds h hs k;
      lines_none = lines_none;
      lines_feed = lines_feed;
      lines_last = lines_last;
      lines_more = lines_more;
      digits_none = digits-none;
      digits_end = digits_end;
      digits_more = digits_more;
      read_none = read_none;
      read_digits = read-digits;
      read_zero = read-zero;
      read_one = read_one;
      read_other = read-other;
      tables_end = tables_end;
      tables_tick = tables-tick;
      tables_line = tables-line;
      replays = replays;
      behind_none = behind-none;
      behind_last = behind_last;
      behind_one = behind-one;
      behind_other = behind-other;
      identifiers_none = identifiers-none;
      identifiers_var = identifiers_var;
      identifiers_other = identifiers-other;
      opens = opens;
      closes = closes;
      heads = heads;
      declares = declares;
      declares_none = declares-none;
      declares_more = declares-more;
      one_bit = one_bit;
      more_bits = more_bits;
      digits = λ w v h. (some-digit w v h, length_binary w v);
      digit_bytes = binary-bytes;
      shortest = shortest;
      ticking = ticking;
      starts = starts;
      values_none = values-none;
      values_more = values-more;
      goes_on = goes_on_lem;
      changes_none = changes-none;
      unchanged = unchanged;
      changed = changed;
      ticks_none = ticks-none;
      ticks_more = ticks-more;
      ended = ended;
      not_ended = not-ended;
      whole = whole;
      most_none = most-none;
      most_more = most-more;
      tick_most = length_next;
      first_most = length-first;
      end_most = length-ending;
      most = length-ticks;
      worked = worked;
      worked_read = worked-read;
      worked_declarations = worked-declarations;
    }
