-- The numbers of a text one after the other, as the code reads them.
use Prim.Native.Nat.{ℕ, ◌+◌, ◌-◌, ◌^◌, ◌≤◌, ◌<◌, min}
use mathlib.Core.Path.{◌≡◌, refl, sym, ap, ◌∙◌}
use mathlib.Core.Bool.{Bool, true, false, not, ◌&&◌, ◌||◌}
use mathlib.Core.List.{List}
use mathlib.Core.Logic.{◌≢◌, ◌⊎◌, inl, inr}
use native.Mathlib.Numerals.{add-one}
use native.Mathlib.Omega.{arith}
use native.Mathlib.Decide.{dec_lt, ℕ_discrete}
use lib.Dec.{eqb, ltb}
use lib.ListN.{length, take, drop}
use borrow.Author.Tests.{eq-eqb, ne_eqb, lt-ltb, le-ltb}
use Rattle.std.specs.Prelude.{Option, Some, None, is_some, unwrap_or, Result, Ok, Err}
use Rattle.words.specs.Choice.{pick}
use Rattle.words.proofs.ChoiceLaws.{pick_true, pick-false}
use Rattle.words.proofs.CountingLaws.{lowest_found, lowest-one}
use Rattle.words.proofs.TruthLaws.{told}
use Rattle.steps.specs.Refusals.{carried_out, damaged, too_long}
use Rattle.stack.specs.declared.Needed.{Needed}
use Rattle.stack.specs.Bytes.{needed}
use Rattle.stack.specs.Printed.{text_of}
use Rattle.tables.specs.declared.Reading.{Reading}
use Rattle.tables.specs.declared.Next.{Next}
use Rattle.tables.specs.declared.Fault.{Fault}
use Rattle.tables.specs.Names.{cleared}
use Rattle.tables.specs.Typed.{start_from, end_from, past_nth, nth_start, nth_typed}
use Rattle.tables.specs.Number.{is_number, worth}
use Rattle.tables.specs.Reading.{fits_at, fits, entered, table_of, taken, refused_at, first_fault, read_bare, read_table, refused_line, answer_to}
use Rattle.tables.specs.Passes.{capped, read_word, read_next, value_at, room, values_of}
use Rattle.tables.proofs.FillLaws.{room_full}
use Rattle.tables.proofs.NumberLaws.{some_none}
use Rattle.tables.proofs.SeekLaws.{nth-within}

-- ---- the next number

pub next-read : (s : List ℕ) (past start end : ℕ) (t : Option ℕ) → start ≡ start_from s past → end ≡ end_from s start
    → t ≡ read_word (take (end - start) (drop start s)) → record { number = t; start = start; past = end } ≡ read_next s past
unfolding read_next
next-read s past start end t e f g = rw (g, f, e)

-- after n numbers the next one is the nth
pub record NextIs (s : List ℕ) (n : ℕ) (x : Next) : Type 0 where
  pub number : x.number ≡ read_word (nth_typed s n)
  pub start : x.start ≡ nth_start s n
  pub past : x.past ≡ past_nth s (n + 1)

-- a word is read as a number, or as none
pub word_some : (w : List ℕ) → is_number w ≡ true → read_word w ≡ Some (capped (worth w))
unfolding read_word
word_some w e = sym (pick_true _ e)

pub word_none : (w : List ℕ) → is_number w ≡ false → read_word w ≡ None
unfolding read_word
word_none w e = sym (pick-false _ e)

pub word-is_some : (w : List ℕ) → is_some (read_word w) ≡ is_number w
unfolding read_word pick
word-is_some w = go (is_number w)
  where
    go : (b : Bool) → is_some (pick b (Some (capped (worth w))) None) ≡ b
    go true = refl
    go false = refl

typed-is : (s : List ℕ) (n : ℕ) → take (end_from s (start_from s (past_nth s n)) - start_from s (past_nth s n)) (drop (start_from s (past_nth s n)) s) ≡ nth_typed s n
unfolding nth_typed nth_start past_nth
typed-is s n = refl

past_more : (s : List ℕ) (n : ℕ) → end_from s (start_from s (past_nth s n)) ≡ past_nth s (n + 1)
past_more s n = rw (add-one n) (unfold past_nth in refl)

pub next-is : (s : List ℕ) (past n : ℕ) (x : Next) → past ≡ past_nth s n → x ≡ read_next s past → NextIs s n x
unfolding read_next
next-is s past n x e f =
    rw (f, e) (record {
      number = ap read_word (typed-is s n);
      start = unfold nth_start in refl;
      past = past_more s n;
    })

-- ---- whether it is as it must be, and what the table has of it

-- the cap changes neither
pub fits-capped : (n : ℕ) (v : ℕ) → fits_at n true (capped v) ≡ fits_at n true v
unfolding fits_at capped
fits-capped n v = ap (λ (b : Bool). not (eqb n 96) || b) (go (dec_lt v (2 ^ 32)))
  where
    go : Dec (v < 2 ^ 32) → ltb (min v (2 ^ 32)) (2 ^ 32) ≡ ltb v (2 ^ 32)
    go (yes l) = lt-ltb (min v (2 ^ 32)) (2 ^ 32) (omega arith) ∙ sym (lt-ltb v (2 ^ 32) l)
    go (no l) = le-ltb (min v (2 ^ 32)) (2 ^ 32) (omega arith) ∙ sym (le-ltb v (2 ^ 32) (omega arith))

pub entered-capped : (v : ℕ) → entered (capped v) ≡ entered v
unfolding entered capped
entered-capped v = omega arith

abbrev pub value_of : List ℕ → ℕ → ℕ
value_of s n = entered (worth (nth_typed s n))

-- so what the table has of what was read is what it has of the nth number, if that fits
word_at : (n : ℕ) (w : List ℕ) → value_at n (read_word w) ≡ pick (fits n w) (Some (entered (worth w))) None
word_at n w = go (told (is_number w))
  where
    go : (is_number w ≡ true) ⊎ (is_number w ≡ false) → value_at n (read_word w) ≡ pick (fits n w) (Some (entered (worth w))) None
    go (inl e) = rw (word_some w e, e) (unfold value_at in rw (fits-capped n (worth w), entered-capped (worth w)))
    go (inr e) = rw (word_none w e, e) (unfold value_at fits_at pick in refl)

pub next_some : (s : List ℕ) (n v : ℕ) (x : Next) → NextIs s n x → Some v ≡ value_at n x.number → (fits n (nth_typed s n) ≡ true) × (v ≡ value_of s n)
next_some s n v x h e = go (told (fits n (nth_typed s n))) (e ∙ ap (value_at n) h.number ∙ word_at n (nth_typed s n))
  where
    go : (fits n (nth_typed s n) ≡ true) ⊎ (fits n (nth_typed s n) ≡ false) → Some v ≡ pick (fits n (nth_typed s n)) (Some (value_of s n)) None
        → (fits n (nth_typed s n) ≡ true) × (v ≡ value_of s n)
    go (inl f) q = (f, ap (λ (o : Option ℕ). unwrap_or o 0) (q ∙ sym (pick_true None f)))
    go (inr f) q = absurd (some_none _ (q ∙ sym (pick-false (Some (value_of s n)) f)))

pub next_none : (s : List ℕ) (n : ℕ) (x : Next) → NextIs s n x → None ≡ value_at n x.number → fits n (nth_typed s n) ≡ false
next_none s n x h e = go (told (fits n (nth_typed s n))) (e ∙ ap (value_at n) h.number ∙ word_at n (nth_typed s n))
  where
    go : (fits n (nth_typed s n) ≡ true) ⊎ (fits n (nth_typed s n) ≡ false) → None ≡ pick (fits n (nth_typed s n)) (Some (value_of s n)) None
        → fits n (nth_typed s n) ≡ false
    go (inl f) q = absurd (some_none _ (sym (q ∙ sym (pick_true None f))))
    go (inr f) q = f

-- ---- the first fault

-- the first n are as they must be
abbrev pub Fit : List ℕ → ℕ → Type 0
Fit s n = (k : ℕ) → k < n → fits k (nth_typed s k) ≡ true

pub fit-more : (s : List ℕ) (n : ℕ) → Fit s n → fits n (nth_typed s n) ≡ true → Fit s (n + 1)
fit-more s n h e k l = go (ℕ_discrete k n)
  where
    go : Dec (k ≡ n) → fits k (nth_typed s k) ≡ true
    go (yes q) = rw q e
    go (no d) = h k (omega arith)

pub fault-is : (s : List ℕ) (n : ℕ) → n ≤ 98 → Fit s n → (n < 98 → fits n (nth_typed s n) ≡ false) → n ≡ first_fault s
unfolding first_fault
fault-is s n l h f =
    lowest-one (λ k. not (fits k (nth_typed s k))) 98 n _ (record { within = l; before = λ k m. ap not (h k m); found = λ m. ap not (f m) })
    (lowest_found 98 (λ k. not (fits k (nth_typed s k))))

-- ---- the values of all, or where the first fault is

abbrev pub Test : List ℕ → Bool
Test s = eqb (first_fault s) 98 && eqb (nth_start s 98) (length s)

pub values_fault : (s vs : List ℕ) (n start : ℕ) → n < 98 → n ≡ first_fault s → start ≡ nth_start s n → vs ≡ room 98 n (value_of s)
    → Err (record { count = n; start = start; values = vs }) ≡ values_of s
unfolding values_of
values_fault s vs n start l e f h =
    rw (h, f, e) (pick-false _ (ap (λ (b : Bool). b && eqb (nth_start s 98) (length s)) (ne_eqb (first_fault s) 98 (omega arith))))

pub values_behind : (s vs : List ℕ) (start : ℕ) → 98 ≡ first_fault s → start ≡ nth_start s 98 → start < length s → vs ≡ room 98 98 (value_of s)
    → Err (record { count = 98; start = start; values = vs }) ≡ values_of s
unfolding values_of
values_behind s vs start e f l h =
    rw (h, f, ← e) (pick-false _ (ne_eqb (nth_start s 98) (length s) (omega arith)))

pub values_whole : (s vs : List ℕ) (start : ℕ) → 98 ≡ first_fault s → start ≡ nth_start s 98 → length s ≤ start → vs ≡ room 98 98 (value_of s)
    → Ok vs ≡ values_of s
unfolding values_of
values_whole s vs start e f l h =
    rw (h ∙ room_full 98 98 (value_of s) (omega arith) (omega arith), ← e)
    (pick_true _ (eq-eqb (nth_start s 98) (length s) (omega (arith, nth-within s 98))))

-- ---- the table or the refusal

-- what is answered of either
abbrev pub reading_of : Result (List ℕ) Fault → Reading
reading_of (Ok vs) = taken (table_of vs)
reading_of (Err f) = refused_at damaged f.start

pub bare-read : (s : List ℕ) (v : Result (List ℕ) Fault) → v ≡ values_of s → reading_of v ≡ read_bare s
unfolding values_of read_bare
bare-read s v e = ap reading_of e ∙ go (told (Test s))
  where
    go : (Test s ≡ true) ⊎ (Test s ≡ false) → reading_of (values_of s) ≡ read_bare s
    go (inl t) = ap reading_of (sym (pick_true _ t)) ∙ pick_true _ t
    go (inr t) = ap reading_of (sym (pick-false _ t)) ∙ pick-false _ t

pub too_long_lem : (s : List ℕ) (r : Reading) → 65536 < length s → r ≡ refused_at too_long 65536 → r ≡ read_table s
unfolding read_table
too_long_lem s r l g = g ∙ pick_true _ (lt-ltb 65536 (length s) l)

-- a text that is read is none that is too long
pub read_short : (s : List ℕ) → (read_table s).refusal ≡ 0 → length s ≤ 65536
unfolding refused_at
read_short s e = go (dec_lt 65536 (length s))
  where
    go : Dec (65536 < length s) → length s ≤ 65536
    go (yes l) = absurd (omega (arith, ap (λ (x : Reading). x.refusal) (too_long_lem s _ l refl)))
    go (no l) = omega arith

pub not_long : (s : List ℕ) (r : Reading) → length s ≤ 65536 → r ≡ read_bare (cleared s) → r ≡ read_table s
unfolding read_table
not_long s r l g = g ∙ pick-false _ (le-ltb 65536 (length s) l)

-- ---- the line

pub answer-taken : (s : List ℕ) (r : Reading) (n : Needed) → r ≡ read_table s → r.refusal ≡ carried_out → n ≡ needed r.table → text_of n ≡ answer_to s
unfolding answer_to
answer-taken s r n e h f =
    ap text_of (f ∙ ap (λ (x : Reading). needed x.table) e)
    ∙ pick_true _ (eq-eqb (read_table s).refusal carried_out (sym (ap (λ (x : Reading). x.refusal) e) ∙ h))

pub answer-refused : (s : List ℕ) (r : Reading) → r ≡ read_table s → r.refusal ≢ carried_out → refused_line r.refusal r.offset ≡ answer_to s
unfolding answer_to
answer-refused s r e h =
    ap (λ (x : Reading). refused_line x.refusal x.offset) e
    ∙ pick-false _ (ne_eqb (read_table s).refusal carried_out (λ z. h (ap (λ (x : Reading). x.refusal) e ∙ z)))
