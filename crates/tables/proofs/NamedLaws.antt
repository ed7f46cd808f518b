-- What a name is, what making it spaces changes, and what is answered of it, as it is promised.
use Prim.Native.Nat.{ℕ, zero, suc, ◌+◌, ◌-◌, ◌*◌, ◌/◌, ◌%◌, ◌≤◌, ◌<◌}
use mathlib.Core.Path.{◌≡◌, refl, sym, ap, ◌∙◌}
use mathlib.Core.Bool.{true, false, not, ◌&&◌, ◌||◌}
use mathlib.Core.List.{List, []}
use mathlib.Core.Logic.{◌↔◌, ◌≢◌, ◌⊎◌, inl, inr}
use native.Mathlib.Nat.{add-zero}
use native.Mathlib.Omega.{arith}
use native.Mathlib.Decide.{dec_lt, ℕ_discrete}
use lib.Dec.{eqb, leb}
use lib.ListN.{length, get_or, set, take, drop, length-drop, length-replicate, get_or-replicate, drop_of_length-le, get_or-eq_default}
use lib.Seq.{length-take-le, get_or-drop, get_or-take, get_or-set_same, get_or-set_other}
use borrow.Author.Tests.{eqb-false, eqb-true, eq-eqb, ne_eqb, leb-true, le-leb, not-true, not-false}
use Rattle.words.specs.Choice.{pick}
use Rattle.words.proofs.ChoiceLaws.{pick_true, pick-false}
use Rattle.words.proofs.CountingLaws.{lowest_found}
use Rattle.words.proofs.TruthLaws.{and_left, and_right, and_both, or-either, or_neither, or_left, or_right, told, clash}
use Rattle.tables.specs.Typed.{white, start_from, past_nth, nth_start, nth_typed}
use Rattle.tables.specs.Names.{name_byte, name_run, is_name, named, behind, place_in, blanked, quoted, unnamed_at, unnamed_to, cleared}
use Rattle.tables.specs.Named.{name_of, names_in, no_names, names_of}
use Rattle.tables.specs.Reading.{read_table}
use Rattle.tables.specs.Layout.{Without, Parted, NameByte, NameAt}
use Rattle.tables.specs.Facts.{Within, NamesOf, Numbers}
use Rattle.tables.proofs.FillLaws.{length-list_of, get_d-list_of}
use Rattle.tables.proofs.LayoutLaws.{white-is, is_white}
use Rattle.tables.proofs.NumberLaws.{number-high}
use Rattle.tables.proofs.SeekLaws.{start_sought, past-within}
use Rattle.tables.proofs.NameLaws.{get_d-other, not_name, run_is, Test, named-yes, named_no, is-opened, is_some, is-most, is_closed, is_parted, length-blanked, length-unnamed, length-cleared, name-length}
use Rattle.tables.proofs.RefusalLaws.{read}

-- ---- a byte of a name

is_byte : (b : ℕ) → name_byte b ≡ true → NameByte b
unfolding name_byte
is_byte b h =
    let l : (leb 32 b && leb b 126) ≡ true = and_left (leb 32 b && leb b 126) _ h in
    let n = or_neither (eqb b 34 || eqb b 38 || eqb b 60) (eqb b 62) (not-true _ (and_right (leb 32 b && leb b 126) _ h)) in
    let m = or_neither (eqb b 34 || eqb b 38) (eqb b 60) n.0 in
    let k = or_neither (eqb b 34) (eqb b 38) m.0 in
    (leb-true 32 b (and_left (leb 32 b) (leb b 126) l), leb-true b 126 (and_right (leb 32 b) (leb b 126) l), eqb-false b 34 k.0, eqb-false b 38 k.1, eqb-false b 60 m.1, eqb-false b 62 n.1)

byte-is : (b : ℕ) → NameByte b → name_byte b ≡ true
unfolding name_byte
byte-is b (l, m, p, q, r, s) = rw (le-leb 32 b l, le-leb b 126 m, ne_eqb b 34 p, ne_eqb b 38 q, ne_eqb b 60 r, ne_eqb b 62 s)

quote-none : name_byte 34 ≡ false
unfolding name_byte
quote-none = refl

-- ---- what follows it

module _ (s : List ℕ) (j : ℕ) where
  first_of : j < length s → get_or (drop j s) 0 0 ≡ get_or s j 32
  first_of l = get_or-drop j s 0 0 ∙ ap (λ (n : ℕ). get_or s n 0) (add-zero j) ∙ get_d-other s j 0 32 l

  parted_of : (white (get_or s j 32) || eqb (get_or s j 32) 35) ≡ true → Parted (drop j s)
  parted_of h = go (dec_lt j (length s)) (or-either (white (get_or s j 32)) (eqb (get_or s j 32) 35) h)
    where
      go : Dec (j < length s) → (white (get_or s j 32) ≡ true) ⊎ (eqb (get_or s j 32) 35 ≡ true) → Parted (drop j s)
      go (no l) e = let m : length s ≤ j = omega arith in inl (drop_of_length-le s m)
      go (yes l) (inl e) = inr (inl (rw (first_of l) (is_white (get_or s j 32) e)))
      go (yes l) (inr e) = inr (inr (first_of l ∙ eqb-true (get_or s j 32) 35 e))

  of_parted : Parted (drop j s) → (white (get_or s j 32) || eqb (get_or s j 32) 35) ≡ true
  of_parted h = go (dec_lt j (length s)) h
    where
      go : Dec (j < length s) → Parted (drop j s) → (white (get_or s j 32) || eqb (get_or s j 32) 35) ≡ true
      go (no l) e = rw (get_or-eq_default s 32 {n = j} (omega arith)) (unfold white in refl)
      go (yes l) (inl e) = absurd (omega (arith, ap length e, length-drop j s))
      go (yes l) (inr (inl e)) = or_left _ (sym (ap white (first_of l)) ∙ white-is (get_or (drop j s) 0 0) e)
      go (yes l) (inr (inr e)) = or_right (white (get_or s j 32)) (eq-eqb (get_or s j 32) 35 (sym (first_of l) ∙ e))

-- ---- what a name is

run-before : (s : List ℕ) (at k : ℕ) → k < name_run s at → not_name s at k ≡ false
unfolding name_run
run-before s at k m = (lowest_found 25 (not_name s at)).before k m

is_all : (a n b c : ℕ) → a ≡ 34 → 1 ≤ n → n ≤ 24 → b ≡ 34 → (white c || eqb c 35) ≡ true → is_name a n b c ≡ true
unfolding is_name
is_all a n b c p l m q r = and_both (and_both (and_both (and_both (eq-eqb a 34 p) (le-leb 1 n l)) (le-leb n 24 m)) (eq-eqb b 34 q)) r

module _ (s : List ℕ) (at n : ℕ) where
  is-named : 1 ≤ n → named s at ≡ n → NameAt s at n
  is-named l e = go (told (Test s at))
    where
      go : (Test s at ≡ true) ⊎ (Test s at ≡ false) → NameAt s at n
      go (inr h) = absurd (omega (arith, named_no s at h))
      go (inl h) = rw (← run) (record {
        opened = is-opened _ _ _ _ h;
        some = is_some (get_or s at 0) (name_run s (at + 1)) _ _ h;
        most = is-most (get_or s at 0) (name_run s (at + 1)) _ _ h;
        each = λ k m. is_byte _ (not-false _ (run-before s (at + 1) k m));
        closed = is_closed _ _ _ _ h;
        parted = parted_of s (at + name_run s (at + 1) + 2) (is_parted _ _ _ _ h);
      })
        where
          run : name_run s (at + 1) ≡ n
          run = named-yes s at _ refl h ∙ e

  pub name-is : NameAt s at n → named s at ≡ n
  name-is h = sym (named-yes s at n run test)
    where
      z : at + 1 + n ≡ at + n + 1
      z = omega arith

      run : n ≡ name_run s (at + 1)
      run = run_is s (at + 1) n (omega (arith, h.most)) (λ j l. ap not (byte-is _ (h.each j l))) (λ l. rw (z, h.closed, quote-none))

      test : Test s at ≡ true
      test = rw (← run) (is_all _ n _ _ h.opened h.some h.most h.closed (of_parted s (at + n + 2) h.parted))

pub named-is : (s : List ℕ) (at n : ℕ) → 1 ≤ n → (named s at ≡ n) ↔ NameAt s at n
named-is s at n l = (is-named s at n l, name-is s at n)

pub named_none : (s : List ℕ) (at : ℕ) → (named s at ≡ 0) ↔ ((n : ℕ) → NameAt s at n → ⊥)
named_none s at = (λ e n h. omega (arith, h.some, name-is s at n h), λ f. go f (ℕ_discrete (named s at) 0))
  where
    go : ((n : ℕ) → NameAt s at n → ⊥) → Dec (named s at ≡ 0) → named s at ≡ 0
    go f (yes e) = e
    go f (no d) = absurd (f (named s at) (is-named s at (named s at) (omega arith) refl))

-- ---- what is made spaces

blank_in : (s : List ℕ) (at n k : ℕ) → k < length s → at ≤ k → k < at + n → get_or (blanked s at n) k 0 ≡ 32
unfolding blanked
blank_in s at zero k l a b = absurd (omega arith)
blank_in s at (suc n) k l a b = go (ℕ_discrete k (at + n)) (blank_in s at n k l a)
  where
    go : Dec (k ≡ at + n) → (k < at + n → get_or (blanked s at n) k 0 ≡ 32) → get_or (set (blanked s at n) (at + n) 32) k 0 ≡ 32
    go (yes e) f = rw e (get_or-set_same (blanked s at n) (at + n) 32 0 (omega (arith, length-blanked s at n)))
    go (no d) f = get_or-set_other (blanked s at n) (at + n) k 32 0 d ∙ f (omega arith)

blank_out : (s : List ℕ) (at n k : ℕ) → (k < at) ⊎ (at + n ≤ k) → get_or (blanked s at n) k 0 ≡ get_or s k 0
unfolding blanked
blank_out s at zero k h = refl
blank_out s at (suc n) k (inl a) = get_or-set_other (blanked s at n) (at + n) k 32 0 (λ e. omega arith) ∙ blank_out s at n k (inl a)
blank_out s at (suc n) k (inr b) = get_or-set_other (blanked s at n) (at + n) k 32 0 (λ e. omega arith) ∙ blank_out s at n k (inr (omega arith))

pub quoted-none : (n : ℕ) → n ≡ 0 → quoted n ≡ 0
unfolding quoted pick
quoted-none n e = rw e

pub quoted-some : (n : ℕ) → 1 ≤ n → quoted n ≡ n + 2
unfolding quoted
quoted-some n l = sym (pick-false _ (ne_eqb n 0 (λ e. omega arith)))

module _ (s : List ℕ) (i : ℕ) where
  abbrev T : List ℕ
  T = unnamed_to s i

  abbrev At : ℕ
  At = behind T i

  more : unnamed_to s (suc i) ≡ blanked T At (quoted (named T At))
  unfolding unnamed_to unnamed_at
  more = refl

  pub unnamed_stays : named T At ≡ 0 → unnamed_to s (suc i) ≡ T
  unnamed_stays e = more ∙ ap (blanked T At) (quoted-none (named T At) e) ∙ unfold blanked in refl

  pub unnamed_byte : (k : ℕ) → k < length s → Within T i k → get_or (unnamed_to s (suc i)) k 0 ≡ 32
  unnamed_byte k l w =
      ap (λ (x : List ℕ). get_or x k 0) (more ∙ ap (blanked T At) (quoted-some (named T At) w.there))
      ∙ blank_in T At (named T At + 2) k (omega (arith, length-unnamed s i)) w.from (omega (arith, w.to))

  pub unnamed-rest : (k : ℕ) → (Within T i k → ⊥) → get_or (unnamed_to s (suc i)) k 0 ≡ get_or T k 0
  unnamed-rest k f = go (ℕ_discrete (named T At) 0) (dec_lt k At) (dec_lt k (At + named T At + 2))
    where
      out : (k < At) ⊎ (At + quoted (named T At) ≤ k) → get_or (unnamed_to s (suc i)) k 0 ≡ get_or T k 0
      out h = ap (λ (x : List ℕ). get_or x k 0) more ∙ blank_out T At (quoted (named T At)) k h

      go : Dec (named T At ≡ 0) → Dec (k < At) → Dec (k < At + named T At + 2) → get_or (unnamed_to s (suc i)) k 0 ≡ get_or T k 0
      go (yes e) d b = ap (λ (x : List ℕ). get_or x k 0) (unnamed_stays e)
      go (no n) (yes a) b = out (inl a)
      go (no n) (no a) (no b) = out (inr (omega (arith, quoted-some (named T At) (omega arith))))
      go (no n) (no a) (yes b) = absurd (f (record { there = omega arith; from = omega arith; to = b }))

  pub name-bytes : (k : ℕ) → k < length (name_of s i) → get_or (name_of s i) k 0 ≡ get_or s (At + 1 + k) 0
  unfolding place_in
  name-bytes k l =
      let m : k < named T At = omega (arith, name-length s i) in
      unfold name_of in (get_or-take (named T At) (drop (At + 1) s) k 0 m ∙ get_or-drop (At + 1) s k 0)

  pub name-count : length (name_of s i) ≡ named T At
  unfolding place_in
  name-count = name-length s i

-- ---- no quote is left in a table that is read

module _ (s : List ℕ) where
  -- up to the end of the nth word stand white space and numbers alone
  before-past : (n : ℕ) → Numbers s n → (k : ℕ) → k < past_nth s n → get_or s k 0 ≢ 34
  before-past zero h k l e = omega (arith, none)
    where
      none : past_nth s 0 ≡ 0
      none = unfold past_nth in refl
  before-past (suc n) h k l e = go (dec_lt k (past_nth s n)) (dec_lt k (nth_start s n)) (λ a. before-past n (λ j m. h j (omega arith)) k a e)
    where
      typed : nth_typed s n ≡ take (past_nth s (suc n) - nth_start s n) (drop (nth_start s n) s)
      typed = unfold nth_typed in refl

      size : length (nth_typed s n) ≡ past_nth s (suc n) - nth_start s n
      size = ap length typed ∙ length-take-le _ _ (omega (arith, past-within s (suc n), length-drop (nth_start s n) s))

      go : Dec (k < past_nth s n) → Dec (k < nth_start s n) → (k < past_nth s n → ⊥) → ⊥
      go (yes a) d f = f a
      go (no a) (yes b) f = clash (sym (ap white e) ∙ not-false _ ((start_sought s (past_nth s n)).before k (omega arith) (unfold nth_start in b))) (unfold white in refl)
      go (no a) (no b) f =
          let m : k - nth_start s n < past_nth s (suc n) - nth_start s n = omega arith in
          let z : nth_start s n + (k - nth_start s n) ≡ k = omega arith in
          let q : get_or (nth_typed s n) (k - nth_start s n) 0 ≡ get_or s k 0 = ap (λ (x : List ℕ). get_or x (k - nth_start s n) 0) typed ∙ get_or-take _ (drop (nth_start s n) s) _ 0 m ∙ get_or-drop (nth_start s n) s _ 0 ∙ ap (λ (j : ℕ). get_or s j 0) z in
          omega (arith, number-high (nth_typed s n) (h n (omega arith)).0 (k - nth_start s n) (omega (arith, size)))

  pub numbers_quoteless : Numbers s 98 → nth_start s 98 ≡ length s → Without 34 s
  numbers_quoteless h f k l e = go (dec_lt k (past_nth s 98))
    where
      go : Dec (k < past_nth s 98) → ⊥
      go (yes a) = before-past 98 h k a e
      go (no a) = clash (sym (ap white e) ∙ not-false _ ((start_sought s (past_nth s 98)).before k (omega arith) (omega (arith, begins)))) (unfold white in refl)
        where
          begins : start_from s (past_nth s 98) ≡ length s
          begins = let e : start_from s (past_nth s 98) ≡ nth_start s 98 = unfold nth_start in refl in e ∙ f

pub quotes-gone : (s : List ℕ) → (read_table s).refusal ≡ 0 → Without 34 (cleared s)
quotes-gone s e = let w = (read s).0 e in numbers_quoteless (cleared s) w.1 (w.2 ∙ sym (length-cleared s))

-- ---- what is answered

names-read : (s : List ℕ) → NamesOf (name_of s) (names_in s)
unfolding names_in
names-read s =
    record {
      sizes = (length-list_of 768 _, length-list_of 32 _);
      lengths = λ i l. get_d-list_of 32 _ i l;
      bytes = λ i k l m.
          let a : (24 * i + k) / 24 ≡ i = omega arith in
          let b : (24 * i + k) % 24 ≡ k = omega arith in
          get_d-list_of 768 _ (24 * i + k) (omega arith) ∙ rw (a, b);
    }

names-none : NamesOf (λ i. []) no_names
unfolding no_names
names-none =
    record {
      sizes = (length-replicate {0} {A = ℕ} 768 0, length-replicate {0} {A = ℕ} 32 0);
      lengths = λ i l. get_or-replicate 32 i 0 0 l;
      bytes = λ i k l m. get_or-replicate 768 (24 * i + k) 0 0 (omega arith);
    }

pub names-taken : (s : List ℕ) → (read_table s).refusal ≡ 0 → NamesOf (name_of s) (names_of s)
unfolding names_of
names-taken s e = rw (← pick_true {a = names_in s} no_names (eq-eqb (read_table s).refusal 0 e)) (names-read s)

pub names-refused : (s : List ℕ) → (read_table s).refusal ≢ 0 → NamesOf (λ i. []) (names_of s)
unfolding names_of
names-refused s d = rw (← pick-false {b = no_names} (names_in s) (ne_eqb (read_table s).refusal 0 d)) names-none
