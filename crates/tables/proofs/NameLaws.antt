-- Names of sources: one name, the texts in which they are made spaces one after the other, and how the code finds them.
use Prim.Native.Nat.{ℕ, zero, suc, ◌+◌, ◌-◌, ◌*◌, ◌/◌, ◌%◌, ◌≤◌, ◌<◌}
use mathlib.Core.Path.{◌≡◌, refl, sym, ap, ◌∙◌}
use mathlib.Core.Bool.{Bool, true, false, not, ◌&&◌, ◌||◌}
use mathlib.Core.List.{List, [], ◌∷◌, ◌++◌}
use mathlib.Core.Logic.{◌≢◌, ◌⊎◌, inl, inr}
use native.Mathlib.Numerals.{add-one}
use native.Mathlib.Omega.{arith}
use native.Mathlib.Decide.{dec_lt, ℕ_discrete}
use lib.Dec.{eqb, leb}
use lib.ListN.{length, get_or, set, take, drop, length-set, length-drop, length-append, get_or-eq_default}
use lib.Seq.{take_all, take_at, take-append_seam, get_or-drop, get_or-take, length-take-le}
use Rattle.std.proofs.lemmas.List.{get_or-set_same, get_or-set_other}
use borrow.Author.Tests.{eqb-true, leb-true, le-leb, lt-leb}
use Rattle.words.specs.Choice.{pick}
use Rattle.words.proofs.ChoiceLaws.{pick_true, pick-false, pick_cases}
use Rattle.words.proofs.CountingLaws.{lowest_found, lowest-one}
use Rattle.words.proofs.TruthLaws.{and_left, and_right, told}
use Rattle.text.specs.Text.{write}
use Rattle.text.proofs.WriteLaws.{write-laid, laid-fits}
use Rattle.tables.specs.declared.names.Place.{Place}
use Rattle.tables.specs.Typed.{white, bare, start_from, end_from, past_nth}
use Rattle.tables.specs.Names.{name_byte, name_run, is_name, named, behind, place_in, blanked, quoted, unnamed_at, unnamed_to, unnamed, cleared}
use Rattle.tables.specs.Reading.{list_of}
use Rattle.tables.specs.Named.{place_of, no_place, PlacesOf, name_of, byte_in, names_at, names_in}
use Rattle.tables.proofs.BareLaws.{length-bare}
use Rattle.tables.proofs.FillLaws.{list_of-same}
use Rattle.tables.proofs.SeekLaws.{nth-within}
use Rattle.text.proofs.Promises as Text

-- ---- a byte of a text

-- within a text it does not matter what stands for a byte behind its end
pub get_d-other : (s : List ℕ) (i d e : ℕ) → i < length s → get_or s i d ≡ get_or s i e
get_d-other [] i d e l = absurd (omega arith)
get_d-other (x ∷ s) zero d e l = refl
get_d-other (x ∷ s) (suc i) d e l = get_d-other s i d e (omega arith)

-- a byte other than 0 stands within the text
pub byte-within : (s : List ℕ) (i b : ℕ) → get_or s i 0 ≡ b → 0 < b → i < length s
byte-within s i b e l = go (dec_lt i (length s))
  where
    go : Dec (i < length s) → i < length s
    go (yes m) = m
    go (no m) = absurd (omega (arith, get_or-eq_default s 0 {n = i} (omega arith)))

-- ---- how many bytes of a name follow each other

abbrev pub not_name : List ℕ → ℕ → ℕ → Bool
not_name s at k = not (name_byte (get_or s (at + k) 0))

pub run_is : (s : List ℕ) (at k : ℕ) → k ≤ 25 → ((j : ℕ) → j < k → not_name s at j ≡ false) → (k < 25 → not_name s at k ≡ true) → k ≡ name_run s at
unfolding name_run
run_is s at k a b c = lowest-one (not_name s at) 25 k _ (record { within = a; before = b; found = c }) (lowest_found 25 (not_name s at))

pub run_more : (s : List ℕ) (at k : ℕ) → ((j : ℕ) → j < k → not_name s at j ≡ false) → not_name s at k ≡ false → (j : ℕ) → j < k + 1 → not_name s at j ≡ false
run_more s at k h e j l = go (ℕ_discrete j k)
  where
    go : Dec (j ≡ k) → not_name s at j ≡ false
    go (yes q) = rw q e
    go (no q) = h j (omega arith)

pub run-most : (s : List ℕ) (at : ℕ) → name_run s at ≤ 25
unfolding name_run
run-most s at = (lowest_found 25 (not_name s at)).within

-- the test, as the code makes it
pub not-name : (s : List ℕ) (at k b : ℕ) (x t : Bool) → b ≡ get_or s (at + k) 0 → x ≡ name_byte b → not x ≡ t → not_name s at k ≡ t
not-name s at k b x t e f g = sym (ap not (f ∙ ap name_byte e)) ∙ g

-- ---- one name

abbrev pub Test : List ℕ → ℕ → Bool
Test s at = is_name (get_or s at 0) (name_run s (at + 1)) (get_or s (at + name_run s (at + 1) + 1) 0) (get_or s (at + name_run s (at + 1) + 2) 32)

pub named_as : (s : List ℕ) (at n a b c : ℕ) (x : Bool) → n ≡ name_run s (at + 1) → a ≡ get_or s at 0 → b ≡ get_or s (at + n + 1) 0 → c ≡ get_or s (at + n + 2) 32
    → x ≡ is_name a n b c → x ≡ Test s at
named_as s at n a b c x e f g h i = rw (i, f, g, h, e)

pub named-yes : (s : List ℕ) (at n : ℕ) → n ≡ name_run s (at + 1) → Test s at ≡ true → n ≡ named s at
unfolding named
named-yes s at n e h = e ∙ pick_true _ h

pub named_no : (s : List ℕ) (at : ℕ) → Test s at ≡ false → 0 ≡ named s at
unfolding named
named_no s at h = pick-false _ h

pub named-most : (s : List ℕ) (at : ℕ) → named s at ≤ 25
unfolding named
named-most s at = pick_cases (λ n. n ≤ 25) (Test s at) (λ e. run-most s (at + 1)) (λ e. omega arith)

-- what the test asks, part by part
module _ (a n b c : ℕ) (h : is_name a n b c ≡ true) where
  abbrev A : Bool
  A = eqb a 34

  abbrev L : Bool
  L = leb 1 n

  abbrev M : Bool
  M = leb n 24

  abbrev B : Bool
  B = eqb b 34

  abbrev C : Bool
  C = white c || eqb c 35

  all : (A && L && M && B && C) ≡ true
  unfolding is_name
  all = h

  pub is_parted : (white c || eqb c 35) ≡ true
  is_parted = and_right (A && L && M && B) C all

  pub is_closed : b ≡ 34
  is_closed = eqb-true b 34 (and_right (A && L && M) B (and_left (A && L && M && B) C all))

  pub is-most : n ≤ 24
  is-most = leb-true n 24 (and_right (A && L) M (and_left (A && L && M) B (and_left (A && L && M && B) C all)))

  three : (A && L) ≡ true
  three = and_left (A && L) M (and_left (A && L && M) B (and_left (A && L && M && B) C all))

  pub is_some : 1 ≤ n
  is_some = leb-true 1 n (and_right A L three)

  pub is-opened : a ≡ 34
  is-opened = eqb-true a 34 (and_left A L three)

-- a name ends before the text does
pub named-within : (s : List ℕ) (at : ℕ) → (named s at ≡ 0) ⊎ (at + named s at + 1 < length s)
named-within s at = go (told (Test s at))
  where
    go : (Test s at ≡ true) ⊎ (Test s at ≡ false) → (named s at ≡ 0) ⊎ (at + named s at + 1 < length s)
    go (inr h) = inl (sym (named_no s at h))
    go (inl h) =
        let e : named s at ≡ name_run s (at + 1) = sym (named-yes s at _ refl h) in
        inr (rw e (byte-within s (at + name_run s (at + 1) + 1) 34 (is_closed _ _ _ _ h) (omega arith)))

-- it begins with its quote
pub named-opened : (s : List ℕ) (at : ℕ) → named s at ≢ 0 → get_or s at 0 ≡ 34
named-opened s at d = go (told (Test s at))
  where
    go : (Test s at ≡ true) ⊎ (Test s at ≡ false) → get_or s at 0 ≡ 34
    go (inl h) = is-opened _ _ _ _ h
    go (inr h) = absurd (d (sym (named_no s at h)))

-- ---- made spaces

pub length-blanked : (s : List ℕ) (at n : ℕ) → length (blanked s at n) ≡ length s
unfolding blanked
length-blanked s at zero = refl
length-blanked s at (suc n) = length-set (blanked s at n) (at + n) 32 ∙ length-blanked s at n

pub blank-more : (s x y : List ℕ) (at k : ℕ) → x ≡ blanked s at k → y ≡ set x (at + k) 32 → y ≡ blanked s at (k + 1)
blank-more s x y at k e f = f ∙ rw (e, add-one k) (unfold blanked in refl)

pub blank-done : (s x : List ℕ) (at k n : ℕ) → x ≡ blanked s at k → k ≤ n → n ≤ k → x ≡ blanked s at n
blank-done s x at k n e a b = let q : k ≡ n = omega arith in rw (← q) e

pub blank-length : (s x : List ℕ) (at k : ℕ) → x ≡ blanked s at k → length x ≡ length s
blank-length s x at k e = ap length e ∙ length-blanked s at k

pub length-unnamed : (s : List ℕ) (n : ℕ) → length (unnamed_to s n) ≡ length s
unfolding unnamed_to unnamed_at
length-unnamed s zero = refl
length-unnamed s (suc n) = length-blanked (unnamed_to s n) _ _ ∙ length-unnamed s n

pub length-cleared : (s : List ℕ) → length (cleared s) ≡ length s
unfolding cleared
length-cleared s = length-bare false (unnamed s) ∙ length-unnamed s 32

-- ---- where the nth word begins

pub past-turn : (s : List ℕ) (k p a b : ℕ) → p ≡ past_nth s k → a ≡ start_from s p → b ≡ end_from s a → b ≡ past_nth s (k + 1)
past-turn s k p a b e f g = rw (g, f, e, add-one k) (unfold past_nth in refl)

pub past-done : (s : List ℕ) (k n p : ℕ) → p ≡ past_nth s k → k ≤ n → n ≤ k → p ≡ past_nth s n
past-done s k n p e a b = let q : k ≡ n = omega arith in rw (← q) e

pub behind-within : (s : List ℕ) (i : ℕ) → behind s i ≤ length s
unfolding behind
behind-within s i = omega (arith, nth-within (bare s) (3 * i + 3), length-bare false s)

-- ---- one source after the other

pub place_is : (s : List ℕ) (i a n : ℕ) → a ≡ behind s i → n ≡ named s a → record { start = a + 1; count = n } ≡ place_in s i
unfolding place_in
place_is s i a n e f = rw (f, e)

pub unnamed-is : (s x : List ℕ) (i a n q : ℕ) → a ≡ behind s i → n ≡ named s a → q ≡ quoted n → x ≡ blanked s a q → x ≡ unnamed_at s i
unfolding unnamed_at
unnamed-is s x i a n q e f g h = rw (h, g, f, e)

pub unnamed-more : (s x y : List ℕ) (i : ℕ) → x ≡ unnamed_to s i → y ≡ unnamed_at x i → y ≡ unnamed_to s (i + 1)
unnamed-more s x y i e f = rw (f, e, add-one i) (unfold unnamed_to in refl)

pub place_at : (s x : List ℕ) (i : ℕ) (p : Place) → x ≡ unnamed_to s i → p ≡ place_in x i → p ≡ place_of s i
place_at s x i p e f = rw (f, e)

pub places_more : (f : ℕ → Place) (ps : List Place) (i : ℕ) (p : Place) → i < length ps → p ≡ f i → ((j : ℕ) → j < i → get_or ps j no_place ≡ f j)
    → (j : ℕ) → j < i + 1 → get_or (set ps i p) j no_place ≡ f j
places_more f ps i p l e h j m = go (ℕ_discrete j i)
  where
    go : Dec (j ≡ i) → get_or (set ps i p) j no_place ≡ f j
    go (yes q) = rw q (get_or-set_same ps i p no_place l ∙ e)
    go (no d) = get_or-set_other ps i j p no_place d ∙ h j (omega arith)

pub unnamed-done : (s x : List ℕ) (i : ℕ) → x ≡ unnamed_to s i → i ≤ 32 → 32 ≤ i → x ≡ unnamed s
unnamed-done s x i e a b = let q : i ≡ 32 = omega arith in rw (← q) e

pub quoted-most : (n : ℕ) → quoted n ≤ n + 2
unfolding quoted
quoted-most n = pick_cases (λ m. m ≤ n + 2) (eqb n 0) (λ e. omega arith) (λ e. omega arith)

-- ---- in a room

pub written-whole : (w l : List ℕ) (p : List ℕ × ℕ) → length w ≤ length l → p ≡ write (l, 0) w → take p.1 p.0 ≡ w
written-whole w l p h e = rw (e ∙ (Text.kept).fits l w h) (take-append_seam w (drop (length w) l))

pub written-fits : (w l : List ℕ) (p : List ℕ × ℕ) → p ≡ write (l, 0) w → p.1 ≤ length p.0
written-fits w l p e = laid-fits p l w (e ∙ write-laid l w)

-- x is what is made of the first n bytes of a room, and stands there
pub took-length : (x d : List ℕ) (n : ℕ) → n ≤ length d → x ≡ unnamed (take n d) → length x ≡ n
took-length x d n h e = ap length e ∙ length-unnamed (take n d) 32 ∙ length-take-le n d h

pub front_fits : (x d : List ℕ) (n : ℕ) → length x ≡ n → n ≤ length (x ++ drop n d)
front_fits x d n e = omega (arith, length-append x (drop n d))

pub front-cleared : (s x d : List ℕ) (n : ℕ) → n ≤ length d → take n d ≡ s → x ≡ unnamed (take n d) → bare (take n (x ++ drop n d)) ≡ cleared s
unfolding cleared
front-cleared s x d n h w e = ap bare (take_at x (drop n d) n (took-length x d n h e) ∙ e ∙ ap unnamed w)

-- ---- the bytes of the names

pub rest_at : (s : List ℕ) (start k : ℕ) → get_or (take (length s - start) (drop start s)) k 0 ≡ get_or s (start + k) 0
rest_at s start k =
    ap (λ (x : List ℕ). get_or x k 0) (take_all (length s - start) (drop start s) (omega (arith, length-drop start s))) ∙ get_or-drop start s k 0

pub byte-behind : (s : List ℕ) (start count k : ℕ) → count ≤ k → 0 ≡ byte_in s start count k
unfolding byte_in
byte-behind s start count k l = pick_true _ (le-leb count k l)

pub byte-beyond : (s : List ℕ) (start count k : ℕ) → k < count → length s ≤ start → 0 ≡ byte_in s start count k
unfolding byte_in
byte-beyond s start count k l m = sym (get_or-eq_default s 0 {n = start + k} (omega arith)) ∙ pick-false _ (lt-leb count k l)

pub byte_there : (s : List ℕ) (start count k b : ℕ) → k < count → b ≡ get_or (take (length s - start) (drop start s)) k 0 → b ≡ byte_in s start count k
unfolding byte_in
byte_there s start count k b l e = e ∙ rest_at s start k ∙ pick-false _ (lt-leb count k l)

-- ---- what is answered

module _ (s : List ℕ) (i : ℕ) where
  count_fits : (place_of s i).count ≤ length (drop (place_of s i).start s)
  unfolding place_in
  count_fits = omega (arith, place-fits, length-drop (place_of s i).start s)
    where
      t : List ℕ
      t = unnamed_to s i

      go : (named t (behind t i) ≡ 0) ⊎ (behind t i + named t (behind t i) + 1 < length t) → named t (behind t i) ≤ length s - (behind t i + 1)
      go (inl e) = omega arith
      go (inr l) = omega (arith, length-unnamed s i)

      place-fits : (place_of s i).count ≤ length s - (place_of s i).start
      place-fits = go (named-within t (behind t i))

  pub name-length : length (name_of s i) ≡ (place_of s i).count
  unfolding name_of
  name-length = length-take-le (place_of s i).count (drop (place_of s i).start s) count_fits

  pub name_byte_lem : (k : ℕ) → byte_in s (place_of s i).start (place_of s i).count k ≡ get_or (name_of s i) k 0
  unfolding byte_in name_of
  name_byte_lem k = go (dec_lt k (place_of s i).count)
    where
      go : Dec (k < (place_of s i).count) → pick (leb (place_of s i).count k) 0 (get_or s ((place_of s i).start + k) 0) ≡ get_or (take (place_of s i).count (drop (place_of s i).start s)) k 0
      go (yes l) = sym (pick-false _ (lt-leb _ k l)) ∙ sym (get_or-take (place_of s i).count (drop (place_of s i).start s) k 0 l ∙ get_or-drop (place_of s i).start s k 0)
      go (no l) =
          let n : length (take (place_of s i).count (drop (place_of s i).start s)) ≡ (place_of s i).count = length-take-le (place_of s i).count (drop (place_of s i).start s) count_fits in
          sym (pick_true _ (le-leb _ k (omega arith))) ∙ sym (get_or-eq_default (take (place_of s i).count (drop (place_of s i).start s)) 0 {n = k} (omega arith))

pub names_are : (s : List ℕ) (ps : List Place) → PlacesOf s ps → names_at s ps ≡ names_in s
unfolding names_at names_in
names_are s ps h = rw (bytes, counts)
  where
    bytes : list_of 768 (λ k. byte_in s (get_or ps (k / 24) no_place).start (get_or ps (k / 24) no_place).count (k % 24)) ≡ list_of 768 (λ k. get_or (name_of s (k / 24)) (k % 24) 0)
    bytes =
        list_of-same 768 _ _ (λ k l.
        let m : k / 24 < 32 = omega arith in
        rw (h (k / 24) m) (name_byte_lem s (k / 24) (k % 24)))

    counts : list_of 32 (λ i. (get_or ps i no_place).count) ≡ list_of 32 (λ i. length (name_of s i))
    counts = list_of-same 32 _ _ (λ i l. rw (h i l) (sym (name-length s i)))
