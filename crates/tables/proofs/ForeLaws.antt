-- A name behind numbers that have white space alone between them is found where it stands, and made spaces.
use Prim.Native.Nat.{ℕ, zero, suc, ◌+◌, ◌-◌, ◌*◌, ◌^◌, ◌≤◌, ◌<◌}
use mathlib.Core.Path.{◌≡◌, refl, sym, ap, ◌∙◌, subst}
use mathlib.Core.Bool.{true, false, not}
use mathlib.Core.List.{List, [], ◌∷◌, ◌++◌, append_assoc}
use mathlib.Core.Logic.{◌≢◌, inl, inr}
use native.Mathlib.Nat.{zero-add}
use native.Mathlib.Omega.{arith}
use native.Mathlib.Decide.{dec_lt, ℕ_discrete}
use lib.ListN.{length, get_or, set, drop, replicate, length-append, get_or-append}
use lib.Seq.{get_or-append-add, get_or-append_seam, drop-append-add}
use Rattle.words.proofs.TruthLaws.{clash}
use Rattle.text.specs.Text.{decimal}
use Rattle.tables.specs.Typed.{white, bare, start_from, end_from, past_nth, nth_start}
use Rattle.tables.specs.Names.{named, behind, blanked, quoted, unnamed_at}
use Rattle.tables.specs.Number.{is_number}
use Rattle.tables.specs.Layout.{White, Without, Parted, NameByte, NameAt, Name, in_quotes}
use Rattle.tables.proofs.BareLaws.{bare-plain}
use Rattle.tables.proofs.SeekLaws.{start_is, start_sought, end_is}
use Rattle.tables.proofs.NumberLaws.{number-high, number-some}
use Rattle.tables.proofs.NameLaws.{named-opened}
use Rattle.tables.proofs.NamedLaws.{name-is, quoted-none, quoted-some}
use Rattle.tables.proofs.LayoutLaws.{high-dark, Blank, number-plain, all_of}
use Rattle.tables.proofs.PlainLaws.{at_feed, tens, some-digit}

-- ---- so many bytes made spaces

blanked_cons : (b : ℕ) (s : List ℕ) (at n : ℕ) → blanked (b ∷ s) (suc at) n ≡ b ∷ blanked s at n
unfolding blanked
blanked_cons b s at zero = refl
blanked_cons b s at (suc n) = let z : suc at + n ≡ suc (at + n) = omega arith in rw (z, blanked_cons b s at n)

-- behind a part of the text, this is as it was
blanked-behind : (p s : List ℕ) (n : ℕ) → blanked (p ++ s) (length p) n ≡ p ++ blanked s 0 n
blanked-behind [] s n = refl
blanked-behind (b ∷ p) s n = blanked_cons b (p ++ s) (length p) n ∙ ap (λ (x : List ℕ). b ∷ x) (blanked-behind p s n)

blanked-first : (b : ℕ) (s : List ℕ) (n : ℕ) → blanked (b ∷ s) 0 (suc n) ≡ 32 ∷ blanked s 0 n
unfolding blanked
blanked-first b s zero = refl
blanked-first b s (suc n) = ap (λ (x : List ℕ). set x (0 + suc n) 32) (blanked-first b s n) ∙ rw (zero-add (suc n), zero-add n)

blanked-all : (x r : List ℕ) → blanked (x ++ r) 0 (length x) ≡ replicate (length x) 32 ++ r
blanked-all [] r = unfold blanked in refl
blanked-all (b ∷ x) r = blanked-first b (x ++ r) (length x) ∙ ap (λ (y : List ℕ). 32 ∷ y) (blanked-all x r)

-- ---- words with white space behind each

-- white bytes do not count where the next word is sought
skip : (s : List ℕ) (a b : ℕ) → a ≤ b → b ≤ length s → ((j : ℕ) → a ≤ j → j < b → white (get_or s j 0) ≡ true) → start_from s a ≡ start_from s b
skip s a b l m h =
    let f = start_sought s b in
    sym (start_is s a (start_from s b) (record {
      from = omega (arith, f.from);
      within = omega (arith, f.within);
      before = λ j c d. go j c d (dec_lt j b);
      found = f.found;
    }))
  where
    go : (j : ℕ) → a ≤ j → j < start_from s b → Dec (j < b) → not (white (get_or s j 0)) ≡ false
    go j c d (yes e) = ap not (h j c e)
    go j c d (no e) = (start_sought s b).before j (omega arith) d

-- p has n words and no comment, and ends with white space: whatever follows, the next word is sought from its end on
pub record Fore (p : List ℕ) (n : ℕ) : Type 0 where
  pub plain : Without 35 p
  pub next : (r : List ℕ) → nth_start (p ++ r) n ≡ start_from (p ++ r) (length p)

pub fore-none : Fore [] 0
fore-none = record { plain = λ k l. absurd (omega arith); next = λ r. unfold nth_start past_nth in refl }

blank-plain : (h : List ℕ) → Blank h → Without 35 h
blank-plain h b k l e = clash (sym (ap white e) ∙ b k l) (unfold white in refl)

module _ (p w h : List ℕ) (n : ℕ) (f : Fore p n) (num : is_number w ≡ true) (b : Blank h) (some : 0 < length h) where
  module _ (r : List ℕ) where
    abbrev S : List ℕ
    S = p ++ (w ++ (h ++ r))

    size : length S ≡ length p + (length w + (length h + length r))
    size = simp length-append

    in_word : (k : ℕ) → k < length w → get_or S (length p + k) 0 ≡ get_or w k 0
    in_word k m = get_or-append-add p (w ++ (h ++ r)) k 0 ∙ get_or-append w (h ++ r) 0 k m

    in-gap : (k : ℕ) → k < length h → get_or S (length p + (length w + k)) 0 ≡ get_or h k 0
    in-gap k m = get_or-append-add p (w ++ (h ++ r)) (length w + k) 0 ∙ get_or-append-add w (h ++ r) k 0 ∙ get_or-append h r 0 k m

    dark_at : (j : ℕ) → length p ≤ j → j < length p + length w → white (get_or S j 0) ≡ false
    dark_at j a c =
        let m : j - length p < length w = omega arith in
        let z : length p + (j - length p) ≡ j = omega arith in
        let e : get_or S j 0 ≡ get_or w (j - length p) 0 = ap (λ (k : ℕ). get_or S k 0) (sym z) ∙ in_word (j - length p) m in
        high-dark (get_or S j 0) (omega (arith, number-high w num (j - length p) m))

    white_at : (j : ℕ) → length p + length w ≤ j → j < length p + length w + length h → white (get_or S j 0) ≡ true
    white_at j a c =
        let m : j - (length p + length w) < length h = omega arith in
        let z : length p + (length w + (j - (length p + length w))) ≡ j = omega arith in
        ap white (ap (λ (k : ℕ). get_or S k 0) (sym z) ∙ in-gap (j - (length p + length w)) m) ∙ b (j - (length p + length w)) m

    begins : nth_start S n ≡ length p
    begins =
        f.next (w ++ (h ++ r))
        ∙ sym (start_is S (length p) (length p) (record {
          from = omega arith;
          within = omega (arith, size);
          before = λ j a c. absurd (omega arith);
          found = λ m. ap not (dark_at (length p) (omega arith) (omega (arith, number-some w num)));
        }))

    ends : end_from S (length p) ≡ length p + length w
    ends =
        sym (end_is S (length p) (length p + length w) (record {
          from = omega arith;
          within = omega (arith, size);
          before = dark_at;
          found = λ m. white_at (length p + length w) (omega arith) (omega arith);
        }))

    sought_on : nth_start S (suc n) ≡ start_from S (length p + length w + length h)
    sought_on = start ∙ ap (start_from S) past ∙ skip S (length p + length w) (length p + length w + length h) (omega arith) (omega (arith, size)) white_at
      where
        start : nth_start S (suc n) ≡ start_from S (past_nth S (suc n))
        start = unfold nth_start in refl

        past : past_nth S (suc n) ≡ length p + length w
        past = let e : past_nth S (suc n) ≡ end_from S (nth_start S n) = unfold past_nth nth_start in refl in e ∙ ap (end_from S) begins ∙ ends

  pub fore-more : Fore (p ++ (w ++ h)) (suc n)
  fore-more =
      record {
        plain = all_of (λ b. b ≢ 35) p (w ++ h) f.plain (all_of (λ b. b ≢ 35) w h (number-plain w num) (blank-plain h b));
        next = λ r.
            let e : (p ++ (w ++ h)) ++ r ≡ p ++ (w ++ (h ++ r)) = simp append_assoc in
            let z : length (p ++ (w ++ h)) ≡ length p + length w + length h = simp length-append (omega arith) in
            rw (e, z) (sought_on r);
      }

-- what is not white and begins no comment is the next word
next_at : (q r : List ℕ) (c i : ℕ) → Fore q (3 * i + 3) → white c ≡ false → c ≢ 35 → behind (q ++ (c ∷ r)) i ≡ length q
unfolding behind
next_at q r c i f d e = rw bared (f.next (c ∷ bare r) ∙ sym (start_is _ (length q) (length q) (record {
  from = omega arith;
  within = omega (arith, length-append q (c ∷ bare r));
  before = λ j a b. absurd (omega arith);
  found = λ l. ap not (ap white (get_or-append_seam q c (bare r) 0) ∙ d);
})))
  where
    one : (k : ℕ) → k < 1 → get_or (c ∷ []) k 0 ≢ 35
    one zero l = e
    one (suc k) l = absurd (omega arith)

    bared : bare (q ++ (c ∷ r)) ≡ q ++ (c ∷ bare r)
    bared = bare-plain q (c ∷ r) f.plain ∙ ap (λ (x : List ℕ). q ++ x) (bare-plain (c ∷ []) r one)

-- ---- one name

module _ (q x r : List ℕ) (name : Name x) (some : 1 ≤ length x) where
  abbrev Quoted : List ℕ
  Quoted = 34 ∷ (x ++ (34 ∷ (10 ∷ r)))

  stands : NameAt (q ++ Quoted) (length q) (length x)
  stands =
      record {
        opened = get_or-append_seam q 34 (x ++ (34 ∷ (10 ∷ r))) 0;
        some = some;
        most = name.most;
        each = λ k l.
            let z : length q + 1 + k ≡ length q + suc k = omega arith in
            let e : get_or (q ++ Quoted) (length q + 1 + k) 0 ≡ get_or x k 0
            = ap (λ (j : ℕ). get_or (q ++ Quoted) j 0) z ∙ get_or-append-add q Quoted (suc k) 0 ∙ get_or-append x (34 ∷ (10 ∷ r)) 0 k l in
            subst (λ (b : ℕ). NameByte b) (sym e) (name.each k l);
        closed =
            let z : length q + length x + 1 ≡ length q + suc (length x + 0) = omega arith in
            ap (λ (j : ℕ). get_or (q ++ Quoted) j 0) z ∙ get_or-append-add q Quoted (suc (length x + 0)) 0 ∙ get_or-append-add x (34 ∷ (10 ∷ r)) 0 0;
        parted =
            let z : length q + length x + 2 ≡ length q + suc (length x + 1) = omega arith in
            let e : drop (length q + length x + 2) (q ++ Quoted) ≡ 10 ∷ r
            = ap (λ (j : ℕ). drop j (q ++ Quoted)) z ∙ drop-append-add q Quoted (suc (length x + 1)) ∙ drop-append-add x (34 ∷ (10 ∷ r)) 1 in
            subst (λ (s : List ℕ). Parted s) (sym e) (at_feed r);
      }

-- a text that begins with a digit
pub record Begun (s : List ℕ) : Type 0 where
  pub first : ℕ
  pub rest : List ℕ
  pub is : s ≡ first ∷ rest
  pub digit : 48 ≤ first

pub begun-decimal : (v : ℕ) (s : List ℕ) → v < 2 ^ 32 → Begun (decimal v ++ s)
begun-decimal v s l = go (decimal v) (some-digit v l) (λ m. (tens v l 0 m).0)
  where
    go : (ds : List ℕ) → 0 < length ds → (0 < length ds → 48 ≤ get_or ds 0 0) → Begun (ds ++ s)
    go [] m h = absurd (omega arith)
    go (b ∷ ds) m h = record { first = b; rest = ds ++ s; is = refl; digit = h m }

-- behind p, which the numbers of source i end, its name is found and made spaces
pub record Taken (p x r : List ℕ) (i : ℕ) : Type 0 where
  pub place : behind (p ++ (in_quotes x ++ (10 ∷ r))) i ≡ length p + 1
  pub count : named (p ++ (in_quotes x ++ (10 ∷ r))) (length p + 1) ≡ length x
  pub left : unnamed_at (p ++ (in_quotes x ++ (10 ∷ r))) i ≡ p ++ (replicate (length (in_quotes x)) 32 ++ (10 ∷ r))

module _ (p r : List ℕ) (i : ℕ) (f : (b : ℕ) → White b → Fore (p ++ (b ∷ [])) (3 * i + 3)) where
  longer : (b : ℕ) → length (p ++ (b ∷ [])) ≡ length p + 1
  longer b = length-append p (b ∷ [])

  left_is : (s : List ℕ) (n : ℕ) → behind s i ≡ length p + 1 → named s (length p + 1) ≡ n → unnamed_at s i ≡ blanked s (length p + 1) (quoted n)
  unfolding unnamed_at
  left_is s n e g = rw (e, g)

  -- a digit is no name
  taken_none : (c : ℕ) → 48 ≤ c → Taken p [] (c ∷ r) i
  unfolding in_quotes
  taken_none c d = record { place = place; count = none; left = left_is T 0 place none ∙ ap (blanked T (length p + 1)) (quoted-none 0 refl) ∙ unfold blanked in refl }
    where
      T : List ℕ
      T = p ++ (10 ∷ (c ∷ r))

      place : behind T i ≡ length p + 1
      place =
          ap (λ (s : List ℕ). behind s i) (sym (append_assoc p (10 ∷ []) (c ∷ r)))
          ∙ next_at (p ++ (10 ∷ [])) r c i (f 10 (inr (inr (inr refl)))) (high-dark c d) (λ e. omega arith) ∙ longer 10

      none : named T (length p + 1) ≡ 0
      none = go (ℕ_discrete (named T (length p + 1)) 0)
        where
          go : Dec (named T (length p + 1) ≡ 0) → named T (length p + 1) ≡ 0
          go (yes e) = e
          go (no e) = absurd (omega (arith, named-opened T (length p + 1) e, get_or-append-add p (10 ∷ (c ∷ r)) 1 0))

  taken-some : (b : ℕ) (bs : List ℕ) → Name (b ∷ bs) → Taken p (b ∷ bs) r i
  unfolding in_quotes
  taken-some b bs name = record { place = place; count = count; left = left }
    where
      x : List ℕ
      x = b ∷ bs

      q : List ℕ
      q = p ++ (32 ∷ [])

      T : List ℕ
      T = p ++ (in_quotes x ++ (10 ∷ r))

      dark : white 34 ≡ false
      dark = unfold white in refl

      as-name : T ≡ q ++ (34 ∷ (x ++ (34 ∷ (10 ∷ r))))
      as-name = simp append_assoc

      as_bytes : T ≡ q ++ ((34 ∷ (x ++ (34 ∷ []))) ++ (10 ∷ r))
      as_bytes = simp append_assoc

      place : behind T i ≡ length p + 1
      place = ap (λ (s : List ℕ). behind s i) as-name ∙ next_at q (x ++ (34 ∷ (10 ∷ r))) 34 i (f 32 (inl refl)) dark (λ e. omega arith) ∙ longer 32

      count : named T (length p + 1) ≡ length x
      count =
          ap (λ (s : List ℕ). named s (length p + 1)) as-name ∙ ap (named (q ++ (34 ∷ (x ++ (34 ∷ (10 ∷ r)))))) (sym (longer 32))
          ∙ name-is (q ++ (34 ∷ (x ++ (34 ∷ (10 ∷ r))))) (length q) (length x) (stands q x r name (omega arith))

      size : quoted (length x) ≡ length (34 ∷ (x ++ (34 ∷ [])))
      size = quoted-some (length x) (omega arith) ∙ omega (arith, length-append x (34 ∷ []))

      left : unnamed_at T i ≡ p ++ (replicate (length (in_quotes x)) 32 ++ (10 ∷ r))
      left =
          left_is T (length x) place count ∙ ap (λ (n : ℕ). blanked T n (quoted (length x))) (sym (longer 32)) ∙ ap (blanked T (length q)) size
          ∙ ap (λ (s : List ℕ). blanked s (length q) (length (34 ∷ (x ++ (34 ∷ []))))) as_bytes
          ∙ blanked-behind q ((34 ∷ (x ++ (34 ∷ []))) ++ (10 ∷ r)) (length (34 ∷ (x ++ (34 ∷ []))))
          ∙ ap (λ (s : List ℕ). q ++ s) (blanked-all (34 ∷ (x ++ (34 ∷ []))) (10 ∷ r))
          ∙ append_assoc p (32 ∷ []) (replicate (length (34 ∷ (x ++ (34 ∷ [])))) 32 ++ (10 ∷ r))

pub taken_is : (p x r : List ℕ) (i : ℕ) → ((b : ℕ) → White b → Fore (p ++ (b ∷ [])) (3 * i + 3)) → Name x → Begun r → Taken p x r i
taken_is p [] r i f name d = subst (λ (s : List ℕ). Taken p [] s i) (sym d.is) (taken_none p d.rest i f d.first d.digit)
taken_is p (b ∷ bs) r i f name d = taken-some p r i f b bs name
