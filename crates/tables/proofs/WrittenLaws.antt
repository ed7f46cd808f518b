-- A table that is written out in the plain way with names is read back as it is, with those names.
use Prim.Native.Nat.{ℕ, zero, suc, ◌+◌, ◌-◌, ◌*◌, ◌≤◌, ◌<◌}
use mathlib.Core.Path.{◌≡◌, refl, sym, ap, ◌∙◌, subst}
use mathlib.Core.Bool.{true}
use mathlib.Core.List.{List, [], ◌∷◌, ◌++◌, append_assoc}
use mathlib.Core.Logic.{inl, inr}
use native.Mathlib.Omega.{arith}
use lib.ListN.{length, get_or, take, drop, replicate, length-append, length-replicate}
use lib.Seq.{drop-append-add, take-append_seam}
use Rattle.text.specs.Text.{decimal}
use Rattle.stack.specs.declared.Table.{Table}
use Rattle.tables.specs.Typed.{white, bare}
use Rattle.tables.specs.Names.{place_in, unnamed_at, unnamed_to, cleared}
use Rattle.tables.specs.Named.{name_of, names_of}
use Rattle.tables.specs.Reading.{taken, read_table}
use Rattle.tables.specs.Layout.{White, Without, Name, lines_from, in_quotes, plain_named}
use Rattle.tables.specs.Facts.{Words, NamesOf}
use Rattle.tables.proofs.QuoteLaws.{quoteless}
use Rattle.tables.proofs.NameLaws.{length-unnamed}
use Rattle.tables.proofs.NamedLaws.{names-taken}
use Rattle.tables.proofs.LayoutLaws.{white-is, Blank, blank_spaces}
use Rattle.tables.proofs.PlainLaws.{decimal_number, spaced_quoteless, spaced_back}
use Rattle.tables.proofs.ForeLaws.{Fore, fore-none, fore-more, Begun, begun-decimal, Taken, taken_is}

-- ---- source by source

-- the three numbers of a source, and the lines of the first n sources
abbrev numbers_of : Table → ℕ → List ℕ
numbers_of t i = decimal (get_or t.priority i 0) ++ (32 ∷ (decimal (get_or t.kind i 0) ++ (32 ∷ decimal (get_or t.frame i 0))))

lines_to : Table → (ℕ → List ℕ) → ℕ → List ℕ
lines_to t more zero = []
lines_to t more (suc n) = lines_to t more n ++ (numbers_of t n ++ (more n ++ (10 ∷ [])))

lines_more : (t : Table) (more : ℕ → List ℕ) (k i : ℕ) → lines_from t more (suc k) i ≡ numbers_of t i ++ (more i ++ (10 ∷ lines_from t more k (i + 1)))
unfolding lines_from
lines_more t more k i = simp append_assoc

-- the lines of a table in two parts, the second from its first line on
parts : (t : Table) (more : ℕ → List ℕ) (n k : ℕ) → lines_to t more n ++ lines_from t more k n ≡ lines_from t more (n + k) 0
unfolding lines_to
parts t more zero k = let z : 0 + k ≡ k = omega arith in rw z
parts t more (suc n) k =
    let z : suc n + k ≡ n + suc k = omega arith in
    let y : suc n ≡ n + 1 = omega arith in
    rw (z, ← parts t more n (suc k), lines_more t more k n, y) (simp append_assoc)

module _ (t : Table) (w : Words t) where
  one-white : (b : ℕ) → white b ≡ true → Blank (b ∷ [])
  one-white b e zero l = e
  one-white b e (suc k) l = absurd (omega arith)

  a-space : Blank (32 ∷ [])
  a-space = one-white 32 (white-is 32 (inl refl))

  fore_source : (p h : List ℕ) (n i : ℕ) → Fore p n → i < 32 → Blank h → 0 < length h → Fore (p ++ (numbers_of t i ++ h)) (n + 3)
  fore_source p h n i f l b s = subst (λ (x : List ℕ). Fore x (n + 3)) e (subst (Fore (((p ++ (A ++ (32 ∷ []))) ++ (B ++ (32 ∷ []))) ++ (C ++ h))) z third)
    where
      A : List ℕ
      A = decimal (get_or t.priority i 0)

      B : List ℕ
      B = decimal (get_or t.kind i 0)

      C : List ℕ
      C = decimal (get_or t.frame i 0)

      first : Fore (p ++ (A ++ (32 ∷ []))) (suc n)
      first = fore-more p A (32 ∷ []) n f (decimal_number _ (w.priority i l)) a-space (omega arith)

      second : Fore ((p ++ (A ++ (32 ∷ []))) ++ (B ++ (32 ∷ []))) (suc (suc n))
      second = fore-more _ B (32 ∷ []) (suc n) first (decimal_number _ (w.kind i l)) a-space (omega arith)

      third : Fore (((p ++ (A ++ (32 ∷ []))) ++ (B ++ (32 ∷ []))) ++ (C ++ h)) (suc (suc (suc n)))
      third = fore-more _ C h (suc (suc n)) second (decimal_number _ (w.frame i l)) b s

      z : suc (suc (suc n)) ≡ n + 3
      z = omega arith

      e : ((p ++ (A ++ (32 ∷ []))) ++ (B ++ (32 ∷ []))) ++ (C ++ h) ≡ p ++ (numbers_of t i ++ h)
      e = simp append_assoc

  fore_lines : (m : ℕ → ℕ) (n : ℕ) → n ≤ 32 → Fore (lines_to t (λ i. replicate (m i) 32) n) (3 * n)
  unfolding lines_to
  fore_lines m zero l = fore-none
  fore_lines m (suc n) l =
      let z : 3 * n + 3 ≡ 3 * suc n = omega arith in
      let s : 0 < length {A = ℕ} (replicate (m n) 32 ++ (10 ∷ [])) = simp length-append (omega arith) in
      subst (Fore _) z (fore_source _ (replicate (m n) 32 ++ (10 ∷ [])) (3 * n) n (fore_lines m n (omega arith)) (omega arith) (blank_spaces (m n) (10 ∷ []) (one-white 10 (white-is 10 (inr (inr (inr refl)))))) s)

  -- each line begins with a digit
  begun : (more : ℕ → List ℕ) (k i : ℕ) → i + k ≡ 32 → Begun (lines_from t more k i)
  unfolding lines_from
  begun more zero i e = begun-decimal t.forced _ w.forced
  begun more (suc k) i e = begun-decimal (get_or t.priority i 0) _ (w.priority i (omega arith))

-- ---- the whole table

quotes-most : (x : List ℕ) → Name x → length (in_quotes x) ≤ 27
unfolding in_quotes
quotes-most [] name = omega arith
quotes-most (b ∷ bs) name = omega (arith, name.most, length-append bs (34 ∷ []))

-- what stands in quotes behind p
cut : (p x r : List ℕ) → take (length x) (drop (length p + 1 + 1) (p ++ (in_quotes x ++ (10 ∷ r)))) ≡ x
unfolding in_quotes
cut p [] r = refl
cut p (b ∷ bs) r =
    let z : length p + 1 + 1 ≡ length p + 2 = omega arith in
    rw (z, drop-append-add p (in_quotes (b ∷ bs) ++ (10 ∷ r)) 2) (ap (λ (s : List ℕ). b ∷ take (length bs) s) (append_assoc bs (34 ∷ []) (10 ∷ r)) ∙ ap (λ (s : List ℕ). b ∷ s) (take-append_seam bs (34 ∷ (10 ∷ r))))

-- a text is read as it is with its names made spaces
same_read : (s u : List ℕ) → unnamed_to s 32 ≡ u → Without 34 (bare u) → read_table s ≡ read_table u
unfolding read_table
same_read s u e h =
    let n : length s ≡ length u = sym (length-unnamed s 32) ∙ ap length e in
    rw (n, cleared-is ∙ sym (quoteless u h))
  where
    cleared-is : cleared s ≡ bare u
    cleared-is = unfold cleared in (ap bare e)

module _ (t : Table) (name : ℕ → List ℕ) (w : Words t) (names : (i : ℕ) → i < 32 → Name (name i)) where
  abbrev quotes : ℕ → List ℕ
  quotes i = in_quotes (name i)

  abbrev count : ℕ → ℕ
  count i = length (in_quotes (name i))

  abbrev spaces : ℕ → List ℕ
  spaces i = replicate (count i) 32

  abbrev Written : List ℕ
  Written = lines_from t quotes 32 0

  -- all up to the numbers of source n, names before it made spaces
  abbrev front : ℕ → List ℕ
  front n = lines_to t spaces n ++ numbers_of t n

  -- the names of the first n sources made spaces
  abbrev mixed : ℕ → ℕ → List ℕ
  mixed n k = lines_to t spaces n ++ lines_from t quotes k n

  mixed-is : (n k : ℕ) → mixed n (suc k) ≡ front n ++ (quotes n ++ (10 ∷ lines_from t quotes k (n + 1)))
  mixed-is n k = rw (lines_more t quotes k n) (sym (append_assoc (lines_to t spaces n) (numbers_of t n) (quotes n ++ (10 ∷ lines_from t quotes k (n + 1)))))

  taken_of : (n k : ℕ) → n + suc k ≡ 32 → Taken (front n) (name n) (lines_from t quotes k (n + 1)) n
  taken_of n k e = taken_is (front n) (name n) _ n fore (names n (omega arith)) (begun t w quotes k (n + 1) (omega arith))
    where
      fore : (b : ℕ) → White b → Fore (front n ++ (b ∷ [])) (3 * n + 3)
      fore b h =
          subst (λ (x : List ℕ). Fore x (3 * n + 3)) (sym (append_assoc (lines_to t spaces n) (numbers_of t n) (b ∷ [])))
          (fore_source t w (lines_to t spaces n) (b ∷ []) (3 * n) n (fore_lines t w count n (omega arith)) (omega arith) (one-white t w b (white-is b h)) (omega arith))

  step : (n k : ℕ) → n + suc k ≡ 32 → unnamed_at (mixed n (suc k)) n ≡ mixed (suc n) k
  unfolding lines_to
  step n k e =
      let y : suc n ≡ n + 1 = omega arith in
      ap (λ (s : List ℕ). unnamed_at s n) (mixed-is n k) ∙ (taken_of n k e).left ∙ rw y (simp append_assoc)

  unnamed_to_lem : (n k : ℕ) → n + k ≡ 32 → unnamed_to Written n ≡ mixed n k
  unfolding unnamed_to lines_to
  unnamed_to_lem zero k e = let z : 32 ≡ k = omega arith in ap (λ (j : ℕ). lines_from t quotes j 0) z
  unnamed_to_lem (suc n) k e = ap (λ (s : List ℕ). unnamed_at s n) (unnamed_to_lem n (suc k) (omega arith)) ∙ step n k (omega arith)

  unnamed-all : unnamed_to Written 32 ≡ lines_from t spaces 32 0
  unnamed-all = unnamed_to_lem 32 0 refl ∙ ap (λ (s : List ℕ). lines_to t spaces 32 ++ s) last ∙ parts t spaces 32 0
    where
      last : lines_from t quotes 0 32 ≡ lines_from t spaces 0 32
      last = unfold lines_from in refl

  table_back : read_table Written ≡ taken t
  table_back = same_read Written _ unnamed-all (spaced_quoteless t w count) ∙ spaced_back t w count (λ i l. quotes-most (name i) (names i l))

  same_size : (n : ℕ) → length (lines_to t quotes n) ≡ length (lines_to t spaces n)
  unfolding lines_to
  same_size zero = refl
  same_size (suc n) = simp (length-append, length-replicate) (omega (arith, same_size n))

  name_of_lem : (i : ℕ) → i < 32 → name_of Written i ≡ name i
  unfolding name_of place_in
  name_of_lem i l = rw (unnamed_to_lem i (suc k) e ∙ mixed-is i k, found.place, found.count, whole, size) (cut before (name i) rest)
    where
      k : ℕ
      k = 31 - i

      e : i + suc k ≡ 32
      e = omega arith

      rest : List ℕ
      rest = lines_from t quotes k (i + 1)

      before : List ℕ
      before = lines_to t quotes i ++ numbers_of t i

      found : Taken (front i) (name i) rest i
      found = taken_of i k e

      whole : Written ≡ before ++ (quotes i ++ (10 ∷ rest))
      whole =
          ap (λ (n : ℕ). lines_from t quotes n 0) (sym e) ∙ sym (parts t quotes i (suc k)) ∙ ap (λ (s : List ℕ). lines_to t quotes i ++ s) (lines_more t quotes k i)
          ∙ sym (append_assoc (lines_to t quotes i) (numbers_of t i) (quotes i ++ (10 ∷ rest)))

      size : length (front i) ≡ length before
      size = length-append (lines_to t spaces i) (numbers_of t i) ∙ omega (arith, same_size i, length-append (lines_to t quotes i) (numbers_of t i))

  names_back : NamesOf name (names_of Written)
  unfolding taken
  names_back =
      let n = names-taken Written (ap (λ r. r.refusal) table_back) in
      record {
        sizes = n.sizes;
        lengths = λ i l. n.lengths i l ∙ ap length (name_of_lem i l);
        bytes = λ i k l m. n.bytes i k l m ∙ ap (λ (x : List ℕ). get_or x k 0) (name_of_lem i l);
      }

pub named_back : (t : Table) (name : ℕ → List ℕ) → Words t → ((i : ℕ) → i < 32 → Name (name i)) → (read_table (plain_named t name) ≡ taken t) × NamesOf name (names_of (plain_named t name))
named_back t name w names = (table_back t name w names, names_back t name w names)
