-- A table that is written out in the plain way is read back as it is, also with spaces behind the numbers of its sources.
use Prim.Native.Nat.{ℕ, zero, suc, ◌+◌, ◌-◌, ◌*◌, ◌^◌, ◌≤◌, ◌<◌}
use mathlib.Core.Path.{◌≡◌, refl, sym, ap, ◌∙◌, subst}
use mathlib.Core.Bool.{true, false}
use mathlib.Core.List.{List, [], ◌∷◌, ◌++◌, map, append_assoc}
use mathlib.Core.Logic.{inl, inr}
use native.Mathlib.Nat.{add-zero, zero-add}
use native.Mathlib.Omega.{arith}
use native.Mathlib.Decide.{dec_lt, ℕ_discrete}
use lib.ListN.{length, get_or, replicate, length-append, length-map, length-replicate, get_or-map, get_or-eq_default}
use lib.Seq.{ext_get_or}
use borrow.Author.Tests.{le-leb}
use Rattle.words.specs.Choice.{pick}
use Rattle.words.proofs.TruthLaws.{not-holds}
use Rattle.text.specs.Text.{decimal}
use Rattle.text.specs.Promises.{worth_after}
use Rattle.text.proofs.DigitLaws.{length-below}
use Rattle.stack.specs.declared.Table.{Table}
use Rattle.tables.specs.Names.{cleared}
use Rattle.tables.specs.Typed.{bare, nth_start, nth_typed}
use Rattle.tables.specs.Number.{digit, worth_from, is_hex, is_number, worth}
use Rattle.tables.specs.Reading.{entered, every_third, table_of, taken, read_table}
use Rattle.tables.specs.Layout.{Without, Gap, nothing, space, Parted, Spread, done, more, lines_from, plain}
use Rattle.tables.specs.Facts.{Words}
use Rattle.tables.proofs.NameLaws.{length-cleared}
use Rattle.tables.proofs.FillLaws.{length-list_of, get_d-list_of}
use Rattle.tables.proofs.LayoutLaws.{spread_quoteless, found-cleared}
use Rattle.tables.proofs.NumberLaws.{are-digits, number-plain, hex-first}
use Rattle.tables.proofs.RefusalLaws.{read, read-values}
use Rattle.text.proofs.Promises as Text

-- ---- a decimal is a number, and worth what it says

pub entered_as : (v : ℕ) → v < 2 ^ 32 → entered v ≡ v
unfolding entered
entered_as v l = omega arith

pub entered-most : (v : ℕ) → 2 ^ 32 ≤ v → entered v ≡ 0xFFFFFFFF
unfolding entered
entered-most v l = omega arith

abbrev Tens : List ℕ → Type 0
Tens ds = (k : ℕ) → k < length ds → (48 ≤ get_or ds k 0) × (get_or ds k 0 ≤ 57)

pub digit-plain : (b : ℕ) → 48 ≤ b → b ≤ 57 → digit b ≡ b - 48
unfolding digit pick
digit-plain b l m = rw (le-leb 48 b l, le-leb b 57 m)

worth_tens : (v : ℕ) (ds : List ℕ) → Tens ds → worth_from 10 v ds ≡ worth_after v ds
unfolding worth_from worth_after
worth_tens v [] h = refl
worth_tens v (b ∷ ds) h = rw (digit-plain b (h 0 (omega arith)).0 (h 0 (omega arith)).1) (worth_tens (10 * v + (b - 48)) ds (λ k l. h (suc k) (omega arith)))

module _ (v : ℕ) (l : v < 2 ^ 32) where
  pub tens : Tens (decimal v)
  tens = (Text.kept).decimal_bytes v

  worth-is : worth_from 10 0 (decimal v) ≡ v
  worth-is = worth_tens 0 (decimal v) tens ∙ (Text.kept).decimal_worth v (omega arith)

  pub some-digit : 0 < length (decimal v)
  some-digit = go (ℕ_discrete v 0) (dec_lt 0 (length (decimal v)))
    where
      none : (ds : List ℕ) → (0 < length ds → ⊥) → ds ≡ []
      none [] n = refl
      none (b ∷ ds) n = absurd (n (omega arith))

      go : Dec (v ≡ 0) → Dec (0 < length (decimal v)) → 0 < length (decimal v)
      go d (yes m) = m
      go (yes e) (no n) = rw (e, (Text.kept).decimal_zero) (omega arith)
      go (no d) (no n) = absurd (d (sym worth-is ∙ ap (worth_from 10 0) (none (decimal v) n) ∙ unfold worth_from in refl))

  not-hex : is_hex (decimal v) ≡ false
  not-hex = not-holds (is_hex (decimal v)) (λ h. go (dec_lt 1 (length (decimal v))) (hex-first (decimal v) h).1)
    where
      go : Dec (1 < length (decimal v)) → get_or (decimal v) 1 0 ≡ 120 → ⊥
      go (yes m) e = omega (arith, (tens 1 m).1)
      go (no m) e = omega (arith, get_or-eq_default (decimal v) 0 {n = 1} (omega arith))

  pub decimal_number : is_number (decimal v) ≡ true
  decimal_number =
      (number-plain (decimal v) not-hex).0
      ∙ are-digits 10 (decimal v) (record {
        some = some-digit;
        each = λ k m. omega (arith, (tens k m).0, (tens k m).1, digit-plain (get_or (decimal v) k 0) (tens k m).0 (tens k m).1);
      })

  decimal-worth : worth (decimal v) ≡ v
  decimal-worth = (number-plain (decimal v) not-hex).1 ∙ worth-is

  decimal-value : entered (worth (decimal v)) ≡ v
  decimal-value = ap entered decimal-worth ∙ entered_as v l

  decimal-length : length (decimal v) ≤ 10
  decimal-length = length-below 20 10 v (omega arith) (omega arith)

-- ---- the numbers of a table, one after the other

values_from : Table → ℕ → ℕ → List ℕ
values_from t zero i = t.forced ∷ t.mark ∷ []
values_from t (suc k) i = get_or t.priority i 0 ∷ get_or t.kind i 0 ∷ get_or t.frame i 0 ∷ values_from t k (i + 1)

-- the number in a column of the jth row
column : (t : Table) (f : ℕ) (get : ℕ → ℕ) → ((k i : ℕ) → get_or (values_from t (suc k) i) f 0 ≡ get i)
    → (k i j : ℕ) → j < k → get_or (values_from t k i) (3 * j + f) 0 ≡ get (i + j)
unfolding values_from
column t f get h zero i j l = absurd (omega arith)
column t f get h (suc k) i zero l =
    let z : 3 * 0 + f ≡ f = omega arith in
    rw (z, add-zero i) (h k i)
column t f get h (suc k) i (suc j) l =
    let z : 3 * suc j + f ≡ suc (suc (suc (3 * j + f))) = omega arith in
    let y : i + suc j ≡ i + 1 + j = omega arith in
    rw (z, y) (column t f get h k (i + 1) j (omega arith))

last-two : (t : Table) (k i f : ℕ) → get_or (values_from t k i) (3 * k + f) 0 ≡ get_or (t.forced ∷ t.mark ∷ []) f 0
unfolding values_from
last-two t zero i f = let z : 3 * 0 + f ≡ f = omega arith in rw z
last-two t (suc k) i f = let z : 3 * suc k + f ≡ suc (suc (suc (3 * k + f))) = omega arith in rw z (last-two t k (i + 1) f)

-- the table of its numbers is the table
table_back : (t : Table) → Words t → table_of (values_from t 32 0) ≡ t
unfolding table_of
table_back t w =
    rw (each 0 t.priority w.lengths.0 (λ k i. unfold values_from in refl), each 1 t.kind w.lengths.1 (λ k i. unfold values_from in refl), each 2 t.frame w.lengths.2 (λ k i. unfold values_from in refl), last-two t 32 0 0, last-two t 32 0 1)
  where
    each : (f : ℕ) (l : List ℕ) → length l ≡ 32 → ((k i : ℕ) → get_or (values_from t (suc k) i) f 0 ≡ get_or l i 0) → every_third (values_from t 32 0) f ≡ l
    each f l e h =
        unfold every_third in (ext_get_or 0 _ l (length-list_of 32 _ ∙ sym e) (λ i m.
        let b : i < 32 = omega (arith, length-list_of 32 (λ i. get_or (values_from t 32 0) (3 * i + f) 0)) in
        get_d-list_of 32 _ i b ∙ column t f (λ n. get_or l n 0) h 32 0 i b ∙ ap (λ (n : ℕ). get_or l n 0) (zero-add i)))

-- ---- they are spread over its lines

abbrev words_from : Table → ℕ → ℕ → List (List ℕ)
words_from t k i = map decimal (values_from t k i)

feed : Gap (10 ∷ [])
feed = space 10 [] (inr (inr (inr refl))) nothing

blank : Gap (32 ∷ [])
blank = space 32 [] (inl refl) nothing

pub at_feed : (s : List ℕ) → Parted (10 ∷ s)
at_feed s = inr (inl (inr (inr (inr refl))))

at-blank : (s : List ℕ) → Parted (32 ∷ s)
at-blank s = inr (inl (inl refl))

spaces-gap : (n : ℕ) → Gap (replicate n 32 ++ (10 ∷ []))
spaces-gap zero = feed
spaces-gap (suc n) = space 32 (replicate n 32 ++ (10 ∷ [])) (inl refl) (spaces-gap n)

at_spaces : (n : ℕ) (s : List ℕ) → Parted (replicate n 32 ++ (10 ∷ s))
at_spaces zero s = at_feed s
at_spaces (suc n) s = at-blank (replicate n 32 ++ (10 ∷ s))

module _ (t : Table) (w : Words t) (m : ℕ → ℕ) where
  abbrev spaces : ℕ → List ℕ
  spaces i = replicate (m i) 32

  spread_lines : (k i : ℕ) → i + k ≡ 32 → (g : List ℕ) → Gap g → Spread (words_from t k i) (g ++ lines_from t spaces k i)
  unfolding lines_from values_from
  spread_lines zero i e g q =
      more g (decimal t.forced) _ _ q (decimal_number t.forced w.forced) (at_feed _)
      (more (10 ∷ []) (decimal t.mark) _ _ feed (decimal_number t.mark w.mark) (at_feed _) (done (10 ∷ []) feed))
  spread_lines (suc k) i e g q =
      more g (decimal (get_or t.priority i 0)) _ _ q (decimal_number _ (w.priority i (omega arith))) (at-blank _)
      (more (32 ∷ []) (decimal (get_or t.kind i 0)) _ _ blank (decimal_number _ (w.kind i (omega arith))) (at-blank _)
      (more (32 ∷ []) (decimal (get_or t.frame i 0)) _ _ blank (decimal_number _ (w.frame i (omega arith))) (at_spaces (m i) _)
      (subst (Spread (words_from t k (i + 1))) (append_assoc (spaces i) (10 ∷ []) (lines_from t spaces k (i + 1)))
      (spread_lines k (i + 1) (omega arith) (spaces i ++ (10 ∷ [])) (spaces-gap (m i))))))

  lines-length : ((i : ℕ) → i < 32 → m i ≤ 27) → (k i : ℕ) → i + k ≡ 32 → length (lines_from t spaces k i) ≤ 60 * k + 22
  unfolding lines_from
  lines-length b zero i e =
      simp length-append (omega (arith, decimal-length t.forced w.forced, decimal-length t.mark w.mark))
  lines-length b (suc k) i e =
      simp length-append (omega (arith, lines-length b k (i + 1) (omega arith), b i (omega arith), length-replicate {0} {A = ℕ} (m i) 32, decimal-length _ (w.priority i (omega arith)), decimal-length _ (w.kind i (omega arith)), decimal-length _ (w.frame i (omega arith))))

module _ (t : Table) (w : Words t) where
  values_length : (k i : ℕ) → length (values_from t k i) ≡ 3 * k + 2
  unfolding values_from
  values_length zero i = refl
  values_length (suc k) i = omega (arith, values_length k (i + 1))

  values-worth : (k i : ℕ) → i + k ≡ 32 → map (λ w. entered (worth w)) (words_from t k i) ≡ values_from t k i
  unfolding values_from
  values-worth zero i e = rw (decimal-value t.forced w.forced, decimal-value t.mark w.mark)
  values-worth (suc k) i e =
      rw (decimal-value _ (w.priority i (omega arith)), decimal-value _ (w.kind i (omega arith)), decimal-value _ (w.frame i (omega arith)), values-worth k (i + 1) (omega arith))

  forced-worth : worth (get_or (words_from t 32 0) 96 []) < 2 ^ 32
  forced-worth = let e : get_or (words_from t 32 0) 96 [] ≡ decimal t.forced = unfold values_from in refl in rw (e, decimal-worth t.forced w.forced) w.forced

-- ---- whatever stands between 98 numbers

abbrev value_as : List ℕ → ℕ
value_as w = entered (worth w)

value_none : value_as [] ≡ 0
unfolding entered worth is_hex worth_from pick
value_none = refl

pub spread : (ws : List (List ℕ)) (s : List ℕ) → Spread ws s → length ws ≡ 98 → worth (get_or ws 96 []) < 2 ^ 32 → length s ≤ 65536
    → read_table s ≡ taken (table_of (map value_as ws))
spread ws s d e w l =
    let f = found-cleared ws s d in
    let small : (k : ℕ) → k < 98 → k ≡ 96 → worth (nth_typed (cleared s) k) < 2 ^ 32 = λ k m q. omega (arith, ap worth (f.0 k (omega arith)).0, ap (λ (n : ℕ). worth (get_or ws n [])) q) in
    read-values s (map value_as ws)
    ((read s).1 (l, (λ k m. ((f.0 k (omega arith)).1, small k m)), ap (nth_start (cleared s)) (sym e) ∙ f.1 ∙ length-cleared s))
    (λ k m. ap (λ (x : ℕ). get_or (map value_as ws) k x) (sym value_none) ∙ get_or-map value_as ws k [] ∙ ap value_as (sym (f.0 k (omega arith)).0))

module _ (t : Table) (w : Words t) (m : ℕ → ℕ) where
  pub spaced_quoteless : Without 34 (bare (lines_from t (λ i. replicate (m i) 32) 32 0))
  spaced_quoteless = spread_quoteless (words_from t 32 0) _ (spread_lines t w m 32 0 refl [] nothing)

  pub spaced_back : ((i : ℕ) → i < 32 → m i ≤ 27) → read_table (lines_from t (λ i. replicate (m i) 32) 32 0) ≡ taken t
  spaced_back b =
      spread (words_from t 32 0) _ (spread_lines t w m 32 0 refl [] nothing) (length-map (values_from t 32 0) decimal ∙ values_length t w 32 0) (forced-worth t w) (omega (arith, lines-length t w m b 32 0 refl))
      ∙ ap taken (ap table_of (values-worth t w 32 0 refl) ∙ table_back t w)

pub read_back_lem : (t : Table) → Words t → read_table (plain t) ≡ taken t
read_back_lem t w = spaced_back t w (λ i. 0) (λ i l. omega arith)
