-- What is printed of a record is read back as the table in it.
use Prim.Native.Nat.{ℕ, zero, suc, ◌+◌, ◌*◌, ◌%◌, ◌^◌, ◌<◌}
use mathlib.Core.Path.{◌≡◌, refl, sym, ap, ◌∙◌, subst}
use mathlib.Core.List.{List, [], ◌∷◌, ◌++◌, append_assoc, map}
use mathlib.Core.Logic.{inl, inr}
use native.Mathlib.Nat.{add-zero, zero-add}
use native.Mathlib.Omega.{arith}
use lib.ListN.{length, get_or}
use Rattle.text.specs.Text.{decimal, field}
use Rattle.text.specs.Phrases.{bytes, counted}
use Rattle.aic_record.specs.declared.Aic.{Aic}
use Rattle.aic_record.specs.Mode.{priority_of, type_of}
use Rattle.tables.specs.Layout.{Without, Gap, nothing, space, comment, Parted, Spread, done, more}
use Rattle.tables.specs.Number.{worth}
use Rattle.tables.specs.Reading.{list_of, every_third, table_of, entered, read_table}
use Rattle.tables.proofs.FillLaws.{list_of-same}
use Rattle.tables.proofs.Promises.{kept as tables}
use Rattle.table_text.specs.Text.{table_in, heading, source_line, source_lines, last_lines, table_text}
use Rattle.table_text.proofs.NumberLaws.{small_number, small-worth, nought_number, nought-worth, hex_word, hex_number, hex-worth, note, without-note, head_note, forced_note, mark_note, without-head, without_forced, without-mark}
use Rattle.table_text.proofs.SizeLaws.{table-most}

-- ---- the 98 numbers, and as they are typed

unfoldable numbers_from : List ℕ → ℕ → ℕ → ℕ → List ℕ
numbers_from modes forced zero i = forced ∷ 0 ∷ []
numbers_from modes forced (suc k) i = priority_of (get_or modes i 0) ∷ type_of (get_or modes i 0) ∷ 0 ∷ numbers_from modes forced k (i + 1)

unfoldable words_from : List ℕ → ℕ → ℕ → ℕ → List (List ℕ)
words_from modes forced zero i = hex_word forced ∷ (48 ∷ []) ∷ []
words_from modes forced (suc k) i = decimal (priority_of (get_or modes i 0)) ∷ decimal (type_of (get_or modes i 0)) ∷ (48 ∷ []) ∷ words_from modes forced k (i + 1)

words-length : (modes : List ℕ) (forced k i : ℕ) → length (words_from modes forced k i) ≡ 3 * k + 2
unfolding words_from
words-length modes forced zero i = refl
words-length modes forced (suc k) i = omega (arith, words-length modes forced k (i + 1))

-- each is worth its number
entered_small : (w : List ℕ) (p : ℕ) → worth w ≡ p → p < 2 ^ 32 → entered (worth w) ≡ p
entered_small w p e l = ap entered e ∙ tables.entered_as p l

values : (modes : List ℕ) (forced k i : ℕ) → map (λ w. entered (worth w)) (words_from modes forced k i) ≡ numbers_from modes (forced % 2 ^ 32) k i
unfolding words_from numbers_from
values modes forced zero i =
    rw (entered_small (hex_word forced) (forced % 2 ^ 32) (hex-worth forced) (omega arith), entered_small (48 ∷ []) 0 nought-worth (omega arith))
values modes forced (suc k) i =
    rw (entered_small (decimal (priority_of (get_or modes i 0))) _ (small-worth _ (omega arith)) (omega arith), entered_small (decimal (type_of (get_or modes i 0))) _ (small-worth _ (omega arith)) (omega arith), entered_small (48 ∷ []) 0 nought-worth (omega arith), values modes forced k (i + 1))

-- ---- the table of the numbers

-- the number in a column of the jth row
column : (modes : List ℕ) (forced f : ℕ) (get : ℕ → ℕ) → ((k i : ℕ) → get_or (numbers_from modes forced (suc k) i) f 0 ≡ get i)
    → (k i j : ℕ) → j < k → get_or (numbers_from modes forced k i) (3 * j + f) 0 ≡ get (i + j)
unfolding numbers_from
column modes forced f get h zero i j l = absurd (omega (arith, l))
column modes forced f get h (suc k) i zero l =
    let z : 3 * 0 + f ≡ f = omega arith in
    rw (z, add-zero i) (h k i)
column modes forced f get h (suc k) i (suc j) l =
    let z : 3 * suc j + f ≡ suc (suc (suc (3 * j + f))) = omega arith in
    let y : i + suc j ≡ i + 1 + j = omega arith in
    rw (z, y) (column modes forced f get h k (i + 1) j (omega (arith, l)))

last-two : (modes : List ℕ) (forced k i f : ℕ) → get_or (numbers_from modes forced k i) (3 * k + f) 0 ≡ get_or (forced ∷ 0 ∷ []) f 0
unfolding numbers_from
last-two modes forced zero i f = let z : 3 * 0 + f ≡ f = omega arith in rw z
last-two modes forced (suc k) i f =
    let z : 3 * suc k + f ≡ suc (suc (suc (3 * k + f))) = omega arith in
    rw z (last-two modes forced k (i + 1) f)

table_back : (a : Aic) → table_of (numbers_from a.mode (a.forced % 2 ^ 32) 32 0) ≡ table_in a
unfolding table_of table_in
table_back a =
    rw (each 0 (λ i. priority_of (get_or a.mode i 0)) (λ k i. unfold numbers_from in refl), each 1 (λ i. type_of (get_or a.mode i 0)) (λ k i. unfold numbers_from in refl), each 2 (λ i. 0) (λ k i. unfold numbers_from in refl), last-two a.mode (a.forced % 2 ^ 32) 32 0 0, last-two a.mode (a.forced % 2 ^ 32) 32 0 1)
  where
    each : (f : ℕ) (get : ℕ → ℕ) → ((k i : ℕ) → get_or (numbers_from a.mode (a.forced % 2 ^ 32) (suc k) i) f 0 ≡ get i)
        → every_third (numbers_from a.mode (a.forced % 2 ^ 32) 32 0) f ≡ list_of 32 get
    each f get h =
        unfold every_third in (list_of-same 32 (λ i. get_or (numbers_from a.mode (a.forced % 2 ^ 32) 32 0) (3 * i + f) 0) get
        (λ i l. column a.mode (a.forced % 2 ^ 32) f get h 32 0 i l ∙ ap get (zero-add i)))

-- ---- they are spread over the text

blank : Gap (32 ∷ [])
blank = space 32 [] (inl refl) nothing

at-blank : (s : List ℕ) → Parted (32 ∷ s)
at-blank s = inr (inl (inl refl))

-- a space and a comment to the end of the line
noted : (c : List ℕ) → Without 10 c → Gap (32 ∷ 35 ∷ (c ++ (10 ∷ [])))
noted c w = space 32 _ (inl refl) (comment c [] w nothing)

head-gap : Gap heading
unfolding heading bytes
head-gap = comment head_note [] without-head nothing

row : (mode i : ℕ) (lines last : List ℕ)
    → (source_line mode i ++ lines) ++ last
    ≡ decimal (priority_of mode) ++ (32 ∷ (decimal (type_of mode) ++ (32 ∷ 48 ∷ 32 ∷ 35 ∷ (note i ++ (10 ∷ (lines ++ last))))))
unfolding source_line field counted bytes
row mode i lines last =
    append_assoc (decimal (priority_of mode) ++ field (type_of mode) ++ counted (bytes " 0 # source ") i ++ (10 ∷ [])) lines last
    ∙ append_assoc (decimal (priority_of mode) ++ field (type_of mode) ++ counted (bytes " 0 # source ") i) (10 ∷ []) (lines ++ last)
    ∙ append_assoc (decimal (priority_of mode) ++ field (type_of mode)) (counted (bytes " 0 # source ") i) (10 ∷ (lines ++ last))
    ∙ append_assoc (decimal (priority_of mode)) (field (type_of mode)) (counted (bytes " 0 # source ") i ++ (10 ∷ (lines ++ last)))

spread_last : (forced : ℕ) (g : List ℕ) → Gap g → Spread (hex_word forced ∷ (48 ∷ []) ∷ []) (g ++ last_lines forced)
unfolding last_lines bytes
spread_last forced g q =
    more g (hex_word forced) _ _ q (hex_number forced) (at-blank _)
    (more (32 ∷ 35 ∷ (forced_note ++ (10 ∷ []))) (48 ∷ []) [] _ (noted forced_note without_forced) nought_number (at-blank _)
    (done (32 ∷ 35 ∷ (mark_note ++ (10 ∷ []))) (noted mark_note without-mark)))

spread_lines : (modes : List ℕ) (forced k i : ℕ) → i + k ≡ 32 → (g : List ℕ) → Gap g
    → Spread (words_from modes forced k i) (g ++ (source_lines modes k i ++ last_lines forced))
unfolding words_from source_lines
spread_lines modes forced zero i e g q = spread_last forced g q
spread_lines modes forced (suc k) i e g q =
    let m = get_or modes i 0 in
    let rest = source_lines modes k (i + 1) ++ last_lines forced in
    let behind = spread_lines modes forced k (i + 1) (omega (arith, e)) (32 ∷ 35 ∷ (note i ++ (10 ∷ []))) (noted (note i) (without-note i (omega (arith, e)))) in
    subst (λ (s : List ℕ). Spread (words_from modes forced (suc k) i) (g ++ s)) (sym (row m i (source_lines modes k (i + 1)) (last_lines forced)))
    (more g (decimal (priority_of m)) _ _ q (small_number _ (omega arith)) (at-blank _)
    (more (32 ∷ []) (decimal (type_of m)) _ _ blank (small_number _ (omega arith)) (at-blank _)
    (more (32 ∷ []) (48 ∷ []) _ _ blank nought_number (at-blank _)
    (subst (λ (s : List ℕ). Spread (words_from modes forced k (i + 1)) (32 ∷ 35 ∷ s)) (append_assoc (note i) (10 ∷ []) rest) behind))))

forced_word : (modes : List ℕ) (forced : ℕ) → get_or (words_from modes forced 32 0) 96 [] ≡ hex_word forced
unfolding words_from
forced_word modes forced = refl

pub read_back_lem : (a : Aic) → read_table (table_text a) ≡ record { refusal = 0; offset = 0; table = table_in a }
read_back_lem a =
    let ws = words_from a.mode a.forced 32 0 in
    tables.spread ws (table_text a)
    (subst (λ (s : List ℕ). Spread ws s) (sym whole) (spread_lines a.mode a.forced 32 0 refl heading head-gap))
    (words-length a.mode a.forced 32 0)
    (omega (arith, ap worth (forced_word a.mode a.forced), hex-worth a.forced))
    (omega (arith, table-most a))
    ∙ ap (λ (t : _). record { refusal = 0; offset = 0; table = t }) (ap table_of (values a.mode a.forced 32 0) ∙ table_back a)
  where
    whole : table_text a ≡ heading ++ (source_lines a.mode 32 0 ++ last_lines a.forced)
    whole = unfold table_text in append_assoc heading (source_lines a.mode 32 0) (last_lines a.forced)
