-- The numbers of the text are read as they are, and no comment in it ends before its line does.
use Prim.Native.Nat.{ℕ, suc, ◌+◌, ◌-◌, ◌*◌, ◌/◌, ◌%◌, ◌^◌, ◌<◌}
use mathlib.Core.Path.{◌≡◌, refl, sym, ap, ◌∙◌}
use mathlib.Core.Bool.{Bool, true, not, ◌&&◌, false≢true}
use mathlib.Core.List.{List, [], ◌∷◌, ◌++◌}
use native.Mathlib.Omega.{arith}
use lib.Dec.{eqb}
use lib.ListN.{length, get_or}
use borrow.Author.Tests.{eq-eqb, eqb-true}
use Rattle.words.specs.Choice.{pick}
use Rattle.words.specs.Counting.{all_below}
use Rattle.words.proofs.CountingLaws.{all_at}
use Rattle.words.proofs.TruthLaws.{and_left, and_right}
use Rattle.text.specs.Text.{hex_digit, hex_of, hex, decimal_of, decimal}
use Rattle.text.proofs.DigitLaws.{hex-nth, length-hex}
use Rattle.text.specs.Phrases.{bytes}
use Rattle.tables.specs.Layout.{Without}
use Rattle.tables.specs.Number.{digit, worth_from, are_digits, is_hex, is_number, worth}
use Rattle.tables.proofs.NumberLaws.{are-digits, number-hex}

-- ---- one decimal digit

abbrev reads : ℕ → Bool
reads p = is_number (decimal p) && eqb (worth (decimal p)) p

small-read : all_below 8 reads ≡ true
unfolding all_below decimal_of is_number are_digits worth worth_from is_hex digit pick
small-read = refl

pub small_number : (p : ℕ) → p < 8 → is_number (decimal p) ≡ true
small_number p l = and_left (is_number (decimal p)) (eqb (worth (decimal p)) p) (all_at 8 reads small-read p l)

pub small-worth : (p : ℕ) → p < 8 → worth (decimal p) ≡ p
small-worth p l = eqb-true (worth (decimal p)) p (and_right (is_number (decimal p)) (eqb (worth (decimal p)) p) (all_at 8 reads small-read p l))

pub nought_number : is_number (48 ∷ []) ≡ true
unfolding all_below is_number are_digits is_hex digit pick
nought_number = refl

pub nought-worth : worth (48 ∷ []) ≡ 0
unfolding worth worth_from is_hex digit pick
nought-worth = refl

-- ---- eight hexadecimal digits

hex_rule : all_below 16 (λ (d : ℕ). eqb (digit (hex_digit d)) d) ≡ true
unfolding all_below hex_digit digit pick
hex_rule = refl

digit-hex : (d : ℕ) → d < 16 → digit (hex_digit d) ≡ d
digit-hex d l = eqb-true (digit (hex_digit d)) d (all_at 16 (λ (d : ℕ). eqb (digit (hex_digit d)) d) hex_rule d l)

worth_snoc : (b v : ℕ) (ds : List ℕ) (d : ℕ) → worth_from b v (ds ++ (d ∷ [])) ≡ b * worth_from b v ds + digit d
unfolding worth_from
worth_snoc b v [] d = refl
worth_snoc b v (x ∷ ds) d = worth_snoc b (b * v + digit x) ds d

no-worth : (v : ℕ) → worth_from 16 0 (hex_of 0 v) ≡ 0
unfolding hex_of worth_from
no-worth v = refl

one-worth : (k v : ℕ) → worth_from 16 0 (hex_of (suc k) v) ≡ 16 * worth_from 16 0 (hex_of k (v / 16)) + v % 16
unfolding hex_of
one-worth k v =
    worth_snoc 16 0 (hex_of k (v / 16)) (hex_digit (v % 16))
    ∙ ap (λ (d : ℕ). 16 * worth_from 16 0 (hex_of k (v / 16)) + d) (digit-hex (v % 16) (omega arith))

-- two digits more
two-worth : (k v : ℕ) → worth_from 16 0 (hex_of (suc (suc k)) v) ≡ 256 * worth_from 16 0 (hex_of k (v / 256)) + v % 256
two-worth k v =
    let e : v / 16 / 16 ≡ v / 256 = omega arith in
    omega (arith, one-worth (suc k) v, one-worth k (v / 16), ap (λ (u : ℕ). worth_from 16 0 (hex_of k u)) e)

four-worth : (k v : ℕ) → worth_from 16 0 (hex_of (suc (suc (suc (suc k)))) v) ≡ 65536 * worth_from 16 0 (hex_of k (v / 65536)) + v % 65536
four-worth k v =
    let e : v / 256 / 256 ≡ v / 65536 = omega arith in
    omega (arith, two-worth (suc (suc k)) v, two-worth k (v / 256), ap (λ (u : ℕ). worth_from 16 0 (hex_of k u)) e)

hex-value : (v : ℕ) → worth_from 16 0 (hex v) ≡ v % 4294967296
hex-value v = omega (arith, four-worth 4 v, four-worth 0 (v / 65536), no-worth (v / 65536 / 65536))

abbrev pub hex_word : ℕ → List ℕ
hex_word v = 48 ∷ 120 ∷ hex v

is-hex : (v : ℕ) → is_hex (hex_word v) ≡ true
unfolding is_hex
is-hex v = refl

pub hex_number : (v : ℕ) → is_number (hex_word v) ≡ true
hex_number v =
    (number-hex (hex_word v) (is-hex v)).0
    ∙ are-digits 16 (hex v) (record {
      some = omega (arith, length-hex 8 v);
      each = λ j l.
          let i : j < 8 = omega (arith, l, length-hex 8 v) in
          omega (arith, ap digit (hex-nth 8 v j i), digit-hex (v / 16 ^ (8 - 1 - j) % 16) (omega arith));
    })

pub hex-worth : (v : ℕ) → worth (hex_word v) ≡ v % 4294967296
hex-worth v = (number-hex (hex_word v) (is-hex v)).1 ∙ hex-value v

-- ---- comments

abbrev lasts : List ℕ → ℕ → Bool
lasts c k = not (eqb (get_or c k 0) 10)

without-by : (c : List ℕ) → all_below (length c) (lasts c) ≡ true → Without 10 c
without-by c h k l e = false≢true (sym (ap not (eq-eqb (get_or c k 0) 10 e)) ∙ all_at (length c) (lasts c) h k l)

-- behind the numbers of a source
abbrev pub note : ℕ → List ℕ
note i = bytes " source " ++ decimal i

abbrev noted : ℕ → Bool
noted i = all_below (length (note i)) (lasts (note i))

notes : all_below 32 noted ≡ true
unfolding all_below bytes decimal_of pick
notes = refl

pub without-note : (i : ℕ) → i < 32 → Without 10 (note i)
without-note i l = without-by (note i) (all_at 32 noted notes i l)

-- before all of them, and behind the last two numbers
abbrev pub head_note : List ℕ
head_note = bytes " priority, type and frame in bytes of each source, 0 first; the frames and that of a mark are 0 and to be filled in"

abbrev pub forced_note : List ℕ
forced_note = bytes " forced sources"

abbrev pub mark_note : List ℕ
mark_note = bytes " frame of a mark in bytes"

head_rule : all_below (length head_note) (lasts head_note) ≡ true
unfolding all_below bytes
head_rule = refl

forced_rule : all_below (length forced_note) (lasts forced_note) ≡ true
unfolding all_below bytes
forced_rule = refl

mark_rule : all_below (length mark_note) (lasts mark_note) ≡ true
unfolding all_below bytes
mark_rule = refl

pub without-head : Without 10 head_note
without-head = without-by head_note head_rule

pub without_forced : Without 10 forced_note
without_forced = without-by forced_note forced_rule

pub without-mark : Without 10 mark_note
without-mark = without-by mark_note mark_rule
